use Rattle.c_run_blocks.proofs.RunBlockLaws.{write-next}
use Rattle.c_run_blocks.proofs.put_spot.Goals as goal

pub returns : goal.returns
returns c = write-next _ _ c.write-4.ensures (write-next _ _ c.write-3.ensures (write-next _ _ c.write-2.ensures c.write.ensures))
