use Rattle.c_run_blocks.proofs.RunBlockLaws.{spot_is}
use Rattle.c_run_blocks.proofs.spot_in.Goals as goal

pub returns : goal.returns
returns c = spot_is c.args.block.now c.read.ensures c.read-2.ensures c.read-3.ensures c.read-4.ensures
