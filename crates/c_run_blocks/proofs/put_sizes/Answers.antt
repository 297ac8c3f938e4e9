use Rattle.numbers.specs.Tile.{put_row}
use Rattle.c_blocks.specs.Blocks.{put_numbers}
use Rattle.c_run_blocks.proofs.RunBlockLaws.{write-next}
use Rattle.c_run_blocks.proofs.put_sizes.Goals as goal

pub returns : goal.returns
unfolding put_numbers put_row
returns c =
    write-next _ _ c.write-5.ensures
    (write-next _ _ c.write-4.ensures (write-next _ _ c.write-3.ensures (write-next _ _ c.write-2.ensures c.write.ensures)))
