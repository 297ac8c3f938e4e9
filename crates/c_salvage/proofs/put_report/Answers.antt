-- `c_salvage::put_report` meets its contract.
use Rattle.numbers.proofs.Kit.{ap, ◌∙◌}
use Rattle.numbers.specs.Tile.{put_le, put_row}
use Rattle.c_blocks.specs.Blocks.{put_numbers}
use Rattle.c_salvage.proofs.put_report.Goals as goal

pub returns : goal.returns
unfolding put_numbers put_row
returns c =
    let s = c.args.salvaged in
    c.write-3.ensures ∙ ap (put_le 16 8 s.place) (c.write-2.ensures ∙ ap (put_le 8 8 s.announced) c.write.ensures)
