use Rattle.numbers.proofs.Kit.{ap, ◌∙◌}
use Rattle.numbers.specs.Tile.{put_row}
use Rattle.c_blocks.specs.Blocks.{put_numbers}
use Rattle.c_run_blocks.proofs.RunBlockLaws.{layout_put}
use Rattle.c_run_blocks.proofs.put_plan.Goals as goal

pub returns : goal.returns
unfolding put_numbers put_row
returns c =
    c.put_layout-3.ensures
    ∙ ap (layout_put 72 c.args.plan.c) (c.put_layout-2.ensures ∙ ap (layout_put 56 c.args.plan.b) (c.put_layout.ensures ∙ ap (layout_put 40 c.args.plan.a) c.put_sizes.ensures))
