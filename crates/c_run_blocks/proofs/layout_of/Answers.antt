use Rattle.c_run_blocks.proofs.RunBlockLaws.{layout_is}
use Rattle.c_run_blocks.proofs.layout_of.Goals as goal

pub returns : goal.returns
returns c = layout_is c.args.block.now c.args.at c.read.ensures c.read-2.ensures
