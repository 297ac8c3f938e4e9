use Rattle.c_run_blocks.proofs.RunBlockLaws.{plan-is}
use Rattle.c_run_blocks.proofs.plan_of.Goals as goal

pub returns : goal.returns
returns c =
    plan-is c.args.block.now c.layout_of-a.ensures c.layout_of-b.ensures c.layout_of-c.ensures
    c.read.ensures c.read-2.ensures c.read-3.ensures c.read-4.ensures c.read-5.ensures c.read-6.ensures
