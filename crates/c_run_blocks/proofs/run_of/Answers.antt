use Rattle.c_run_blocks.proofs.RunBlockLaws.{run_is}
use Rattle.c_run_blocks.proofs.run_of.Goals as goal

pub returns : goal.returns
returns c =
    run_is c.args.block.now c.plan_of-plan.ensures c.spot_in-spot.ensures c.place_of-place.ensures
    c.read.ensures c.read-2.ensures c.read-3.ensures c.read-4.ensures
