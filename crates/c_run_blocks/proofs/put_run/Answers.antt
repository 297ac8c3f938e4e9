use Rattle.c_run_blocks.proofs.RunBlockLaws.{put-run-is}
use Rattle.c_run_blocks.proofs.put_run.Goals as goal

pub returns : goal.returns
returns c =
    put-run-is c.args.block.now c.args.run c.spot_of-spot.result c.spot_of-spot.ensures c.put_plan.ensures
    c.write.ensures c.write-2.ensures c.put_spot.ensures c.write-3.ensures c.write-4.ensures c.write-5.ensures
