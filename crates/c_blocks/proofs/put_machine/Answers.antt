use Rattle.c_blocks.specs.Blocks.{put_machine}
use Rattle.c_blocks.proofs.put_machine.Goals as goal

pub returns : goal.returns
unfolding put_machine
returns c = cc
