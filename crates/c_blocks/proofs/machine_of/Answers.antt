use Rattle.c_blocks.specs.Blocks.{machine_of}
use Rattle.c_blocks.proofs.machine_of.Goals as goal

pub returns : goal.returns
unfolding machine_of
returns c = cc
