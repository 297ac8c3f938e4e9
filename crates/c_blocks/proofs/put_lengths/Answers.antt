use Rattle.c_blocks.proofs.put_lengths.Goals as goal

pub returns : goal.returns
returns c = cc
