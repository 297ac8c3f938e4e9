use Rattle.numbers.proofs.Kit.{refl}
use Rattle.numbers.specs.Binary32.{multiply_add}
use Rattle.unit_binary32.proofs.multiply_add.Goals as goal

pub returns : goal.returns
unfolding multiply_add
returns c = refl
