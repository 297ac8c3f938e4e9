use Rattle.numbers.proofs.Kit.{arith}
use Rattle.run_carry.proofs.CarriedLaws.{factor-one}
use Rattle.run_carry.proofs.plan_factor.Goals as goal

pub returns-in_default : goal.returns-in_default
returns-in_default c = factor-one c.args.plan c.requires (omega arith) (omega arith)
