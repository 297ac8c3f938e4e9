use Rattle.numbers.proofs.Kit.{refl, arith}
use Rattle.run.specs.Plan.{narrow}
use Rattle.run_start.proofs.StartLaws.{narrow-row}
use Rattle.run_start.proofs.tests.narrow_row.Goals as goal

pub overflow_mul-result : goal.overflow_mul-result
overflow_mul-result c = omega (arith, narrow-row c.args.plan c.requires.plan_value c.args.elements c.requires.elements_bound)

pub returns : goal.returns
unfolding narrow
returns c = (refl, narrow-row c.args.plan c.requires.plan_value c.args.elements c.requires.elements_bound)
