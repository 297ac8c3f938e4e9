use Rattle.numbers.proofs.Kit.{refl, arith}
use Rattle.run.specs.Plan.{narrow}
use Rattle.run_start.proofs.StartLaws.{wide-most, wide_row}
use Rattle.run_start.proofs.tests.wide_row.Goals as goal

pub overflow_mul-result : goal.overflow_mul-result
overflow_mul-result c = omega (arith, wide-most c.args.plan c.requires)

pub overflow_mul-result-2 : goal.overflow_mul-result-2
overflow_mul-result-2 c = omega (arith, wide_row c.args.plan c.requires)

pub returns : goal.returns
unfolding narrow
returns c = (refl, wide_row c.args.plan c.requires)
