use Rattle.numbers.proofs.Kit.{◌/◌, ◌%◌, ◌≤◌, mul-le-mul, arith}
use Rattle.run_plan.proofs.PlanLaws.{row-halves}
use Rattle.run_plan.proofs.row_times.Goals as goal

pub overflow_mul-high : goal.overflow_mul-high
overflow_mul-high c = let h : c.args.stride / 0x1_0000_0000 ≤ 0xffff_ffff = omega arith in omega (arith, mul-le-mul c.requires h)

pub overflow_mul-low : goal.overflow_mul-low
overflow_mul-low c = let h : c.args.stride % 0x1_0000_0000 ≤ 0xffff_ffff = omega arith in omega (arith, mul-le-mul c.requires h)

pub returns : goal.returns
returns c = row-halves c.args.row c.args.stride
