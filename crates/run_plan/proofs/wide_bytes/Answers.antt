use Rattle.numbers.proofs.Kit.{sym, ap, subst, ℕ, ◌*◌, ◌≤◌, mul-le-mul, arith}
use Rattle.run_plan.proofs.PlanLaws.{plan-small, wide-small}
use Rattle.run.specs.Plan.{narrow}
use Rattle.run_plan.proofs.wide_bytes.Goals as goal

pub overflow_mul-result : goal.overflow_mul-result
overflow_mul-result c = omega (arith, mul-le-mul (plan-small c.args.plan c.requires).1 c.narrow_bytes.ensures.upper_bound)

pub returns : goal.returns
unfolding narrow
returns c =
    let P = c.args.plan in
    record {
      value = ap (λ (x : ℕ). P.factor * x) c.narrow_bytes.ensures.value;
      upper_bound = subst (λ (x : ℕ). P.factor * x ≤ 8) (sym c.narrow_bytes.ensures.value) (wide-small P c.requires);
    }
