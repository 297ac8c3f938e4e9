use Rattle.numbers.proofs.Kit.{refl, arith}
use Rattle.run.specs.Plan.{narrow}
use Rattle.run_plan.proofs.PlanLaws.{plan-small}
use Rattle.run_plan.proofs.narrow_bytes.Goals as goal

pub returns : goal.returns
unfolding narrow
returns c =
    record {
      value = refl;
      upper_bound = omega (arith, (plan-small c.args.plan c.requires).0);
    }
