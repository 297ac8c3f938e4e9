use Rattle.numbers.proofs.Kit.{◌≡◌, refl, [], arith, eq-eqb, ne_eqb}
use Rattle.numbers.specs.Bounds.{most_elen}
use Rattle.run.specs.Plan.{integers, floats, elements_of}
use Rattle.run.proofs.WordLaws.{formats}
use Rattle.run_carry.proofs.CarriedLaws.{plan-format}
use Rattle.run_carry.proofs.SumsLaws.{none-fit, multiply-permitted, multiply-left}
use Rattle.run_carry.proofs.multiply_written.Goals as goal
use Rattle.run_carry.proofs.multiply_written.Goals.{Else-plan-eq2, Then-plan-eq2}

-- the elements, by the branch
are-floats : (c : Then-plan-eq2) → elements_of c.args.plan ≡ floats
are-floats c = rw (eq-eqb c.args.plan.kind 2 c.if-plan-eq2.true)

are-integers : (c : Else-plan-eq2) → elements_of c.args.plan ≡ integers
are-integers c = rw (ne_eqb c.args.plan.kind 2 c.if-plan-eq2.false)

pub multiply_floats-requires : goal.multiply_floats-requires
multiply_floats-requires c =
    let a = c.args in
    let p = c.requires.multiplies in
    let F = (formats most_elen a.plan.sew a.plan.factor refl (plan-format a.plan c.requires.plan_value)).1 in
    record {
      permitted = record {
        marks = p.marks;
        is-sound = p.is-sound;
        is-done = multiply-permitted a.plan c.requires.plan_value a.m [] a.registers.now p.marks [] p.is-sound none-fit F.factor F.is floats (are-floats (goal.at.multiply_floats-requires c).Then-plan-eq2) p.is-done;
      };
      md_bound = omega arith;
    }

pub returns-then-plan-eq2 : goal.returns-then-plan-eq2
returns-then-plan-eq2 c =
    let a = c.args in
    let F = (formats most_elen a.plan.sew a.plan.factor refl (plan-format a.plan c.requires.plan_value)).1 in
    multiply-left a.plan c.requires.plan_value a.m a.registers.now F.factor F.is floats (are-floats (goal.at.returns-then-plan-eq2 c).Then-plan-eq2) _ c.multiply_floats.ensures

pub multiply_tiles-requires : goal.multiply_tiles-requires
multiply_tiles-requires c =
    let a = c.args in
    let p = c.requires.multiplies in
    record {
      permitted = record {
        marks = p.marks;
        is-sound = p.is-sound;
        is-done = multiply-permitted a.plan c.requires.plan_value a.m [] a.registers.now p.marks [] p.is-sound none-fit c.plan_factor-factor.result c.plan_factor-factor.ensures integers (are-integers (goal.at.multiply_tiles-requires c).Else-plan-eq2) p.is-done;
      };
      md_bound = omega arith;
    }

pub returns : goal.returns
returns c =
    let a = c.args in
    multiply-left a.plan c.requires.plan_value a.m a.registers.now c.plan_factor-factor.result c.plan_factor-factor.ensures integers (are-integers (goal.at.returns c).Else-plan-eq2) _ c.multiply_tiles.ensures
