use Rattle.numbers.proofs.Kit.{◌≡◌, refl, eq-eqb, ne_eqb}
use Rattle.run.specs.Plan.{integers, floats, elements_of}
use Rattle.numbers.specs.Bounds.{most_elen}
use Rattle.run.proofs.WordLaws.{formats}
use Rattle.run_carry.proofs.CarriedLaws.{plan-format, multiply-carried}
use Rattle.run_carry.proofs.multiply.Goals as goal

pub returns-then-plan-eq2 : goal.returns-then-plan-eq2
returns-then-plan-eq2 c =
    let a = c.args in
    let k = c.float_multiply.ensures in
    let q : elements_of a.plan ≡ floats = rw (eq-eqb a.plan.kind 2 c.if-plan-eq2.true) in
    let F = (formats most_elen a.plan.sew a.plan.factor refl (plan-format a.plan c.requires.plan_value)).1 in
    λ seals mem fit. multiply-carried a.plan c.requires.plan_value a.m seals a.registers.now a.marks.now mem c.requires.marks_value fit F.factor F.is c.float_multiply.result _ _ floats q
    (record { answer-is = k.answer-is; registers-are = k.registers-are; marks-are = k.marks-are })

pub returns : goal.returns
returns c =
    let a = c.args in
    let k = c.multiply.ensures in
    let q : elements_of a.plan ≡ integers = rw (ne_eqb a.plan.kind 2 c.if-plan-eq2.false) in
    λ seals mem fit. multiply-carried a.plan c.requires.plan_value a.m seals a.registers.now a.marks.now mem c.requires.marks_value fit c.plan_factor-factor.result c.plan_factor-factor.ensures c.multiply.result _ _ integers q
    (record { answer-is = k.answer-is; registers-are = k.registers-are; marks-are = k.marks-are })
