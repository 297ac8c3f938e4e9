use Rattle.numbers.proofs.Kit.{refl, pos}
use Rattle.run_carry.proofs.CarriedLaws.{zero-residue, clear-carried}
use Rattle.run_carry.proofs.clear.Goals as goal

pub returns : goal.returns
returns c =
    let a = c.args in
    let k = c.scale.ensures (pos 0) zero-residue refl in
    λ seals mem fit. clear-carried a.plan c.requires.plan_value a.m seals a.registers.now a.marks.now mem c.requires.marks_value fit c.plan_factor-factor.result c.plan_factor-factor.ensures c.scale.result _ _
    (record { answer-is = k.answer-is; registers-are = k.registers-are; marks-are = k.marks-are })
