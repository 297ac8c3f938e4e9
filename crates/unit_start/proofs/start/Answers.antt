use Rattle.numbers.proofs.Kit.{sym, ap₂, ◌∙◌, true, false, List, ℕ, arith, not-true, not-false, Ok}
use Rattle.machine.specs.declared.Machine.{Machine}
use Rattle.machine.specs.Starting.{started, started_as}
use Rattle.machine.proofs.StartLaws.{started-as, started-bad, few-ranges, many-ranges, startable-paired}
use Rattle.unit_start.proofs.start.Goals as goal

pub returns-then-not-is_startable : goal.returns-then-not-is_startable
returns-then-not-is_startable c =
    let a = c.args in
    started-bad a.rlen a.mlen a.elen a.rule a.seals.now a.registers.now a.marks.now (sym c.is_startable.ensures ∙ c.if-not-is_startable.true)

pub returns-then-seals-gt16 : goal.returns-then-seals-gt16
returns-then-seals-gt16 c =
    let a = c.args in
    let e = sym c.is_startable.ensures ∙ c.if-not-is_startable.false in
    started-as a.rlen a.mlen a.elen a.rule a.seals.now a.registers.now a.marks.now true false e
    (many-ranges a.seals.now (startable-paired a.rlen a.mlen a.elen a.rule a.seals.now a.registers.now a.marks.now e) (omega (arith, c.if-seals-gt16.true)))

pub returns : goal.returns
returns c =
    let a = c.args in
    ap₂ (λ (m : Machine) (z : List ℕ). started_as (started (Ok m)) a.seals.now a.registers.now z) c.fresh_machine.ensures c.clear.ensures
    ∙ started-as a.rlen a.mlen a.elen a.rule a.seals.now a.registers.now a.marks.now true true (sym c.is_startable.ensures ∙ c.if-not-is_startable.false)
    (few-ranges a.seals.now (omega (arith, c.if-seals-gt16.false)))
