use Rattle.std.proofs.Common.{rules}
use mathlib.Core.Path.{refl, ap, ◌∙◌}
use mathlib.Core.Bool.{Bool, cond}
use Prim.Native.Nat.{ℕ}
use native.Mathlib.Omega.{arith}
use lib.Dec.{ltb}
use Rattle.machine.specs.declared.Wrong.TheVariants.{Unlisted, Register}
use Rattle.std.specs.Prelude.{Ok, Err}
use Rattle.text_assembly.specs.declared.TextError.TheVariants.{NoLine}
use Rattle.text_assembly.specs.Answers.{Texted}
use Rattle.text_answers.proofs.ShapeLaws.{with-shape, without-shape, registers-as, accumulators-as}
use Rattle.text_answers.proofs.number_answer.Goals as goal

abbrev told : Bool → Texted
told right = cond right (Ok tt) (Err (NoLine Register))

pub returns-in-116 : goal.returns-in-116
returns-in-116 c =
    let a = c.args in
    with-shape a.word a.number 116 (omega arith) c.in-116.is c.range_answer.result
    (c.range_answer.ensures ∙ ap (λ (x : ℕ). told (ltb x 8)) c.low_field-low.ensures)

pub returns-in-99 : goal.returns-in-99
returns-in-99 c =
    let a = c.args in
    with-shape a.word a.number 99 (omega arith) c.in-99.is c.range_answer-in-99.result
    (c.range_answer-in-99.ensures ∙ ap (λ (x : ℕ). told (ltb x 2)) c.low_field-low.ensures)

pub returns-in-118 : goal.returns-in-118
returns-in-118 c =
    let a = c.args in
    with-shape a.word a.number 118 (omega arith) c.in-118.is c.range_answer-in-118.result
    (c.range_answer-in-118.ensures ∙ ap (λ (x : ℕ). told (ltb x 2)) c.middle_field-middle.ensures)

pub returns-in-109 : goal.returns-in-109
returns-in-109 c =
    let a = c.args in
    with-shape a.word a.number 109 (omega arith) c.in-109.is c.range_answer-in-109.result
    (c.range_answer-in-109.ensures
    ∙ ap told (c.are_registers.ensures ∙ registers-as c.low_field-low.result c.middle_field-middle.result c.high_field.result a.word c.low_field-low.ensures c.middle_field-middle.ensures c.high_field.ensures))

pub returns-in-101 : goal.returns-in-101
returns-in-101 c =
    let a = c.args in
    with-shape a.word a.number 101 (omega arith) c.in-101.is c.range_answer-in-101.result
    (c.range_answer-in-101.ensures
    ∙ ap told (c.are_accumulators.ensures ∙ accumulators-as c.low_field-low.result c.middle_field-middle.result a.word c.low_field-low.ensures c.middle_field-middle.ensures))

pub returns-in-115 : goal.returns-in-115
returns-in-115 c = let a = c.args in with-shape a.word a.number 115 (omega arith) c.in-115.is (Ok tt) refl

pub returns-in-45 : goal.returns-in-45
returns-in-45 c = let a = c.args in with-shape a.word a.number 45 (omega arith) c.in-45.is (Err (NoLine Unlisted)) refl

pub returns-in_default : goal.returns-in_default
returns-in_default c = let a = c.args in without-shape a.word a.number (omega arith) (search rules)
