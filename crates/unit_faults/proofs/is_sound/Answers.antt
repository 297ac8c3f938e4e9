use mathlib.Core.Path.{◌≡◌, refl, sym, ap, ◌∙◌}
use mathlib.Core.Bool.{Bool, true, false, ◌&&◌}
use mathlib.Core.List.{List}
use Prim.Native.Nat.{ℕ, ◌*◌}
use native.Mathlib.Omega.{arith}
use borrow.Author.Tests.{eq-eqb, ne_eqb}
use lib.ListN.{length}
use Rattle.machine.specs.Faults.{sound, seals_fit}
use Rattle.unit_ranges.specs.Ranges.{seals_in}
use Rattle.machine.proofs.StepLaws.{permitted-bounds}
use Rattle.unit_settings.specs.Parts.{numbers_sound}
use Rattle.unit_settings.proofs.FaultLaws.{sound-by, numbers-permitted}
use Rattle.unit_faults.proofs.is_sound.Goals as goal
use Rattle.unit_faults.proofs.is_sound.Goals.{After-marks_sound, Else-not-numbers_sound}

-- the state, and the ranges beside it
with : {s t : Bool} (b : List ℕ) → s ≡ t → s && seals_fit (seals_in b) ≡ t && seals_fit (seals_in b)
with b = ap (λ (t : Bool). t && seals_fit (seals_in b))

pub returns-then-not-numbers_sound : goal.returns-then-not-numbers_sound
returns-then-not-numbers_sound c =
    let a = c.args in
    with a.seals.now (sound-by a.m a.registers.now a.marks.now false _ _ _ (sym c.numbers_sound.ensures ∙ c.if-not-numbers_sound.true) refl refl refl)

-- the machine's numbers are sound
numbers : (c : Else-not-numbers_sound) → numbers_sound c.args.m ≡ true
numbers c = sym c.numbers_sound.ensures ∙ c.if-not-numbers_sound.false

pub overflow_mul-m : goal.overflow_mul-m
overflow_mul-m c =
    let m = c.args.m in
    let b = permitted-bounds m.rlen m.mlen m.elen (numbers-permitted m (numbers (goal.at.overflow_mul-m c).Else-not-numbers_sound)) in
    omega arith

pub returns-then-registers-m : goal.returns-then-registers-m
returns-then-registers-m c =
    let a = c.args in
    with a.seals.now (sound-by a.m a.registers.now a.marks.now true false _ _ (numbers (goal.at.returns-then-registers-m c).Else-not-numbers_sound) (ne_eqb (length a.registers.now) (2 * a.m.mlen) c.if-registers-m.true) refl refl)

pub overflow_mul-m-2 : goal.overflow_mul-m-2
overflow_mul-m-2 c =
    let m = c.args.m in
    let b = permitted-bounds m.rlen m.mlen m.elen (numbers-permitted m (numbers (goal.at.overflow_mul-m-2 c).Else-not-numbers_sound)) in
    omega arith

pub returns-then-marks-m : goal.returns-then-marks-m
returns-then-marks-m c =
    let a = c.args in
    with a.seals.now (sound-by a.m a.registers.now a.marks.now true true false _ (numbers (goal.at.returns-then-marks-m c).Else-not-numbers_sound) (eq-eqb (length a.registers.now) (2 * a.m.mlen) c.if-registers-m.false)
    (ne_eqb (length a.marks.now) (2 * a.m.mlen) c.if-marks-m.true) refl)

-- the marks, in a state whose numbers and sizes are sound
marks : (c : After-marks_sound) → let a = c.args in
    c.marks_sound.result ≡ sound a.m a.registers.now a.marks.now
marks c =
    let a = c.args in
    c.marks_sound.ensures ∙ and-truth _ ∙ sound-by a.m a.registers.now a.marks.now true true true _ (numbers (goal.at.After-marks_sound c).Else-not-numbers_sound) (eq-eqb (length a.registers.now) (2 * a.m.mlen) c.if-registers-m.false)
    (eq-eqb (length a.marks.now) (2 * a.m.mlen) c.if-marks-m.false) refl
  where
    and-truth : (t : Bool) → t ≡ t && true
    and-truth true = refl
    and-truth false = refl

pub returns-then-not-marks_sound : goal.returns-then-not-marks_sound
returns-then-not-marks_sound c =
    let a = c.args in
    with a.seals.now (sym c.if-not-marks_sound.true ∙ marks (goal.at.returns-then-not-marks_sound c).After-marks_sound)

pub returns : goal.returns
returns c =
    let a = c.args in
    c.is_fit.ensures ∙ with a.seals.now (sym c.if-not-marks_sound.false ∙ marks (goal.at.returns c).After-marks_sound)
