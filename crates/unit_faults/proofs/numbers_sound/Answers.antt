use mathlib.Core.Path.{◌≡◌, refl, sym, ◌∙◌}
use mathlib.Core.Bool.{true, false}
use Prim.Native.Nat.{◌/◌, min}
use native.Mathlib.Omega.{arith}
use lib.Dec.{eqb}
use borrow.Author.Tests.{le-leb, lt-leb}
use Rattle.machine.specs.Geometry.{permitted}
use Rattle.machine.specs.Setting.{new_type}
use Rattle.machine.specs.Starting.{is_rule}
use Rattle.machine.proofs.StepLaws.{permitted-bounds, permitted-elen}
use Rattle.machine.proofs.StartLaws.{and-truth}
use Rattle.unit_settings.proofs.FaultLaws.{numbers-by}
use Rattle.unit_faults.proofs.numbers_sound.Goals as goal
use Rattle.unit_faults.proofs.numbers_sound.Goals.{Else-not-permitted_lengths, Else-not-type_arises}

-- the tests that have passed
ok-1 : (c : Else-not-permitted_lengths) → permitted c.args.m.rlen c.args.m.mlen c.args.m.elen ≡ true
ok-1 c = sym c.permitted_lengths.ensures ∙ c.if-not-permitted_lengths.false

ok-2 : (c : Else-not-type_arises) → let m = c.args.m in eqb (new_type m.elen m.mtype) m.mtype ≡ true
ok-2 c = sym c.type_arises.ensures ∙ c.if-not-type_arises.false

pub returns-then-not-permitted_lengths : goal.returns-then-not-permitted_lengths
returns-then-not-permitted_lengths c =
    let m = c.args.m in
    numbers-by m false _ _ _ _ _ (sym c.permitted_lengths.ensures ∙ c.if-not-permitted_lengths.true) refl refl refl refl refl

pub type_arises-requires : goal.type_arises-requires
type_arises-requires c = let m = c.args.m in (permitted-elen m.rlen m.mlen m.elen (ok-1 c)).0

pub returns-then-not-type_arises : goal.returns-then-not-type_arises
returns-then-not-type_arises c =
    let m = c.args.m in
    numbers-by m true false _ _ _ _ (ok-1 (goal.at.returns-then-not-type_arises c).Else-not-permitted_lengths) (sym c.type_arises.ensures ∙ c.if-not-type_arises.true) refl refl refl refl

pub nonzero_div-rows : goal.nonzero_div-rows
nonzero_div-rows c =
    let m = c.args.m in
    let b = permitted-bounds m.rlen m.mlen m.elen (ok-1 (goal.at.nonzero_div-rows c).Else-not-permitted_lengths) in
    omega arith

pub returns-then-m-rows : goal.returns-then-m-rows
returns-then-m-rows c =
    let m = c.args.m in
    numbers-by m true true false _ _ _ (ok-1 (goal.at.returns-then-m-rows c).Else-not-permitted_lengths) (ok-2 (goal.at.returns-then-m-rows c).Else-not-type_arises) (lt-leb m.tile_m (m.mlen / m.rlen) c.if-m-rows.true) refl refl refl

pub returns-then-m-min : goal.returns-then-m-min
returns-then-m-min c =
    let m = c.args.m in
    numbers-by m true true true false _ _ (ok-1 (goal.at.returns-then-m-min c).Else-not-permitted_lengths) (ok-2 (goal.at.returns-then-m-min c).Else-not-type_arises) (le-leb m.tile_m (m.mlen / m.rlen) c.if-m-rows.false)
    (lt-leb m.tile_k (min (m.mlen / m.rlen) (m.rlen / 8)) (omega (arith, c.min.ensures, c.if-m-min.true))) refl refl

pub returns-then-m-pitch : goal.returns-then-m-pitch
returns-then-m-pitch c =
    let m = c.args.m in
    numbers-by m true true true true false _ (ok-1 (goal.at.returns-then-m-pitch c).Else-not-permitted_lengths) (ok-2 (goal.at.returns-then-m-pitch c).Else-not-type_arises) (le-leb m.tile_m (m.mlen / m.rlen) c.if-m-rows.false)
    (le-leb m.tile_k (min (m.mlen / m.rlen) (m.rlen / 8)) (omega (arith, c.min.ensures, c.if-m-min.false)))
    (lt-leb m.tile_n (m.rlen / 8) c.if-m-pitch.true) refl

pub returns : goal.returns
returns c =
    let m = c.args.m in
    c.is_rule.ensures ∙ and-truth (is_rule m.rule)
    ∙ numbers-by m true true true true true (is_rule m.rule) (ok-1 (goal.at.returns c).Else-not-permitted_lengths) (ok-2 (goal.at.returns c).Else-not-type_arises) (le-leb m.tile_m (m.mlen / m.rlen) c.if-m-rows.false)
    (le-leb m.tile_k (min (m.mlen / m.rlen) (m.rlen / 8)) (omega (arith, c.min.ensures, c.if-m-min.false)))
    (le-leb m.tile_n (m.rlen / 8) c.if-m-pitch.false) refl
