-- mtype by cases.
use mathlib.Core.Path.{◌≡◌, refl, sym, ap, ◌∙◌}
use mathlib.Core.Bool.{true, false}
use mathlib.Core.List.{[], ◌∷◌}
use Prim.Native.Nat.{ℕ, zero, suc, ◌%◌, ◌^◌, ◌≤◌, ◌<◌}
use native.Mathlib.Omega.{arith}
use lib.Dec.{eqb, ltb}
use borrow.Author.Tests.{ne_eqb, eqb-true, ltb-true}
use mathlib.Core.Logic.{inl, inr}
use types.Run.{OneOf}
use Rattle.machine.specs.declared.Machine.{Machine}
use Rattle.machine.specs.Tests.{is_in}
use Rattle.machine.proofs.MatchLaws.{found}
use Rattle.machine.proofs.TestLaws.{each, each_in}
use Rattle.machine.specs.Geometry.{elens}
use Rattle.machine.specs.Setting.{sew, mill, new_type, legal_type}
use Rattle.machine.proofs.CodeLaws.{types_are, arises-any}
use Rattle.machine.proofs.StepLaws.{permitted-elen}
use Rattle.unit_settings.specs.Parts.{legal_types, Ready}

-- a value that is legal where ELEN is 32 is kept by every machine
pub kept-type : (elen : ℕ) → is_in elen elens ≡ true → (v : ℕ) → is_in v (0 ∷ 1 ∷ 2 ∷ 8 ∷ []) ≡ true → v ≡ new_type elen v
unfolding new_type legal_type sew
kept-type elen known v h =
    eqb-true v (new_type elen v) (each_in v (0 ∷ 1 ∷ 2 ∷ 8 ∷ []) (λ v. eqb v (new_type elen v))
    (each_in elen elens (λ e. each (0 ∷ 1 ∷ 2 ∷ 8 ∷ []) (λ v. eqb v (new_type e v))) refl known) h)

pub small-type : (elen : ℕ) → is_in elen elens ≡ true → (v : ℕ) → v ≤ 2 → v ≡ new_type elen v
small-type elen known zero l = kept-type elen known 0 refl
small-type elen known (suc zero) l = kept-type elen known 1 refl
small-type elen known (suc (suc zero)) l = kept-type elen known 2 refl
small-type elen known (suc (suc (suc v))) l = absurd (omega arith)

pub eight-type : (elen : ℕ) → is_in elen elens ≡ true → (v : ℕ) → v ≡ 8 → v ≡ new_type elen v
eight-type elen known v e = kept-type elen known v (rw e)

-- one that is not is kept by none whose ELEN is 32
pub other-type : (elen v : ℕ) → elen ≡ 32 → 2 < v → ¬ (v ≡ 8) → 2 ^ 63 ≡ new_type elen v
other-type elen v e l d = sym (ap (λ (x : ℕ). new_type x v) e ∙ types_are 32 refl v ∙ rw (ne_eqb v 0 (omega arith), ne_eqb v 1 (omega arith), ne_eqb v 2 (omega arith), ne_eqb v 8 d))

-- the other ELEN
pub is_64 : (elen : ℕ) → is_in elen elens ≡ true → ¬ (elen ≡ 32) → elen ≡ 64
is_64 elen known d = go (found elens elen known)
  where
    go : OneOf elens elen → elen ≡ 64
    go (inl e) = absurd (d e)
    go (inr e) = e

-- the values that ELEN 64 alone keeps
pub wide_type : (elen : ℕ) → elen ≡ 64 → (v : ℕ) → is_in v (3 ∷ 9 ∷ []) ≡ true → v ≡ new_type elen v
unfolding new_type legal_type sew
wide_type elen e v h = eqb-true v (new_type 64 v) (each_in v (3 ∷ 9 ∷ []) (λ v. eqb v (new_type 64 v)) refl h) ∙ ap (λ (x : ℕ). new_type x v) (sym e)

pub no-type : (elen v : ℕ) → elen ≡ 64 → 2 < v → ¬ (v ≡ 8) → ¬ (v ≡ 3) → ¬ (v ≡ 9) → 2 ^ 63 ≡ new_type elen v
no-type elen v e l d f g = sym (ap (λ (x : ℕ). new_type x v) e ∙ types_are 64 refl v
    ∙ rw (ne_eqb v 0 (omega arith), ne_eqb v 1 (omega arith), ne_eqb v 2 (omega arith), ne_eqb v 8 d, ne_eqb v 3 f, ne_eqb v 9 g))

-- SEW in bytes
pub sew-is : (t e : ℕ) → t % 8 ≡ e → 2 ^ e ≡ sew t
unfolding sew
sew-is t e h = ap (λ (x : ℕ). 2 ^ x) (sym h)

-- msew of a legal value
pub msew-small : (t : ℕ) → is_in t legal_types ≡ true → t % 8 < 4
msew-small t h = ltb-true (t % 8) 4 (each_in t legal_types (λ v. ltb (v % 8) 4) refl h)

-- ---- of a machine that is not at fault

pub ready-elen : (m : Machine) → Ready m → is_in m.elen elens ≡ true
ready-elen m r = (permitted-elen m.rlen m.mlen m.elen r.lengths).0

pub ready-legal : (m : Machine) → Ready m → mill m.mtype ≡ false → is_in m.mtype legal_types ≡ true
ready-legal m r = arises-any m.elen (ready-elen m r) m.mtype r.type-arises
