-- The checks of each family: the width rule of arithmetic, registers, mtype once answer 2 has passed, and checks made in parts.
use Rattle.numbers.proofs.Kit.{◌≡◌, refl, sym, ap, ◌∙◌, subst, Bool, true, false, cond, not, List, ◌++◌, ℕ, ◌+◌, ◌*◌, ◌/◌, ◌^◌, ◌≤◌, ◌<◌, arith}
use Rattle.numbers.proofs.Kit.{leb, not-true, eq-eqb, ne_eqb, le-leb, lt-leb, leb-true, Err}
use Rattle.machine.specs.declared.Machine.{Machine}
use Rattle.machine.specs.Tests.{is_in}
use Rattle.machine.proofs.TestLaws.{each_in}
use Rattle.machine.proofs.StartLaws.{and-truth}
use Rattle.machine.specs.Geometry.{elens}
use Rattle.machine.specs.Setting.{sew, mill, maccq}
use Rattle.machine.specs.ArithmeticWords.{width_ok}
use Rattle.machine.proofs.CodeLaws.{verdict-append}
use Rattle.unit_settings.proofs.TypeLaws.{ready-elen, ready-legal}
use Rattle.machine.specs.declared.Refusal.TheVariants.{IllegalType, BadWidth}
use Rattle.machine.proofs.CheckLaws.{passed, refusals}
use Rattle.machine.specs.Answers.{Check, verdict, is_done, Answer}
use Rattle.unit_settings.specs.Parts.{legal_types, Ready}
use Rattle.unit_checks.specs.Parts.{multiply_checks, elementwise_checks, product_checks, float_checks}

-- ---- the width rule of arithmetic

-- by SEW in bytes as code holds it
module _ (elen t s : ℕ) (e : s ≡ sew t) where
  same : (f n : ℕ) → n ≡ f * (8 * sew t) → leb n elen ≡ leb (f * (8 * sew t)) elen
  same f n h = ap (λ (x : ℕ). leb x elen) h

  pub single-ok : leb (8 * s) elen ≡ width_ok elen t 1
  unfolding width_ok
  single-ok = same 1 (8 * s) (omega (arith, e)) ∙ and-truth (leb (1 * (8 * sew t)) elen)

  pub double-ok : leb (16 * s) elen ≡ width_ok elen t 2
  unfolding width_ok
  double-ok = same 2 (16 * s) (omega (arith, e)) ∙ and-truth (leb (2 * (8 * sew t)) elen)

  pub quadruple-none : elen < 32 * s → false ≡ width_ok elen t 4
  unfolding width_ok
  quadruple-none h = rw (lt-leb (4 * (8 * sew t)) elen (omega (arith, e)))

  pub quadruple-ok : 32 * s ≤ elen → maccq t ≡ width_ok elen t 4
  unfolding width_ok
  quadruple-ok h = rw (le-leb (4 * (8 * sew t)) elen (omega (arith, e)))

-- ---- a float multiply

module _ (m : Machine) (marks : List ℕ) (d a b : ℕ) where
  pub float_type : mill m.mtype ≡ true → (Err IllegalType) ≡ verdict (float_checks m marks d a b)
  float_type h = rw h

  pub float-width : mill m.mtype ≡ false → ¬ (sew m.mtype ≡ 4) → (Err BadWidth) ≡ verdict (float_checks m marks d a b)
  float-width h w = rw (h, ne_eqb (8 * sew m.mtype) 32 (λ e. w (omega arith)))

  -- at SEW 32 it is refused exactly as a multiply of single width is
  pub float-rest : Ready m → mill m.mtype ≡ false → sew m.mtype ≡ 4 → verdict (product_checks m marks 1 d a b) ≡ verdict (float_checks m marks d a b)
  unfolding width_ok
  float-rest r h w =
      let most = leb-true 32 m.elen (each_in m.elen elens (leb 32) refl (ready-elen m r)) in
      rw (h, eq-eqb (8 * sew m.mtype) 32 (ap (λ (x : ℕ). 8 * x) w), le-leb (1 * (8 * sew m.mtype)) m.elen (omega arith))

-- ---- mtype once answer 2 has passed

pub type-legal : (m : Machine) (f : ℕ) → Ready m → is_done (verdict (multiply_checks m f)) ≡ true → is_in m.mtype legal_types ≡ true
type-legal m f h d = ready-legal m h (not-true (mill m.mtype) (passed (multiply_checks m f) refl d).0)

pub type-legal-elementwise : (m : Machine) (f : ℕ) → Ready m → is_done (verdict (elementwise_checks m f)) ≡ true → is_in m.mtype legal_types ≡ true
type-legal-elementwise m f h d = ready-legal m h (not-true (mill m.mtype) (passed (elementwise_checks m f) refl d).0)

-- ---- checks made in parts

pub part-refused : (ds bs : List Check) → refusals ds ≡ true → (r : Answer) → r ≡ verdict ds → is_done r ≡ false → r ≡ verdict (ds ++ bs)
part-refused ds bs h r e d = e ∙ ap (λ (t : Bool). cond t (verdict bs) (verdict ds)) (sym (sym (ap is_done e) ∙ d)) ∙ sym (verdict-append ds bs h)

pub part-passed : (ds bs : List Check) → refusals ds ≡ true → is_done (verdict ds) ≡ true → (r : Answer) → r ≡ verdict bs → r ≡ verdict (ds ++ bs)
part-passed ds bs h d r e = e ∙ ap (λ (t : Bool). cond t (verdict bs) (verdict ds)) (sym d) ∙ sym (verdict-append ds bs h)

-- the first part of checks that passed
pub part-done : (ds bs : List Check) → refusals ds ≡ true → is_done (verdict (ds ++ bs)) ≡ true → is_done (verdict ds) ≡ true
part-done ds bs h d = go (is_done (verdict ds)) refl (sym (ap is_done (verdict-append ds bs h)) ∙ d)
  where
    go : (t : Bool) → is_done (verdict ds) ≡ t → is_done (cond t (verdict bs) (verdict ds)) ≡ true → t ≡ true
    go true e g = refl
    go false e g = sym e ∙ g
