-- Arithmetic: what the checks of answers 2 to 4 give, and what answer 5 and the rest then are.
use Rattle.numbers.proofs.Kit.{◌≡◌, refl, sym, ap, ◌∙◌, subst, inl, inr, Bool, true, false, cond, List, [], ◌∷◌, ◌++◌, ℕ, zero, ◌+◌, ◌*◌, ◌/◌, ◌≤◌, ◌<◌}
use Rattle.numbers.proofs.Kit.{min, mul-le-mul, one-mul, mul-le-mul_right, div-mul-le_self, zero-mul, mul-zero, mul-pos, eq-zero-or-pos, arith, eqb, length}
use Rattle.numbers.proofs.Kit.{leb-true, eq-eqb, ne_eqb}
use Rattle.machine.specs.declared.Machine.{Machine}
use Rattle.machine.specs.declared.Matrix.TheVariants.{MatrixA, MatrixB, MatrixC}
use Rattle.machine.specs.Answers.{Check, verdict, is_done, Answer, Done}
use Rattle.machine.specs.Setting.{sew}
use Rattle.machine.specs.Refusals.{needs}
use Rattle.machine.proofs.CheckLaws.{Passed, passed}
use Rattle.machine.proofs.CodeLaws.{verdict-append}
use Rattle.unit_tile.specs.Checks.{RowsIn}
use Rattle.unit_tile.proofs.Room.{in-register, rows_end}
use Rattle.unit_geometry.specs.declared.Placed.{Placed}
use Rattle.unit_checks.specs.Parts.{multiply_checks, elementwise_checks, source_checks, MarksReady, AccumulatorFits}
use Rattle.unit_geometry.specs.Tiles.{placed_as}

-- a tile and a width for which the marks are searched
abbrev pub Room : ℕ → Placed → ℕ → Type 0
Room len p w = (p.start + p.rows * p.pitch ≤ len) × (p.columns * w ≤ p.pitch)

pub rows-room : (len : ℕ) (p : Placed) (w : ℕ) → Room len p w → RowsIn p.start p.pitch p.rows (p.columns * w) len × (p.columns * w ≤ p.pitch)
rows-room len p w r = (rows_end p.start p.pitch p.rows (p.columns * w) len r.0 r.1, r.1)

abbrev pub searched : List ℕ → Placed → ℕ → List Check
searched marks p w = needs false marks (λ i. p.start + i * p.pitch) p.rows p.columns w ∷ []

module _ (m : Machine) (marks : List ℕ) (h : MarksReady m marks) where
  abbrev R : ℕ
  R = m.mlen / m.rlen

  abbrev P : ℕ
  P = m.rlen / 8

  pub accumulator-room : (r w : ℕ) → AccumulatorFits m r w → (p : Placed) → p ≡ placed_as m MatrixC r → Room (length marks) p w
  accumulator-room r w f p e =
      subst (λ (p : Placed). Room (length marks) p w) (sym e)
      (omega (arith, h.of_length, in-register R (4 * P) m.tile_m r 2 f.rows_fit f.is-accumulator), f.columns-fit)

  columns-fit : (c : ℕ) → c ≤ P / sew m.mtype → c * sew m.mtype ≤ P
  columns-fit c l = omega (arith, mul-le-mul_right (sew m.mtype) l, div-mul-le_self P (sew m.mtype))

  module _ (f : ℕ) (d : is_done (verdict (multiply_checks m f)) ≡ true) where
    c : Passed (multiply_checks m f)
    c = passed (multiply_checks m f) refl d

    pub a-room : (r w : ℕ) → r < 8 → w ≡ sew m.mtype → (p : Placed) → p ≡ placed_as m MatrixA r → Room (length marks) p w
    a-room r w l ew p e =
        let k : m.tile_k ≤ min R (P / sew m.mtype) = leb-true m.tile_k (min R (P / sew m.mtype)) c.1.1.1.0 in
        subst (λ (p : Placed). Room (length marks) p w) (sym e) (
          omega (arith, h.of_length, in-register R P m.tile_m r 8 (leb-true m.tile_m R c.1.1.0) l),
          subst (λ (w : ℕ). m.tile_k * w ≤ P) (sym ew) (columns-fit m.tile_k (omega arith)),
        )

    pub b-room : (r w : ℕ) → r < 8 → w ≡ sew m.mtype → (p : Placed) → p ≡ placed_as m MatrixB r → Room (length marks) p w
    b-room r w l ew p e =
        let k : m.tile_k ≤ min R (P / sew m.mtype) = leb-true m.tile_k (min R (P / sew m.mtype)) c.1.1.1.0 in
        let k' : m.tile_k ≤ R = omega arith in
        subst (λ (p : Placed). Room (length marks) p w) (sym e) (
          omega (arith, h.of_length, in-register R P m.tile_k r 8 k' l),
          subst (λ (w : ℕ). m.tile_n * w ≤ P) (sym ew) (columns-fit m.tile_n (leb-true m.tile_n (P / sew m.mtype) c.1.1.1.1.0)),
        )

-- ---- answer 5 of a multiply's sources

module _ (m : Machine) (marks : List ℕ) (a b : ℕ) where
  pub no-element : m.tile_m * m.tile_n ≡ 0 → Done ≡ verdict (source_checks m marks a b)
  no-element z = rw (eq-eqb (m.tile_m * m.tile_n) 0 z)

  pub no_rows : m.tile_m ≡ 0 → Done ≡ verdict (source_checks m marks a b)
  no_rows z = no-element (ap (λ (x : ℕ). x * m.tile_n) z ∙ zero-mul m.tile_n)

  pub no-columns : m.tile_n ≡ 0 → Done ≡ verdict (source_checks m marks a b)
  no-columns z = no-element (ap (λ (x : ℕ). m.tile_m * x) z ∙ mul-zero m.tile_m)

  some : ¬ (m.tile_m ≡ 0) → ¬ (m.tile_n ≡ 0) → eqb (m.tile_m * m.tile_n) 0 ≡ false
  some p q = ne_eqb (m.tile_m * m.tile_n) 0 (λ z. absurd (omega (arith, mul-pos {m = m.tile_m} {n = m.tile_n} (positive m.tile_m p) (positive m.tile_n q))))
    where
      positive : (n : ℕ) → ¬ (n ≡ 0) → zero < n
      positive n d = elim (eq-zero-or-pos n) [ inl z ↦ absurd (d z) | inr g ↦ g ]

  module _ (p : ¬ (m.tile_m ≡ 0)) (q : ¬ (m.tile_n ≡ 0)) (w : ℕ) (ew : w ≡ sew m.mtype) where
    abbrev both : ℕ → List Check
    both w = searched marks (placed_as m MatrixA a) w ++ searched marks (placed_as m MatrixB b) w

    both_is : verdict (both w) ≡ verdict (source_checks m marks a b)
    both_is = ap (λ (w : ℕ). verdict (both w)) ew ∙ sym (rw (some p q))

    pub first-source : (x : Placed) → x ≡ placed_as m MatrixA a → (r : Answer) → r ≡ verdict (searched marks x w) → is_done r ≡ false → r ≡ verdict (source_checks m marks a b)
    first-source x e r er d =
        let g : r ≡ verdict (searched marks (placed_as m MatrixA a) w) = er ∙ ap (λ (x : Placed). verdict (searched marks x w)) e in
        g ∙ ap (λ (t : Bool). cond t (verdict (searched marks (placed_as m MatrixB b) w)) (verdict (searched marks (placed_as m MatrixA a) w))) (sym (sym (ap is_done g) ∙ d))
        ∙ sym (verdict-append (searched marks (placed_as m MatrixA a) w) (searched marks (placed_as m MatrixB b) w) refl) ∙ both_is

    pub second-source : (x : Placed) → x ≡ placed_as m MatrixA a → is_done (verdict (searched marks x w)) ≡ true
        → (y : Placed) → y ≡ placed_as m MatrixB b → (r : Answer) → r ≡ verdict (searched marks y w) → r ≡ verdict (source_checks m marks a b)
    second-source x e d y e' r er =
        er ∙ ap (λ (y : Placed). verdict (searched marks y w)) e'
        ∙ ap (λ (t : Bool). cond t (verdict (searched marks (placed_as m MatrixB b) w)) (verdict (searched marks (placed_as m MatrixA a) w))) (sym (sym (ap (λ (x : Placed). is_done (verdict (searched marks x w))) e) ∙ d))
        ∙ sym (verdict-append (searched marks (placed_as m MatrixA a) w) (searched marks (placed_as m MatrixB b) w) refl) ∙ both_is

-- ---- the C tile lies in its accumulator

accumulator-fits : (m : Machine) (r g w : ℕ) → r < 2 → g ≤ 4 → w ≡ sew m.mtype → m.tile_m ≤ m.mlen / m.rlen → m.tile_n ≤ m.rlen / 8 / sew m.mtype → AccumulatorFits m r (g * w)
accumulator-fits m r g w l h ew a b = record {
  is-accumulator = l;
  rows_fit = a;
  columns-fit = subst (λ (w : ℕ). m.tile_n * (g * w) ≤ 4 * (m.rlen / 8)) (sym ew) (
      let e : m.tile_n * sew m.mtype ≤ m.rlen / 8 = omega (arith, mul-le-mul_right (sew m.mtype) b, div-mul-le_self (m.rlen / 8) (sew m.mtype)) in
      omega (arith, mul-le-mul h e));
}

pub product-fits : (m : Machine) (f : ℕ) → is_done (verdict (multiply_checks m f)) ≡ true → (r g w : ℕ) → r < 2 → g ≤ 4 → w ≡ sew m.mtype → AccumulatorFits m r (g * w)
product-fits m f d r g w l h ew =
    let c = passed (multiply_checks m f) refl d in
    accumulator-fits m r g w l h ew (leb-true m.tile_m (m.mlen / m.rlen) c.1.1.0) (leb-true m.tile_n (m.rlen / 8 / sew m.mtype) c.1.1.1.1.0)

pub elementwise-fits : (m : Machine) (f : ℕ) → is_done (verdict (elementwise_checks m f)) ≡ true → (r g w : ℕ) → r < 2 → g ≤ 4 → w ≡ sew m.mtype → AccumulatorFits m r (g * w)
elementwise-fits m f d r g w l h ew =
    let c = passed (elementwise_checks m f) refl d in
    accumulator-fits m r g w l h ew (leb-true m.tile_m (m.mlen / m.rlen) c.1.1.0) (leb-true m.tile_n (m.rlen / 8 / sew m.mtype) c.1.1.1.0)

pub source_fits : (m : Machine) (f : ℕ) → is_done (verdict (elementwise_checks m f)) ≡ true → (r w : ℕ) → r < 2 → w ≡ sew m.mtype → AccumulatorFits m r w
source_fits m f d r w l ew = subst (λ (x : ℕ). AccumulatorFits m r x) (one-mul w) (elementwise-fits m f d r 1 w l (omega arith) ew)
