-- A test of the definitions fails exactly if the sentence of its answer holds.
use Rattle.numbers.proofs.Kit.{◌≡◌, refl, sym, ap, ◌∙◌, subst, ◌⊎◌, inl, inr, Bool, true, false, not, ◌&&◌, ◌||◌, List, [], ◌∷◌, ◌++◌, map, List-as-Memᴰ}
use Rattle.numbers.proofs.Kit.{List·Memᴰ·head, List·Memᴰ·tail, List·Memᴰ·cases-cons, List·Memᴰ·not-nil, ℕ, zero, suc, ◌+◌, ◌-◌, ◌*◌, ◌≤◌, ◌<◌, arith, leb}
use Rattle.numbers.proofs.Kit.{ltb, eqb, length, get_or, ℤ, pos, negsuc, ◌+ℤ◌, eq-eqb, eqb-true, eqb-false, leb-true, leb-false, le-leb, lt-ltb, ltb-true}
use Rattle.numbers.proofs.Kit.{ltb-false}
use Rattle.numbers.specs.Tile.{In}
use Rattle.machine.specs.declared.Matrix.{Matrix}
use Rattle.machine.specs.declared.Matrix.TheVariants.{MatrixA, MatrixB, MatrixC}
use Rattle.machine.specs.declared.Dimension.{Dimension}
use Rattle.machine.specs.Tests.{all, every, within}
use Rattle.machine.specs.Geometry.{Range, sealed, Parameters, State}
use Rattle.machine.specs.Setting.{sew, maccq, maximum, size_in}
use Rattle.machine.specs.Memory.{row_z, row_at, in_memory, inside, misses, rows_miss, distinct}
use Rattle.machine.specs.TransferWords.{width_of}
use Rattle.machine.specs.ArithmeticWords.{width_ok}
use Rattle.machine.proofs.TestLaws.{and-true, and_left, and_right, or_right, false-true, all-at, within_in}
use Rattle.machine.proofs.MemoryLaws.{misses-at, rows-miss-at}
use Rattle.machine.proofs.StoreLaws.{distinct-at}
use Rattle.theorem_refusals.specs.Given.{WidthInMemory, WidthOfOutput, Rows, LiesOutside, InRow, InTwoRows, WritesSealed}

-- a test and the sentence that holds exactly where it fails
pub record Tells (passes : Bool) (S : Type 0) : Type 0 where
  pub shows : passes ≡ false → S
  pub refutes : passes ≡ true → ¬ S

-- of a sentence that is the failing of a rule
pub tells-not : (b : Bool) (K : Type 0) → (b ≡ true → K) → (K → b ≡ true) → Tells b (¬ K)
tells-not b K to back = record { shows = λ e k. false-true (sym e ∙ back k); refutes = λ e n. n (to e) }

-- one that never fails
pub tells-never : (S : Type 0) → ¬ S → Tells true S
tells-never S n = record { shows = λ e. absurd (false-true (sym e)); refutes = λ e. n }

-- ---- tests over a range, and over two

-- the first that fails
pub first-fails : (n : ℕ) (p : ℕ → Bool) → all n p ≡ false → (i : ℕ) × (i < n) × (p i ≡ false) × ((k : ℕ) → k < i → p k ≡ true)
first-fails zero p h = absurd (false-true (sym h))
first-fails (suc n) p h = go (all n p) refl (first-fails n p)
  where
    go : (t : Bool) → all n p ≡ t → (all n p ≡ false → (i : ℕ) × (i < n) × (p i ≡ false) × ((k : ℕ) → k < i → p k ≡ true))
        → (i : ℕ) × (i < suc n) × (p i ≡ false) × ((k : ℕ) → k < i → p k ≡ true)
    go true e ih = (n, omega arith, rw e at h, all-at n p e)
    go false e ih = let x = ih e in (x.0, omega (arith, x.1), x.2, x.3)

or-either : (a b : Bool) → a || b ≡ true → (a ≡ true) ⊎ (b ≡ true)
or-either true b h = inl refl
or-either false b h = inr h

or_left : (a b : Bool) → a ≡ true → a || b ≡ true
or_left true b h = refl
or_left false b h = absurd (false-true h)

-- ---- 3

pub memory-width : (elen t : ℕ) (k : Matrix) (w : ℕ) → width_of elen t k w ≡ true → WidthInMemory elen t k w
unfolding width_of
memory-width elen t MatrixA w h = eqb-true w (sew t) h
memory-width elen t MatrixB w h = eqb-true w (sew t) h
memory-width elen t MatrixC w h =
    let a = eqb w (sew t) in
    let b = eqb w (2 * sew t) in
    let c = maccq t && eqb w (4 * sew t) in
    let r = and_right (leb (8 * w) elen) (a || (b || c)) h in (
      leb-true (8 * w) elen (and_left (leb (8 * w) elen) (a || (b || c)) h),
      elim (or-either a (b || c) r) [
        | inl e ↦ inl (eqb-true w (sew t) e)
        | inr s ↦ inr (elim (or-either b c s) [
          | inl e ↦ inl (eqb-true w (2 * sew t) e)
          | inr m ↦ inr (and_left (maccq t) (eqb w (4 * sew t)) m, eqb-true w (4 * sew t) (and_right (maccq t) (eqb w (4 * sew t)) m))
        ])
      ],
    )

pub width-memory : (elen t : ℕ) (k : Matrix) (w : ℕ) → WidthInMemory elen t k w → width_of elen t k w ≡ true
unfolding width_of
width-memory elen t MatrixA w h = eq-eqb w (sew t) h
width-memory elen t MatrixB w h = eq-eqb w (sew t) h
width-memory elen t MatrixC w h =
    let a = eqb w (sew t) in
    let b = eqb w (2 * sew t) in
    let c = maccq t && eqb w (4 * sew t) in
    and-true (leb (8 * w) elen) (a || (b || c)) (le-leb (8 * w) elen h.0)
    (elim h.1 [
      | inl e ↦ or_left a (b || c) (eq-eqb w (sew t) e)
      | inr s ↦ or_right a (b || c) (elim s [
        | inl e ↦ or_left b c (eq-eqb w (2 * sew t) e)
        | inr m ↦ or_right b c (and-true (maccq t) (eqb w (4 * sew t)) m.0 (eq-eqb w (4 * sew t) m.1))
      ])
    ])

pub output-width : (elen t f : ℕ) → width_ok elen t f ≡ true → WidthOfOutput elen t f
unfolding width_ok
output-width elen t f h =
    let l = leb (f * (8 * sew t)) elen in
    let a = eqb f 1 in
    let b = eqb f 2 in
    let c = eqb f 4 && maccq t in
    let r = and_right l (a || (b || c)) h in (
      leb-true (f * (8 * sew t)) elen (and_left l (a || (b || c)) h),
      elim (or-either a (b || c) r) [
        | inl e ↦ inl (eqb-true f 1 e)
        | inr s ↦ inr (elim (or-either b c s) [
          | inl e ↦ inl (eqb-true f 2 e)
          | inr m ↦ inr (eqb-true f 4 (and_left (eqb f 4) (maccq t) m), and_right (eqb f 4) (maccq t) m)
        ])
      ],
    )

pub width-output : (elen t f : ℕ) → WidthOfOutput elen t f → width_ok elen t f ≡ true
unfolding width_ok
width-output elen t f h =
    let l = leb (f * (8 * sew t)) elen in
    let a = eqb f 1 in
    let b = eqb f 2 in
    let c = eqb f 4 && maccq t in
    and-true l (a || (b || c)) (le-leb (f * (8 * sew t)) elen h.0)
    (elim h.1 [
      | inl e ↦ or_left a (b || c) (eq-eqb f 1 e)
      | inr s ↦ or_right a (b || c) (elim s [
        | inl e ↦ or_left b c (eq-eqb f 2 e)
        | inr m ↦ or_right b c (and-true (eqb f 4) (maccq t) (eq-eqb f 4 m.0) m.1)
      ])
    ])

-- ---- 4

module _ (M : Parameters) (st : State) where
  abbrev pub fits : Dimension → Bool
  fits d = leb (size_in d st) (maximum M st.mtype d)

  abbrev pub Exceeds : List Dimension → Type 0
  Exceeds ds = (d : Dimension) × List-as-Memᴰ d ds × (maximum M st.mtype d < size_in d st)

  -- the sizes in a list, and further tests behind them
  pub tells-sizes : (ds : List Dimension) (bs : List Bool) (S : Type 0) → Tells (every bs) S → Tells (every (map fits ds ++ bs)) (Exceeds ds ⊎ S)
  tells-sizes [] bs S t = record {
    shows = λ e. inr (t.shows e);
    refutes = λ e s. elim s [ inl x ↦ List·Memᴰ·not-nil x.1 | inr y ↦ t.refutes e y ];
  }
  tells-sizes (d ∷ ds) bs S t = more (every (map fits ds ++ bs)) (tells-sizes ds bs S t)
    where
      here : maximum M st.mtype d < size_in d st → fits d ≡ true → ⊥
      here l e = omega (arith, l, leb-true (size_in d st) (maximum M st.mtype d) e)

      shown : (rest b : Bool) → Tells rest (Exceeds ds ⊎ S) → fits d ≡ b → b && rest ≡ false → Exceeds (d ∷ ds) ⊎ S
      shown rest false ih q e = inl (d, List·Memᴰ·head refl, leb-false (size_in d st) (maximum M st.mtype d) q)
      shown rest true ih q e = elim (ih.shows e) [ inl x ↦ inl (x.0, List·Memᴰ·tail x.1, x.2) | inr y ↦ inr y ]

      more : (rest : Bool) → Tells rest (Exceeds ds ⊎ S) → Tells (fits d && rest) (Exceeds (d ∷ ds) ⊎ S)
      more rest ih = record {
        shows = shown rest (fits d) ih refl;
        refutes = λ e s. elim s [
          | inl x ↦ elim (List·Memᴰ·cases-cons x.1) [
            | inl p ↦ here (subst (λ (z : Dimension). maximum M st.mtype z < size_in z st) p x.2) (and_left (fits d) rest e)
            | inr m ↦ ih.refutes (and_right (fits d) rest e) (inl (x.0, m, x.2))
          ]
          | inr y ↦ ih.refutes (and_right (fits d) rest e) (inr y)
        ];
      }

-- ---- 6

in_memory_lem : (len : ℕ) (z : ℤ) → in_memory len z ≡ true → (p : ℕ) × (z ≡ pos p) × (p < len)
in_memory_lem len (pos p) h = (p, refl, ltb-true p len h)
in_memory_lem len (negsuc p) h = absurd (false-true h)

memory-in : (len : ℕ) (z : ℤ) → ((p : ℕ) × (z ≡ pos p) × (p < len)) → in_memory len z ≡ true
memory-in len z x = subst (λ (y : ℤ). in_memory len y ≡ true) (sym x.1) (lt-ltb x.0 len x.2)

pub tells-outside : (memory : List ℕ) (R : Rows) → Tells (inside (length memory) R.base R.stride R.count R.size) (LiesOutside memory R)
unfolding inside
tells-outside memory R = record {
  shows = λ e.
      let x = first-fails R.count (λ i. all R.size (byte i)) e in
      let y = first-fails R.size (byte x.0) x.2 in
      (x.0, y.0, x.1, y.1, λ p. false-true (sym y.2 ∙ memory-in (length memory) (row_z R.base R.stride x.0 +ℤ pos y.0) p));
  refutes = λ e x. x.4
      (in_memory_lem (length memory) (row_z R.base R.stride x.0 +ℤ pos x.1)
      (all-at R.size (byte x.0) (all-at R.count (λ i. all R.size (byte i)) e x.0 x.2) x.1 x.3));
}
  where
    byte : ℕ → ℕ → Bool
    byte i b = in_memory (length memory) (row_z R.base R.stride i +ℤ pos b)

-- ---- 13

not-false : (b : Bool) → not b ≡ false → b ≡ true
not-false true h = refl
not-false false h = absurd (false-true (sym h))

misses-fails : (those : ℕ → Bool) (p n : ℕ) → misses those p n ≡ false → (q : ℕ) × In p n q × (those q ≡ true)
unfolding misses
misses-fails those p n h =
    let x = first-fails n (λ b. not (those (p + b))) h in
    (p + x.0, omega (arith, x.1), not-false (those (p + x.0)) x.2)

pub tells-two-rows : (R : Rows) → Tells (distinct (row_at R.base R.stride) R.count R.size) (InTwoRows R)
unfolding distinct
tells-two-rows R = record {
  shows = λ e.
      let x = first-fails R.count (λ k. all k (λ i. misses (within (at k) R.size) (at i) R.size)) e in
      let y = first-fails x.0 (λ i. misses (within (at x.0) R.size) (at i) R.size) x.2 in
      let z = misses-fails (within (at x.0) R.size) (at y.0) R.size y.2 in
      (y.0, x.0, z.0, y.1, x.1, z.1, within_in (at x.0) R.size z.0 z.2);
  refutes = λ e x. distinct-at at R.count R.size e x.0 x.1 x.2 x.3 x.4 x.5 x.6;
}
  where
    at : ℕ → ℕ
    at = row_at R.base R.stride

-- ---- 7

not-true : (b : Bool) → not b ≡ true → b ≡ true → ⊥
not-true true h e = false-true h
not-true false h e = false-true e

pub tells-sealed : (seals : List Range) (R : Rows) → Tells (rows_miss (sealed seals) R.base R.stride R.count R.size) (WritesSealed seals R)
unfolding rows_miss
tells-sealed seals R = record {
  shows = λ e.
      let x = first-fails R.count (λ i. misses (sealed seals) (row_at R.base R.stride i) R.size) e in
      let y = misses-fails (sealed seals) (row_at R.base R.stride x.0) R.size x.2 in
      (x.0, y.0, x.1, y.1, y.2);
  refutes = λ e x.
      not-true (sealed seals x.1)
      (misses-at (sealed seals) (row_at R.base R.stride x.0) R.size (rows-miss-at (sealed seals) R.base R.stride R.count R.size e x.0 x.2) x.1 x.3)
      x.4;
}
