-- Ranges of bytes that share none: the test on bytes against the test on ends, and the tests of a start as tests on pairs of rows.
use Rattle.numbers.proofs.Kit.{◌≡◌, refl, sym, ap, ◌∙◌, subst, ◌⊎◌, inl, inr, Bool, true, false, not, ◌||◌, ℕ, zero, ◌+◌, ◌*◌, ◌-◌, ◌/◌, ◌≤◌, ◌<◌}
use Rattle.numbers.proofs.Kit.{mul-le-mul_right, le-mul_of_pos_right, div-add-mod', mod-lt, arith, leb, eqb, leb-true, eqb-true, eqb-false, leb-false}
use Rattle.numbers.proofs.Kit.{eq-eqb, ne_eqb, lt-leb}
use Rattle.numbers.specs.Tile.{In}
use Rattle.numbers.proofs.BlockLaws.{le-or-lt}
use Rattle.machine.specs.Tests.{all, within}
use Rattle.machine.proofs.TestLaws.{all_true, all-at, all-false, or-not, false-true, same_test, within-not, not_within}
use Rattle.machine.specs.Memory.{row_at}
use Rattle.unit_address.proofs.DistinctLaws.{gap, Up, Down, Goes}
use Rattle.run.specs.Start.{apart}

-- none of the n bytes from p on is one of the o bytes from q on
abbrev pub free : ℕ → ℕ → ℕ → ℕ → Bool
free p n q o = all n (λ b. not (within q o (p + b)))

module _ (p n q o : ℕ) where
  pub free-at : free p n q o ≡ true → (x : ℕ) → In p n x → not (within q o x) ≡ true
  free-at h x i = subst (λ (z : ℕ). not (within q o z) ≡ true) (omega arith) (all-at n (λ b. not (within q o (p + b))) h (x - p) (omega arith))

  pub free-true : ((x : ℕ) → In p n x → not (within q o x) ≡ true) → free p n q o ≡ true
  free-true h = all_true n (λ b. not (within q o (p + b))) (λ b l. h (p + b) (omega arith))

  -- the test by the ends of the two ranges
  pub free-range : free p n q o ≡ eqb n 0 || (eqb o 0 || (leb (p + n) q || leb (q + o) p))
  free-range = same_test (free p n q o) (eqb n 0 || (eqb o 0 || (leb (p + n) q || leb (q + o) p)))
      (λ h. there h (eqb n 0) refl (eqb o 0) refl (leb (p + n) q) refl (leb (q + o) p) refl)
      (λ h. free-true (λ x i. not_within q o x (λ j. back h x i j (eqb n 0) refl (eqb o 0) refl (leb (p + n) q) refl)))
    where
      there : free p n q o ≡ true → (s : Bool) → eqb n 0 ≡ s → (t : Bool) → eqb o 0 ≡ t → (u : Bool) → leb (p + n) q ≡ u → (v : Bool) → leb (q + o) p ≡ v → s || (t || (u || v)) ≡ true
      there h true es t et u eu v ev = refl
      there h false es true et u eu v ev = refl
      there h false es false et true eu v ev = refl
      there h false es false et false eu true ev = refl
      there h false es false et false eu false ev =
          let a : q < p + n = leb-false (p + n) q eu in
          let b : p < q + o = leb-false (q + o) p ev in
          let c : ¬ (n ≡ 0) = eqb-false n 0 es in
          let d : ¬ (o ≡ 0) = eqb-false o 0 et in
          absurd (meets (le-or-lt p q) a b c d)
        where
          meets : (p ≤ q) ⊎ (q < p) → q < p + n → p < q + o → ¬ (n ≡ 0) → ¬ (o ≡ 0) → ⊥
          meets (inl g) a b c d = within-not q o q (free-at h q (g, a)) (omega arith, positive d)
            where
              positive : ¬ (o ≡ 0) → q < q + o
              positive d = elim (le-or-lt o 0) [ inl z ↦ absurd (d (omega arith)) | inr z ↦ omega arith ]
          meets (inr g) a b c d = within-not q o p (free-at h p (omega arith, positive c)) (omega arith, b)
            where
              positive : ¬ (n ≡ 0) → p < p + n
              positive c = elim (le-or-lt n 0) [ inl z ↦ absurd (c (omega arith)) | inr z ↦ omega arith ]

      back : eqb n 0 || (eqb o 0 || (leb (p + n) q || leb (q + o) p)) ≡ true → (x : ℕ) → In p n x → In q o x
          → (s : Bool) → eqb n 0 ≡ s → (t : Bool) → eqb o 0 ≡ t → (u : Bool) → leb (p + n) q ≡ u → ⊥
      back h x i j true es t et u eu = omega (arith, eqb-true n 0 es)
      back h x i j false es true et u eu = omega (arith, eqb-true o 0 et)
      back h x i j false es false et true eu = omega (arith, leb-true (p + n) q eu)
      back h x i j false es false et false eu =
          omega (
            arith,
            leb-true (q + o) p (or-not (leb (p + n) q) (leb (q + o) p)
                (or-not (eqb o 0) (leb (p + n) q || leb (q + o) p)
                (or-not (eqb n 0) (eqb o 0 || (leb (p + n) q || leb (q + o) p)) h es) et) eu),
          )

  -- .. with no byte to miss
  pub free-no-bytes : n ≡ 0 → true ≡ free p n q o
  free-no-bytes e = sym (free-range ∙ rw (eq-eqb n 0 e))

-- ---- a range against rows

-- none of the rows of n bytes has one of the o bytes from q on
abbrev pub free_rows : (ℕ → ℕ) → ℕ → ℕ → ℕ → ℕ → Bool
free_rows at rows n q o = all rows (λ i. free (at i) n q o)

module _ (at : ℕ → ℕ) (rows n q o : ℕ) where
  pub rows-no-bytes : n ≡ 0 → true ≡ free_rows at rows n q o
  rows-no-bytes e = sym (all_true rows (λ i. free (at i) n q o) (λ i l. sym (free-no-bytes (at i) n q o e)))

  pub rows-no-others : o ≡ 0 → true ≡ free_rows at rows n q o
  rows-no-others e = sym (all_true rows (λ i. free (at i) n q o) (λ i l. free-true (at i) n q o (λ x j. not_within q o x (λ y. omega arith))))

-- ---- the tests of a start, a row of C at a time

module _ (at : ℕ → ℕ) (rows n : ℕ) (at' : ℕ → ℕ) (rows' o : ℕ) where
  -- none of the rows has a byte of the other rows' row k
  abbrev pub against : ℕ → Bool
  against k = free_rows at rows n (at' k) o

  pub apart_by : apart at rows n at' rows' o ≡ all rows' against
  unfolding apart
  apart_by = same_test (apart at rows n at' rows' o) (all rows' against)
      (λ h. all_true rows' against (λ k lk. all_true rows (λ i. free (at i) n (at' k) o) (λ i li. all_true n (λ b. not (within (at' k) o (at i + b))) (λ b lb.
      all-at rows' (λ k. not (within (at' k) o (at i + b)))
      (all-at n (λ b. all rows' (λ k. not (within (at' k) o (at i + b))))
      (all-at rows (λ i. all n (λ b. all rows' (λ k. not (within (at' k) o (at i + b))))) h i li) b lb) k lk))))
      (λ h. all_true rows (λ i. all n (λ b. all rows' (λ k. not (within (at' k) o (at i + b))))) (λ i li.
      all_true n (λ b. all rows' (λ k. not (within (at' k) o (at i + b)))) (λ b lb.
      all_true rows' (λ k. not (within (at' k) o (at i + b))) (λ k lk.
      all-at n (λ b. not (within (at' k) o (at i + b))) (all-at rows (λ i. free (at i) n (at' k) o) (all-at rows' against h k lk) i li) b lb))))

  pub apart-no-others : o ≡ 0 → true ≡ apart at rows n at' rows' o
  apart-no-others e = sym (apart_by ∙ all_true rows' against (λ k l. sym (rows-no-others at rows n (at' k) o e)))

  pub apart-not : (k q : ℕ) → k < rows' → q ≡ at' k → free_rows at rows n q o ≡ false → false ≡ apart at rows n at' rows' o
  apart-not k q l e h = sym (apart_by ∙ all-false rows' against k l (ap (λ (q : ℕ). free_rows at rows n q o) (sym e) ∙ h))

  pub apart-all : (k : ℕ) → k ≡ rows' → all k against ≡ true → true ≡ apart at rows n at' rows' o
  apart-all k e h = sym (apart_by ∙ ap (λ (k : ℕ). all k against) (sym e) ∙ h)

-- ---- rows at a stride against a range

module _ (p n q o : ℕ) where
  free-before : p + n ≤ q → free p n q o ≡ true
  free-before l = free-true p n q o (λ x i. not_within q o x (λ y. omega arith))

  free-after : q + o ≤ p → free p n q o ≡ true
  free-after l = free-true p n q o (λ x i. not_within q o x (λ y. omega arith))

  free-not : ¬ (n ≡ 0) → ¬ (o ≡ 0) → q < p + n → p < q + o → free p n q o ≡ false
  free-not h g l l' = free-range p n q o ∙ rw (ne_eqb n 0 h, ne_eqb o 0 g, lt-leb (p + n) q l, lt-leb (q + o) p l')

pub first-at : (base stride rows : ℕ) → Goes base stride rows → zero < rows → row_at base stride 0 ≡ base
first-at base stride rows (inl up) l = let a : row_at base stride 0 ≡ base + 0 * gap stride = up 0 l in omega (arith, a)
first-at base stride rows (inr down) l = let a : row_at base stride 0 + 0 * gap stride ≡ base = down 0 l in omega (arith, a)

-- ---- a range against rows at a stride: the first row that is not before it decides

free-side : (p n q o : ℕ) → ¬ (n ≡ 0) → ¬ (o ≡ 0) → free p n q o ≡ true → q < p + n → q + o ≤ p
free-side p n q o a b e l = elim (le-or-lt (q + o) p) [ inl x ↦ x | inr x ↦ absurd (false-true (sym (free-not p n q o a b l x) ∙ e)) ]

free-side' : (p n q o : ℕ) → ¬ (n ≡ 0) → ¬ (o ≡ 0) → free p n q o ≡ true → p < q + o → p + n ≤ q
free-side' p n q o a b e l = elim (le-or-lt (p + n) q) [ inl x ↦ x | inr x ↦ absurd (false-true (sym (free-not p n q o a b x l) ∙ e)) ]

module _ (at : ℕ → ℕ) (rows n q o : ℕ) where
  rows-decide : (i : ℕ) → i < rows → ((k : ℕ) → k < i → free (at k) n q o ≡ true)
      → (free (at i) n q o ≡ true → (k : ℕ) → i ≤ k → k < rows → free (at k) n q o ≡ true) → free (at i) n q o ≡ free_rows at rows n q o
  rows-decide i l h g = same_test (free (at i) n q o) (free_rows at rows n q o)
      (λ e. all_true rows (λ k. free (at k) n q o) (λ k lk. elim (le-or-lt i k) [ inl x ↦ g e k x lk | inr x ↦ h k x ]))
      (λ e. all-at rows (λ k. free (at k) n q o) e i l)

module _ (base stride rows n q o : ℕ) (some : ¬ (n ≡ 0)) (some' : ¬ (o ≡ 0)) where
  -- all rows alike
  pub rows_same : Goes base stride rows → gap stride ≡ 0 → ¬ (rows ≡ 0) → free base n q o ≡ free_rows (row_at base stride) rows n q o
  rows_same w z r =
      let 0<rows : zero < rows = omega arith in
      ap (λ (x : ℕ). free x n q o) (sym (here w 0 0<rows))
      ∙ rows-decide (row_at base stride) rows n q o 0 0<rows (λ k l. absurd (omega arith))
      (λ e k l l'. subst (λ (x : ℕ). free x n q o ≡ true) (here w 0 0<rows ∙ sym (here w k l')) e)
    where
      here : Goes base stride rows → (k : ℕ) → k < rows → row_at base stride k ≡ base
      here (inl up) k l = omega (arith, up k l, ap (λ (x : ℕ). k * x) z)
      here (inr down) k l = omega (arith, down k l, ap (λ (x : ℕ). k * x) z)

  -- rows that go up, of which the first r are below the range
  module _ (up : Up base stride rows) (r : ℕ) (passed : (k : ℕ) → k < r → base + n + k * gap stride ≤ q) where
    pub up-all : rows ≤ r → true ≡ free_rows (row_at base stride) rows n q o
    up-all h = sym (all_true rows (λ k. free (row_at base stride k) n q o) (λ k l.
        free-before (row_at base stride k) n q o (omega (arith, up k l, passed k (omega arith)))))

    pub up_next : (p : ℕ) → p ≡ row_at base stride r → q < base + n + r * gap stride → r < rows → free p n q o ≡ free_rows (row_at base stride) rows n q o
    up_next p e h l =
        ap (λ (x : ℕ). free x n q o) e
        ∙ rows-decide (row_at base stride) rows n q o r l
        (λ k g. free-before (row_at base stride k) n q o (omega (arith, up k (omega arith), passed k g)))
        (λ f k g g'. let x = free-side (row_at base stride r) n q o some some' f (omega (arith, up r l)) in
        free-after (row_at base stride k) n q o (omega (arith, x, up r l, up k g', mul-le-mul_right (gap stride) g)))

  -- rows that go down, of which the first r are above it
  module _ (down : Down base stride rows) (r : ℕ) (passed : (k : ℕ) → k < r → q + o + k * gap stride ≤ base) where
    pub down-all : rows ≤ r → true ≡ free_rows (row_at base stride) rows n q o
    down-all h = sym (all_true rows (λ k. free (row_at base stride k) n q o) (λ k l.
        free-after (row_at base stride k) n q o (omega (arith, down k l, passed k (omega arith)))))

    pub down-next : (p : ℕ) → p ≡ row_at base stride r → base < q + o + r * gap stride → r < rows → free p n q o ≡ free_rows (row_at base stride) rows n q o
    down-next p e h l =
        ap (λ (x : ℕ). free x n q o) e
        ∙ rows-decide (row_at base stride) rows n q o r l
        (λ k g. free-after (row_at base stride k) n q o (omega (arith, down k (omega arith), passed k g)))
        (λ f k g g'. let x = free-side' (row_at base stride r) n q o some some' f (omega (arith, down r l)) in
        free-before (row_at base stride k) n q o (omega (arith, x, down r l, down k g', mul-le-mul_right (gap stride) g)))

-- ---- how many steps of a distance it takes to get past a number

module _ (from to gap : ℕ) (some : ¬ (gap ≡ 0)) (l : from ≤ to) where
  pub steps-passed : (k : ℕ) → k < (to - from) / gap + 1 → from + k * gap ≤ to
  steps-passed k h =
      let x : k ≤ (to - from) / gap = omega arith in
      omega (arith, mul-le-mul_right gap x, div-add-mod' (to - from) gap)

  pub steps_next : to < from + ((to - from) / gap + 1) * gap
  steps_next =
      let 0<gap : zero < gap = omega arith in
      omega (arith, div-add-mod' (to - from) gap, mod-lt (to - from) 0<gap)

  pub steps-fit : (to - from) / gap ≤ to
  steps-fit = omega (arith, div-add-mod' (to - from) gap, le-mul_of_pos_right {m = gap} ((to - from) / gap) (omega arith))
