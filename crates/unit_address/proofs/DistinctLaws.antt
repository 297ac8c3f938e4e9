-- Rows at a stride: they go up or down by the same distance, and by that alone it is decided whether two share a byte.
use Rattle.numbers.proofs.Kit.{◌≡◌, sym, ap, ◌∙◌, ◌⊎◌, inl, inr, true, false, ℕ, zero, suc, ◌+◌, ◌*◌, ◌-◌, ◌^◌, ◌≤◌, ◌<◌, mul-le-mul_right, arith, leb, ltb}
use Rattle.numbers.proofs.Kit.{nat_abs, leb-true, le-leb, lt-ltb, le-ltb}
use Rattle.numbers.proofs.BlockLaws.{le-or-lt}
use Rattle.machine.specs.Memory.{row_z, row_at, address, inside, distinct}
use Rattle.machine.proofs.TestLaws.{false-true, same_test}
use Rattle.machine.proofs.MemoryLaws.{fits-true, inside-at, row_z-up, row_z-down, row_z-below}
use Rattle.machine.proofs.StoreLaws.{distinct-at, at-distinct}
use Rattle.unit_address.proofs.AddressLaws.{step}

-- how far two rows one after another are apart
abbrev pub gap : ℕ → ℕ
gap stride = nat_abs (step stride)

-- all rows go up, or all go down
abbrev pub Up : ℕ → ℕ → ℕ → Type 0
Up base stride rows = (i : ℕ) → i < rows → row_at base stride i ≡ base + i * gap stride

abbrev pub Down : ℕ → ℕ → ℕ → Type 0
Down base stride rows = (i : ℕ) → i < rows → row_at base stride i + i * gap stride ≡ base

abbrev pub Goes : ℕ → ℕ → ℕ → Type 0
Goes base stride rows = Up base stride rows ⊎ Down base stride rows

pub rows-up : (base stride rows : ℕ) → stride < 2 ^ 63 → Up base stride rows
rows-up base stride rows h i l =
    let x : stride + stride < 2 ^ 64 = omega arith in
    let e : ltb (stride + stride) (2 ^ 64) ≡ true = lt-ltb (stride + stride) (2 ^ 64) x in
    let g : gap stride ≡ stride = rw e in
    ap address (row_z-up base stride i x) ∙ ap (λ (x : ℕ). base + i * x) (sym g)

module _ (len base stride rows n : ℕ) (h : inside len base stride rows n ≡ true) (some : zero < n) (word : stride < 2 ^ 64) where
  pub rows-down : 2 ^ 63 ≤ stride → Down base stride rows
  rows-down high =
      let x : 2 ^ 64 ≤ stride + stride = omega arith in
      let e : ltb (stride + stride) (2 ^ 64) ≡ false = le-ltb (stride + stride) (2 ^ 64) x in
      let g : gap stride ≡ suc (2 ^ 64 - suc stride) = rw e in
      down (2 ^ 64 - suc stride) (omega arith) x g
    where
      down : (d : ℕ) → stride + suc d ≡ 2 ^ 64 → 2 ^ 64 ≤ stride + stride → gap stride ≡ suc d → Down base stride rows
      down d w s g i l = lies (le-or-lt (i * suc d) base)
        where
          lies : (i * suc d ≤ base) ⊎ (base < i * suc d) → row_at base stride i + i * gap stride ≡ base
          lies (inl x) =
              let a : row_at base stride i ≡ base - i * suc d = ap address (row_z-down base stride i d s w x) in
              omega (arith, a, ap (λ (y : ℕ). i * y) g)
          lies (inr x) =
              let f = inside-at len base stride rows n h some i l in
              absurd (false-true (sym (row_z-below len n base stride i d s w x) ∙ fits-true len n (row_at base stride i) (row_z base stride i) f.0 f.1))

  pub rows-go : Goes base stride rows
  rows-go = elim (le-or-lt (2 ^ 63) stride) [ inl x ↦ inr (rows-down x) | inr x ↦ inl (rows-up base stride rows x) ]

-- ---- the test by the distance

module _ (base stride rows n : ℕ) where
  pub distinct-no-bytes : n ≡ 0 → true ≡ distinct (row_at base stride) rows n
  distinct-no-bytes e = sym (at-distinct (row_at base stride) rows n (λ i k q l l' x y. omega arith))

  pub distinct-few : rows < 2 → true ≡ distinct (row_at base stride) rows n
  distinct-few h = sym (at-distinct (row_at base stride) rows n (λ i k q l l' x y. omega arith))

  module _ (w : Goes base stride rows) where
    distinct-wide : n ≤ gap stride → distinct (row_at base stride) rows n ≡ true
    distinct-wide h = at-distinct (row_at base stride) rows n (λ i k q l l' x y. elim w [
      | inl up ↦ omega (arith, up k l', up i (omega arith), mul-le-mul_right (gap stride) l)
      | inr down ↦ omega (arith, down k l', down i (omega arith), mul-le-mul_right (gap stride) l)
    ])

    -- the first two rows share the start of the upper one
    distinct-narrow : distinct (row_at base stride) rows n ≡ true → ¬ (n ≡ 0) → 1 < rows → n ≤ gap stride
    distinct-narrow h some more = elim (le-or-lt n (gap stride)) [
      | inl l ↦ l
      | inr l ↦ absurd (elim w [
        | inl up ↦
            let a : row_at base stride 0 ≡ base + 0 * gap stride = up 0 (omega arith) in
            let b : row_at base stride 1 ≡ base + 1 * gap stride = up 1 more in
            distinct-at (row_at base stride) rows n h 0 1 (row_at base stride 1) (omega arith) more (omega arith) (omega arith)
        | inr down ↦
            let a : row_at base stride 0 + 0 * gap stride ≡ base = down 0 (omega arith) in
            let b : row_at base stride 1 + 1 * gap stride ≡ base = down 1 more in
            distinct-at (row_at base stride) rows n h 0 1 (row_at base stride 0) (omega arith) more (omega arith) (omega arith)
      ])
    ]

    -- two rows or more share no byte if they are as far from each other as they are long
    pub distinct-test : ¬ (n ≡ 0) → 1 < rows → leb n (gap stride) ≡ distinct (row_at base stride) rows n
    distinct-test some more = same_test (leb n (gap stride)) (distinct (row_at base stride) rows n)
        (λ t. distinct-wide (leb-true n (gap stride) t)) (λ h. le-leb n (gap stride) (distinct-narrow h some more))
