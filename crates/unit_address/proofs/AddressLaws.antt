-- Signed strides in code and in the definitions, the address of a row, and the test of all rows by the first and the last.
use Rattle.numbers.proofs.Kit.{◌≡◌, refl, sym, ap, ◌∙◌, subst, ◌⊎◌, inl, inr, Bool, true, false, cond, true≢false, ℕ, zero, suc, ◌+◌, ◌*◌, ◌-◌, ◌^◌}
use Rattle.numbers.proofs.Kit.{◌≤◌, ◌<◌, zero-mul, mul-le-mul_right, add-zero, arith, leb, ltb, ℤ, pos, negsuc}
use Rattle.numbers.proofs.Kit.{nat_abs, ◌+ℤ◌, ◌*ℤ◌, eq-eqb, ne_eqb, lt-ltb, le-ltb, ltb-true, ltb-false, le-leb, lt-leb}
use lib.Signed.{mag, lt_z}
use mir.Syntax.{w64}
use mir.Val.{to_z, of_z}
use mir.ValLaws.{to_z-of_z}
use Rattle.numbers.specs.Reduce.{signed}
use Rattle.numbers.proofs.BlockLaws.{le-or-lt}
use Rattle.machine.specs.Memory.{row_z, row_at, address, in_memory, inside}
use Rattle.machine.proofs.TestLaws.{all-false, false-true}
use Rattle.machine.proofs.MemoryLaws.{fits, fits-true, inside-true, inside-at, inside-rows, row_z-up, row_z-down, row_z-below}

-- the stride's value: what its 64 bits stand for
abbrev pub step : ℕ → ℤ
step stride = signed (2 ^ 64) stride

-- ---- signed numbers

-- a signed number that is passed on
pub passed_on : (r : ℤ) (stride : ℕ) → mag r < 2 ^ 63 → r ≡ step stride → to_z w64 (of_z w64 r) ≡ step stride
passed_on r stride h e = to_z-of_z w64 r (record { sfits = h }) ∙ e

-- ---- an address, from base by a signed distance

module _ (top base : ℕ) (d : ℤ) (h : in_memory top (pos base +ℤ d) ≡ true) where
  pub goes_down : lt_z d (pos 0) ≡ true → (nat_abs d ≤ base) × (base - nat_abs d ≡ address (pos base +ℤ d))
  goes_down = go d h
    where
      go : (d : ℤ) → in_memory top (pos base +ℤ d) ≡ true → lt_z d (pos 0) ≡ true → (nat_abs d ≤ base) × (base - nat_abs d ≡ address (pos base +ℤ d))
      go (pos n) h t = absurd (true≢false (sym t ∙ le-ltb n 0 (omega arith)))
      go (negsuc n) h t = lies (le-or-lt (suc n) base)
        where
          lies : (suc n ≤ base) ⊎ (base < suc n) → (suc n ≤ base) × (base - suc n ≡ address (pos base +ℤ negsuc n))
          lies (inl l) = (l, rw (le-ltb base (suc n) l))
          lies (inr l) = absurd (false-true (rw (lt-ltb base (suc n) l) at h))

  pub goes-up : lt_z d (pos 0) ≡ false → (base + nat_abs d < top) × (base + nat_abs d ≡ address (pos base +ℤ d))
  goes-up = go d h
    where
      go : (d : ℤ) → in_memory top (pos base +ℤ d) ≡ true → lt_z d (pos 0) ≡ false → (base + nat_abs d < top) × (base + nat_abs d ≡ address (pos base +ℤ d))
      go (pos n) h t = (ltb-true (base + n) top h, refl)
      go (negsuc n) h t = absurd (true≢false t)

-- ---- rows in memory

no_rows : (base : ℕ) (z : ℤ) → pos base +ℤ pos 0 *ℤ z ≡ pos base
no_rows base (pos n) = ap pos (omega (arith, zero-mul n))
no_rows base (negsuc n) = rw (zero-mul (suc n)) (ap pos (add-zero base))

row_z-first : (base stride : ℕ) → row_z base stride 0 ≡ pos base
row_z-first base stride = no_rows base (step stride)

-- the stride's sign and size, by its 64 bits
module _ (stride : ℕ) (word : stride < 2 ^ 64) where
  stride_up : lt_z (step stride) (pos 0) ≡ false → (stride + stride < 2 ^ 64) × (nat_abs (step stride) ≡ stride)
  stride_up t = go (ltb (stride + stride) (2 ^ 64)) refl t
    where
      go : (s : Bool) → ltb (stride + stride) (2 ^ 64) ≡ s → lt_z (cond s (pos stride) (negsuc (2 ^ 64 - suc stride))) (pos 0) ≡ false
          → (stride + stride < 2 ^ 64) × (nat_abs (cond s (pos stride) (negsuc (2 ^ 64 - suc stride))) ≡ stride)
      go true e t = (ltb-true (stride + stride) (2 ^ 64) e, refl)
      go false e t = absurd (true≢false t)

  stride-down : lt_z (step stride) (pos 0) ≡ true
      → (2 ^ 64 ≤ stride + stride) × (nat_abs (step stride) ≡ suc (2 ^ 64 - 1 - stride))
  stride-down t = go (ltb (stride + stride) (2 ^ 64)) refl t
    where
      go : (s : Bool) → ltb (stride + stride) (2 ^ 64) ≡ s → lt_z (cond s (pos stride) (negsuc (2 ^ 64 - suc stride))) (pos 0) ≡ true
          → (2 ^ 64 ≤ stride + stride) × (nat_abs (cond s (pos stride) (negsuc (2 ^ 64 - suc stride))) ≡ suc (2 ^ 64 - 1 - stride))
      go true e t = absurd (true≢false (sym t ∙ le-ltb stride 0 (omega arith)))
      go false e t = (ltb-false (stride + stride) (2 ^ 64) e, omega arith)

-- ---- the test of all rows

module _ (len base stride rows n : ℕ) where
  pub inside-no-bytes : n ≡ 0 → inside len base stride rows n ≡ true
  inside-no-bytes e = inside-rows len base stride rows n ∙ rw (eq-eqb n 0 e)

  pub inside-no-rows : rows ≡ 0 → inside len base stride rows n ≡ true
  inside-no-rows e = inside-true len base stride rows n (λ i l. absurd (omega arith))

  inside-not : (i : ℕ) → ¬ (n ≡ 0) → i < rows → fits len n (row_z base stride i) ≡ false → inside len base stride rows n ≡ false
  inside-not i p l h = inside-rows len base stride rows n ∙ rw (ne_eqb n 0 p) (all-false rows (λ i. fits len n (row_z base stride i)) i l h)

  fits_not : (p : ℕ) (z : ℤ) → z ≡ pos p → len < p + n → fits len n z ≡ false
  fits_not p z e h = subst (λ (z : ℤ). fits len n z ≡ false) (sym e) (lt-leb (p + n) len h)

  -- the first row is not in memory
  pub inside-first-not : ¬ (n ≡ 0) → zero < rows → len < base + n → inside len base stride rows n ≡ false
  inside-first-not p l h = inside-not 0 p l (fits_not base (row_z base stride 0) (row_z-first base stride) h)

  -- the first row is: then all depends on how far the last one, row k, is from it
  module _ (k : ℕ) (rows_are : rows ≡ k + 1) (word : stride < 2 ^ 64) (some : ¬ (n ≡ 0)) (first : base + n ≤ len) where
    abbrev far : ℕ
    far = nat_abs (step stride) * k

    pub inside-up : lt_z (step stride) (pos 0) ≡ false → leb far (len - n - base) ≡ inside len base stride rows n
    inside-up t = let s = stride_up stride word t in by s (le-or-lt far (len - n - base))
      where
        by : (stride + stride < 2 ^ 64) × (nat_abs (step stride) ≡ stride) → (far ≤ len - n - base) ⊎ (len - n - base < far)
            → leb far (len - n - base) ≡ inside len base stride rows n
        by s (inl l) =
            let m : far ≡ stride * k = ap (λ (x : ℕ). x * k) s.1 in
            le-leb far (len - n - base) l ∙ sym (inside-true len base stride rows n (λ i h.
            let q : i ≤ k = omega arith in
            fits-true len n (base + i * stride) (row_z base stride i) (row_z-up base stride i s.0) (omega (arith, m, mul-le-mul_right stride q))))
        by s (inr l) =
            let m : far ≡ stride * k = ap (λ (x : ℕ). x * k) s.1 in
            lt-leb far (len - n - base) l
            ∙ sym (inside-not k some (omega arith) (fits_not (base + k * stride) (row_z base stride k) (row_z-up base stride k s.0) (omega (arith, m))))

    pub inside-down : lt_z (step stride) (pos 0) ≡ true → leb far base ≡ inside len base stride rows n
    inside-down t = let s = stride-down stride word t in by (2 ^ 64 - 1 - stride) (omega arith) s (le-or-lt far base)
      where
        by : (d : ℕ) → stride + suc d ≡ 2 ^ 64 → (2 ^ 64 ≤ stride + stride) × (nat_abs (step stride) ≡ suc d)
            → (far ≤ base) ⊎ (base < far) → leb far base ≡ inside len base stride rows n
        by d e s (inl l) =
            let m : far ≡ suc d * k = ap (λ (x : ℕ). x * k) s.1 in
            le-leb far base l ∙ sym (inside-true len base stride rows n (λ i h.
            let q : i ≤ k = omega arith in
            let b : i * suc d ≤ base = omega (arith, m, mul-le-mul_right (suc d) q) in
            fits-true len n (base - i * suc d) (row_z base stride i) (row_z-down base stride i d s.0 e b) (omega arith)))
        by d e s (inr l) =
            let m : far ≡ suc d * k = ap (λ (x : ℕ). x * k) s.1 in
            lt-leb far base l ∙ sym (inside-not k some (omega arith) (row_z-below len n base stride k d s.0 e (omega (arith, m))))

  -- a row of those that lie in memory: where it starts, and how far that is from the first
  pub row_inside : inside len base stride rows n ≡ true → zero < n → stride < 2 ^ 64 → (i : ℕ) → i < rows
      → (row_z base stride i ≡ pos (row_at base stride i)) × (row_at base stride i + n ≤ len) × (nat_abs (step stride) * i ≤ len)
  row_inside h p word i l =
      let f = inside-at len base stride rows n h p i l in
      let g = inside-at len base stride rows n h p 0 (omega arith) in
      let first : row_at base stride 0 ≡ base = ap address (row_z-first base stride) in
      (f.0, f.1, near f.0 f.1 (omega (arith, first, g.1)) (lt_z (step stride) (pos 0)) refl)
    where
      near : row_z base stride i ≡ pos (row_at base stride i) → row_at base stride i + n ≤ len → base ≤ len → (t : Bool) → lt_z (step stride) (pos 0) ≡ t
          → nat_abs (step stride) * i ≤ len
      near e r b false t =
          let s = stride_up stride word t in
          let q : base + i * stride ≡ row_at base stride i = ap address (sym (row_z-up base stride i s.0)) in
          rw s.1 (omega (arith, q))
      near e r b true t = let s = stride-down stride word t in rw s.1 (lies (2 ^ 64 - 1 - stride) (omega arith) s.0 e r b)
        where
          lies : (d : ℕ) → stride + suc d ≡ 2 ^ 64 → 2 ^ 64 ≤ stride + stride → row_z base stride i ≡ pos (row_at base stride i)
              → row_at base stride i + n ≤ len → base ≤ len → suc d * i ≤ len
          lies d w s e r b = elim (le-or-lt (i * suc d) base) [
            | inl x ↦ omega arith
            | inr x ↦ absurd (false-true (sym (row_z-below len n base stride i d s w x) ∙ fits-true len n (row_at base stride i) (row_z base stride i) e r))
          ]

  -- .. and so its address can be formed by a signed product, z being the stride in the code
  pub row-reached : inside len base stride rows n ≡ true → zero < n → stride < 2 ^ 64 → len < 2 ^ 63 → rows < 2 ^ 63
      → (i : ℕ) → i < rows → (z : ℤ) → z ≡ step stride
      → (i < 2 ^ 63) × ((nat_abs z * i < 2 ^ 63) × (in_memory (2 ^ 64) (pos base +ℤ pos i *ℤ z) ≡ true))
  row-reached h p word small few i l z e =
      let f = row_inside h p word i l in
      rw (e, f.0) (omega arith, (omega (arith, f.2), lt-ltb (row_at base stride i) (2 ^ 64) (omega (arith, f.1))))

  pub row-starts : (i r : ℕ) (z : ℤ) → z ≡ step stride → r ≡ address (pos base +ℤ pos i *ℤ z) → r ≡ row_at base stride i
  row-starts i r z e h = h ∙ ap (λ (z : ℤ). address (pos base +ℤ pos i *ℤ z)) e
