-- A range of bytes: a row against it, and rows one after another.
use Rattle.numbers.proofs.Kit.{◌≡◌, sym, ap, ◌∙◌, ◌⊎◌, inl, inr, true, false, ◌||◌, ℕ, ◌+◌, ◌-◌, ◌≤◌, ◌<◌, arith, eqb, leb, ltb, ne_eqb, eq-eqb, lt-leb}
use Rattle.numbers.proofs.Kit.{le-leb, lt-ltb, le-ltb}
use Rattle.numbers.proofs.BlockLaws.{le-or-lt}
use Rattle.machine.specs.Tests.{all, within}
use Rattle.machine.specs.Memory.{row_at, misses, rows_miss}
use Rattle.machine.proofs.TestLaws.{all_true, all-false}
use Rattle.machine.proofs.MemoryLaws.{misses-range}

module _ (seal size p n : ℕ) where
  pub misses-no-bytes : n ≡ 0 → true ≡ misses (within seal size) p n
  misses-no-bytes e = sym (misses-range seal size p n ∙ rw (eq-eqb n 0 e))

  misses-test : ¬ (n ≡ 0) → misses (within seal size) p n ≡ eqb size 0 || (leb (p + n) seal || leb (seal + size) p)
  misses-test h = misses-range seal size p n ∙ rw (ne_eqb n 0 h)

  pub misses-no-seal : ¬ (n ≡ 0) → size ≡ 0 → true ≡ misses (within seal size) p n
  misses-no-seal h e = sym (misses-test h ∙ rw (eq-eqb size 0 e))

  module _ (h : ¬ (n ≡ 0)) (g : ¬ (size ≡ 0)) where
    pub misses-below : p + n ≤ seal → true ≡ misses (within seal size) p n
    misses-below l = sym (misses-test h ∙ rw (ne_eqb size 0 g, le-leb (p + n) seal l))

    pub misses-not : seal < p + n → p < seal + size → false ≡ misses (within seal size) p n
    misses-not l l' = sym (misses-test h ∙ rw (ne_eqb size 0 g, lt-leb (p + n) seal l, lt-leb (seal + size) p l'))

    -- the bytes start at the seal or after it: it is its last byte that counts
    pub misses-from : seal ≤ p → ltb (seal + (size - 1)) p ≡ misses (within seal size) p n
    misses-from k = by (le-or-lt (seal + size) p)
      where
        by : (seal + size ≤ p) ⊎ (p < seal + size) → ltb (seal + (size - 1)) p ≡ misses (within seal size) p n
        by (inl l) =
            let m : seal < p + n = omega arith in
            lt-ltb (seal + (size - 1)) p (omega arith)
            ∙ sym (misses-test h ∙ rw (ne_eqb size 0 g, lt-leb (p + n) seal m, le-leb (seal + size) p l))
        by (inr l) = le-ltb (seal + (size - 1)) p (omega arith) ∙ misses-not (omega arith) l

module _ (seal size base stride rows n : ℕ) where
  pub miss-no-bytes : n ≡ 0 → true ≡ rows_miss (within seal size) base stride rows n
  unfolding rows_miss
  miss-no-bytes e = sym (all_true rows (λ i. misses (within seal size) (row_at base stride i) n) (λ i l. sym (misses-no-bytes seal size (row_at base stride i) n e)))

  pub miss-not : (i at : ℕ) → i < rows → at ≡ row_at base stride i → false ≡ misses (within seal size) at n → false ≡ rows_miss (within seal size) base stride rows n
  unfolding rows_miss
  miss-not i at l e h = sym (all-false rows (λ i. misses (within seal size) (row_at base stride i) n) i l (ap (λ (p : ℕ). misses (within seal size) p n) (sym e) ∙ sym h))

  pub miss-all : (i : ℕ) → i ≡ rows → all i (λ i. misses (within seal size) (row_at base stride i) n) ≡ true → true ≡ rows_miss (within seal size) base stride rows n
  unfolding rows_miss
  miss-all i e h = sym (ap (λ (i : ℕ). all i (λ i. misses (within seal size) (row_at base stride i) n)) (sym e) ∙ h)
