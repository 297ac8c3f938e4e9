-- Rows of bytes in memory: the tests on bytes against tests on whole rows, and the rows of a block of a matrix.
use Rattle.numbers.proofs.Kit.{◌≡◌, refl, sym, ap, ◌∙◌, subst, ◌⊎◌, inl, inr, Bool, true, false, not, ◌||◌, ℕ, zero, suc, ◌+◌, ◌*◌, ◌-◌, ◌≤◌, ◌<◌, add-mul}
use Rattle.numbers.proofs.Kit.{not-suc-le-zero, arith, leb, ltb, eqb, ℤ, pos, negsuc, neg_ℤ, ◌+ℤ◌, ◌*ℤ◌, +ℤ_assoc, +ℤ_comm, neg_ℤ-+ℤ, ltb-true, leb-true}
use Rattle.numbers.proofs.Kit.{le-leb, lt-ltb, le-ltb, eqb-true, eqb-false, leb-false}
use Rattle.numbers.specs.Reduce.{signed}
use Rattle.numbers.specs.Tile.{In}
use Rattle.numbers.proofs.BlockLaws.{le-or-lt}
use Rattle.machine.specs.Tests.{all, within}
use Rattle.machine.proofs.TestLaws.{all_true, all-at, or-not, false-true, same_test, within-not, not_within}
use Rattle.machine.specs.Memory.{row_z, row_at, address, in_memory, inside, misses, rows_miss}

-- the n bytes from z on lie in a memory of len bytes (for n > 0)
abbrev pub fits : ℕ → ℕ → ℤ → Bool
fits len n (pos p) = leb (p + n) len
fits len n (negsuc p) = false

pub fits-true : (len n p : ℕ) (z : ℤ) → z ≡ pos p → p + n ≤ len → fits len n z ≡ true
fits-true len n p z e h = subst (λ (z : ℤ). fits len n z ≡ true) (sym e) (le-leb (p + n) len h)

-- a row that fits has its bytes in memory
fits_byte : (len n : ℕ) (z : ℤ) → fits len n z ≡ true → (b : ℕ) → b < n → in_memory len (z +ℤ pos b) ≡ true
fits_byte len n (pos p) h b l = lt-ltb (p + b) len (omega (arith, leb-true (p + n) len h))
fits_byte len n (negsuc p) h b l = absurd (false-true h)

-- and a row whose bytes lie in memory fits
bytes_fit : (len n : ℕ) (z : ℤ) → zero < n → ((b : ℕ) → b < n → in_memory len (z +ℤ pos b) ≡ true) → (z ≡ pos (address z)) × (address z + n ≤ len)
bytes_fit len n (pos p) l h = (refl, omega (arith, ltb-true (p + (n - 1)) len (h (n - 1) (omega arith))))
bytes_fit len n (negsuc p) l h = let e : ltb 0 (suc p) ≡ true = lt-ltb 0 (suc p) (omega arith) in absurd (false-true (rw e at (h 0 l)))

module _ (len base stride rows n : ℕ) where
  pub inside-true : ((i : ℕ) → i < rows → fits len n (row_z base stride i) ≡ true) → inside len base stride rows n ≡ true
  unfolding inside
  inside-true h =
      all_true rows (λ i. all n (λ b. in_memory len (row_z base stride i +ℤ pos b))) (λ i l.
      all_true n (λ b. in_memory len (row_z base stride i +ℤ pos b)) (fits_byte len n (row_z base stride i) (h i l)))

  pub inside-byte : inside len base stride rows n ≡ true → (i b : ℕ) → i < rows → b < n → in_memory len (row_z base stride i +ℤ pos b) ≡ true
  unfolding inside
  inside-byte h i b l l' =
      all-at n (λ b. in_memory len (row_z base stride i +ℤ pos b))
      (all-at rows (λ i. all n (λ b. in_memory len (row_z base stride i +ℤ pos b))) h i l) b l'

  pub inside-at : inside len base stride rows n ≡ true → zero < n → (i : ℕ) → i < rows
      → (row_z base stride i ≡ pos (row_at base stride i)) × (row_at base stride i + n ≤ len)
  inside-at h 0<n i l = bytes_fit len n (row_z base stride i) 0<n (λ b. inside-byte h i b l)

  -- for code: the test by rows
  pub inside-rows : inside len base stride rows n ≡ eqb n 0 || all rows (λ i. fits len n (row_z base stride i))
  unfolding inside
  inside-rows = go (eqb n 0) refl
    where
      go : (t : Bool) → eqb n 0 ≡ t → inside len base stride rows n ≡ t || all rows (λ i. fits len n (row_z base stride i))
      go true e = all_true rows (λ i. all n (λ b. in_memory len (row_z base stride i +ℤ pos b))) (λ i l.
          all_true n (λ b. in_memory len (row_z base stride i +ℤ pos b)) (λ b l'. absurd (omega (arith, eqb-true n 0 e))))
      go false e = same_test (inside len base stride rows n) (all rows (λ i. fits len n (row_z base stride i)))
          (λ h. all_true rows (λ i. fits len n (row_z base stride i)) (λ i l.
          let f = inside-at h (positive e) i l in fits-true len n (row_at base stride i) (row_z base stride i) f.0 f.1))
          (λ h. inside-true (all-at rows (λ i. fits len n (row_z base stride i)) h))
        where
          positive : eqb n 0 ≡ false → zero < n
          positive e = go' n e
            where
              go' : (n : ℕ) → eqb n 0 ≡ false → zero < n
              go' zero e = absurd (false-true (sym e))
              go' (suc n) e = omega arith

-- ---- bytes against others

pub misses-at : (those : ℕ → Bool) (p n : ℕ) → misses those p n ≡ true → (q : ℕ) → In p n q → not (those q) ≡ true
unfolding misses
misses-at those p n h q x = subst (λ (z : ℕ). not (those z) ≡ true) (omega arith) (all-at n (λ b. not (those (p + b))) h (q - p) (omega arith))

pub misses-true : (those : ℕ → Bool) (p n : ℕ) → ((q : ℕ) → In p n q → not (those q) ≡ true) → misses those p n ≡ true
unfolding misses
misses-true those p n h = all_true n (λ b. not (those (p + b))) (λ b l. h (p + b) (omega arith))

-- for code: those of a range, by the ends of the two
pub misses-range : (s o p n : ℕ) → misses (within s o) p n ≡ eqb n 0 || (eqb o 0 || (leb (p + n) s || leb (s + o) p))
misses-range s o p n = same_test (misses (within s o) p n) (eqb n 0 || (eqb o 0 || (leb (p + n) s || leb (s + o) p)))
    (λ h. there h (eqb n 0) refl (eqb o 0) refl (leb (p + n) s) refl (leb (s + o) p) refl)
    (λ h. misses-true (within s o) p n (λ q x. not_within s o q (λ y. back h q x y (eqb n 0) refl (eqb o 0) refl (leb (p + n) s) refl)))
  where
    there : misses (within s o) p n ≡ true → (z : Bool) → eqb n 0 ≡ z → (t : Bool) → eqb o 0 ≡ t → (u : Bool) → leb (p + n) s ≡ u → (v : Bool) → leb (s + o) p ≡ v → z || (t || (u || v)) ≡ true
    there h true es t et u eu v ev = refl
    there h false es true et u eu v ev = refl
    there h false es false et true eu v ev = refl
    there h false es false et false eu true ev = refl
    there h false es false et false eu false ev =
        let a : s < p + n = leb-false (p + n) s eu in
        let b : p < s + o = leb-false (s + o) p ev in
        let c : ¬ (n ≡ 0) = eqb-false n 0 es in
        let d : ¬ (o ≡ 0) = eqb-false o 0 et in
        absurd (meets (le-or-lt p s) a b c d)
      where
        meets : (p ≤ s) ⊎ (s < p) → s < p + n → p < s + o → ¬ (n ≡ 0) → ¬ (o ≡ 0) → ⊥
        meets (inl g) a b c d = within-not s o s (misses-at (within s o) p n h s (g, a)) (omega arith, positive d)
          where
            positive : ¬ (o ≡ 0) → s < s + o
            positive d = elim (le-or-lt o 0) [ inl z ↦ absurd (d (omega arith)) | inr z ↦ omega arith ]
        meets (inr g) a b c d = within-not s o p (misses-at (within s o) p n h p (omega arith, positive c)) (omega arith, b)
          where
            positive : ¬ (n ≡ 0) → p < p + n
            positive c = elim (le-or-lt n 0) [ inl z ↦ absurd (c (omega arith)) | inr z ↦ omega arith ]

    back : eqb n 0 || (eqb o 0 || (leb (p + n) s || leb (s + o) p)) ≡ true → (q : ℕ) → In p n q → In s o q
        → (z : Bool) → eqb n 0 ≡ z → (t : Bool) → eqb o 0 ≡ t → (u : Bool) → leb (p + n) s ≡ u → ⊥
    back h q x y true es t et u eu = omega (arith, eqb-true n 0 es)
    back h q x y false es true et u eu = omega (arith, eqb-true o 0 et)
    back h q x y false es false et true eu = omega (arith, leb-true (p + n) s eu)
    back h q x y false es false et false eu =
        omega (
          arith,
          leb-true (s + o) p (or-not (leb (p + n) s) (leb (s + o) p)
              (or-not (eqb o 0) (leb (p + n) s || leb (s + o) p)
              (or-not (eqb n 0) (eqb o 0 || (leb (p + n) s || leb (s + o) p)) h es) et) eu),
        )

-- a part of bytes that miss those misses them
pub misses-part : (those : ℕ → Bool) (p n q o : ℕ) → misses those p n ≡ true → p ≤ q → q + o ≤ p + n → misses those q o ≡ true
misses-part those p n q o h a b = misses-true those q o (λ r x. misses-at those p n h r (omega arith))

pub rows-miss-true : (those : ℕ → Bool) (base stride rows n : ℕ) → ((i : ℕ) → i < rows → misses those (row_at base stride i) n ≡ true) → rows_miss those base stride rows n ≡ true
unfolding rows_miss
rows-miss-true those base stride rows n h = all_true rows (λ i. misses those (row_at base stride i) n) h

pub rows-miss-at : (those : ℕ → Bool) (base stride rows n : ℕ) → rows_miss those base stride rows n ≡ true → (i : ℕ) → i < rows → misses those (row_at base stride i) n ≡ true
unfolding rows_miss
rows-miss-at those base stride rows n h = all-at rows (λ i. misses those (row_at base stride i) n) h

-- ---- the rows of a block

times-add : (a b : ℕ) (z : ℤ) → pos (a + b) *ℤ z ≡ pos a *ℤ z +ℤ pos b *ℤ z
times-add a b (pos n) = ap pos (add-mul a b n)
times-add a b (negsuc n) = ap (λ (x : ℕ). neg_ℤ (pos x)) (add-mul a b (suc n)) ∙ neg_ℤ-+ℤ (pos (a * suc n)) (pos (b * suc n))

-- row i of the block that starts c bytes into row i₀ is c bytes into row i₀ + i
pub block_row : (base stride i₀ i c : ℕ) → row_z base stride i₀ ≡ pos (row_at base stride i₀) → row_z base stride (i₀ + i) ≡ pos (row_at base stride (i₀ + i))
    → row_z (row_at base stride i₀ + c) stride i ≡ pos (row_at base stride (i₀ + i) + c)
block_row base stride i₀ i c e e' =
    let z : ℤ = signed 0x1_0000_0000_0000_0000 stride in
    let p : ℕ = row_at base stride i₀ in
    let f : pos (p + c) ≡ pos c +ℤ pos p = ap pos (omega arith) in
    let g : pos base +ℤ pos (i₀ + i) *ℤ z ≡ (pos base +ℤ pos i₀ *ℤ z) +ℤ pos i *ℤ z =
    ap (λ (y : ℤ). pos base +ℤ y) (times-add i₀ i z) ∙ sym (+ℤ_assoc (pos base) (pos i₀ *ℤ z) (pos i *ℤ z)) in
    ap (λ (y : ℤ). y +ℤ pos i *ℤ z) f ∙ +ℤ_assoc (pos c) (pos p) (pos i *ℤ z)
    ∙ ap (λ (y : ℤ). pos c +ℤ y) (ap (λ (y : ℤ). y +ℤ pos i *ℤ z) (sym e) ∙ sym g ∙ e')
    ∙ +ℤ_comm (pos c) (pos (row_at base stride (i₀ + i)))

-- a block of rows × o bytes from row i₀, c bytes in, of a matrix of n bytes a row that lies in memory
module _ (len base stride total n : ℕ) (lies_inside : inside len base stride total n ≡ true) (i₀ c rows o : ℕ) (0<rows : zero < rows) (0<n : zero < n) (rows≤ : i₀ + rows ≤ total) (o≤ : c + o ≤ n) where
  pub block-row_z : (i : ℕ) → i < rows → row_z (row_at base stride i₀ + c) stride i ≡ pos (row_at base stride (i₀ + i) + c)
  block-row_z i l =
      block_row base stride i₀ i c
      (inside-at len base stride total n lies_inside 0<n i₀ (omega arith)).0
      (inside-at len base stride total n lies_inside 0<n (i₀ + i) (omega arith)).0

  pub block-row_at : (i : ℕ) → i < rows → row_at (row_at base stride i₀ + c) stride i ≡ row_at base stride (i₀ + i) + c
  block-row_at i l = ap address (block-row_z i l)

  pub block_inside : inside len (row_at base stride i₀ + c) stride rows o ≡ true
  block_inside =
      inside-true len (row_at base stride i₀ + c) stride rows o (λ i l.
      fits-true len o (row_at base stride (i₀ + i) + c) (row_z (row_at base stride i₀ + c) stride i) (block-row_z i l)
      (omega (arith, (inside-at len base stride total n lies_inside 0<n (i₀ + i) (omega arith)).1)))

-- ---- for code: a row's address by unsigned arithmetic

-- a stride that is not negative
pub row_z-up : (base stride i : ℕ) → stride + stride < 0x1_0000_0000_0000_0000 → row_z base stride i ≡ pos (base + i * stride)
row_z-up base stride i h = rw (lt-ltb (stride + stride) 0x1_0000_0000_0000_0000 h)

-- a negative one, its size d, and a row that lies at 0 or above
pub row_z-down : (base stride i d : ℕ) → 0x1_0000_0000_0000_0000 ≤ stride + stride → stride + suc d ≡ 0x1_0000_0000_0000_0000 → i * suc d ≤ base → row_z base stride i ≡ pos (base - i * suc d)
row_z-down base stride i d h e l =
    let x : 0x1_0000_0000_0000_0000 - suc stride ≡ d = omega arith in
    rw (le-ltb (stride + stride) 0x1_0000_0000_0000_0000 h, x) (minus base (i * suc d) l)
  where
    minus : (a b : ℕ) → b ≤ a → pos a +ℤ neg_ℤ (pos b) ≡ pos (a - b)
    minus a zero l = ap pos (omega arith)
    minus a (suc b) l = rw (le-ltb a (suc b) l)

-- and one that lies below
pub row_z-below : (len n base stride i d : ℕ) → 0x1_0000_0000_0000_0000 ≤ stride + stride → stride + suc d ≡ 0x1_0000_0000_0000_0000 → base < i * suc d → fits len n (row_z base stride i) ≡ false
row_z-below len n base stride i d h e l =
    let x : 0x1_0000_0000_0000_0000 - suc stride ≡ d = omega arith in
    rw (le-ltb (stride + stride) 0x1_0000_0000_0000_0000 h, x) (minus base (i * suc d) l)
  where
    minus : (a b : ℕ) → a < b → fits len n (pos a +ℤ neg_ℤ (pos b)) ≡ false
    minus a zero l = absurd (not-suc-le-zero l)
    minus a (suc b) l = rw (lt-ltb a (suc b) l)
