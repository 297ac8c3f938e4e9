-- For code: sums of products kept as residues by wrapping operations, at any modulus.
use Rattle.numbers.proofs.Kit.{◌≡◌, refl, sym, ap, ap₂, ◌∙◌, ◌⊎◌, inl, inr, ℕ, zero, suc, ◌+◌, ◌*◌, ◌/◌, ◌%◌, ◌≤◌, ◌<◌, one-mul, zero-add}
use Rattle.numbers.proofs.Kit.{mod-eq_of_lt, eq-or-lt_of_le, arith, add-one, ℤ, pos, ◌+ℤ◌, ◌*ℤ◌, +ℤ_idl, +ℤ_idr, +ℤ_assoc, lt-ltb}
use Rattle.numbers.specs.Reduce.{signed, reduce, sumℤ}
use Rattle.numbers.proofs.ReduceLaws.{reduce-add, reduce-mul, reduce-lt, reduce-signed, accumulate}

module _ (m : ℕ) (0<m : zero < m) where
  -- a residue taken as a signed number has that residue
  pub again : (z : ℤ) → reduce m (signed m (reduce m z)) ≡ reduce m z
  again z = reduce-signed m 0<m (reduce m z) (reduce-lt m 0<m z)

  -- only the residues of the summands count, and of the factors
  pub same_sum : (x x' y y' : ℤ) → reduce m x ≡ reduce m x' → reduce m y ≡ reduce m y' → reduce m (x +ℤ y) ≡ reduce m (x' +ℤ y')
  same_sum x x' y y' ex ey = reduce-add m 0<m x y ∙ ap₂ (λ (a b : ℕ). (a + b) % m) ex ey ∙ sym (reduce-add m 0<m x' y')

  pub same-product : (x x' y y' : ℤ) → reduce m x ≡ reduce m x' → reduce m y ≡ reduce m y' → reduce m (x *ℤ y) ≡ reduce m (x' *ℤ y')
  same-product x x' y y' ex ey = reduce-mul m 0<m x y ∙ ap₂ (λ (a b : ℕ). (a * b) % m) ex ey ∙ sym (reduce-mul m 0<m x' y')

  -- a wrapping add to an accumulator
  pub wrapping_add : (v : ℕ) (z : ℤ) → v < m → (v + reduce m z) % m ≡ reduce m (signed m v +ℤ z)
  wrapping_add v z h = ap (λ (r : ℕ). (r + reduce m z) % m) (sym (reduce-signed m 0<m v h)) ∙ sym (reduce-add m 0<m (signed m v) z)

  -- a wrapping product added by a wrapping add: r of the accumulator v, the factors x and y, y the residue of Y
  pub mac-is : (r v v' p x y : ℕ) (Y : ℤ) → r ≡ (v' + p) % m → p ≡ reduce m (signed m x *ℤ signed m y) → y ≡ reduce m Y → v' ≡ v → v < m
      → r ≡ reduce m (signed m v +ℤ signed m x *ℤ Y)
  mac-is r v v' p x y Y er ep ey ev h =
      er ∙ ap₂ (λ (a b : ℕ). (a + b) % m) ev
      (ep ∙ same-product (signed m x) (signed m x) (signed m y) Y refl (ap (λ (y : ℕ). reduce m (signed m y)) ey ∙ again Y))
      ∙ wrapping_add v (signed m x *ℤ Y) h

  -- no summand, and one more
  pub sum-none : (v : ℕ) (f : ℕ → ℤ) → v < m → v ≡ reduce m (signed m v +ℤ sumℤ zero f)
  sum-none v f h = sym (ap (reduce m) (+ℤ_idr (signed m v)) ∙ reduce-signed m 0<m v h)

  pub sum_more : (o : ℤ) (l : ℕ) (f : ℕ → ℤ) (v : ℕ) (z : ℤ) → v ≡ reduce m (o +ℤ sumℤ l f) → reduce m z ≡ reduce m (f l)
      → reduce m (signed m v +ℤ z) ≡ reduce m (o +ℤ sumℤ (l + 1) f)
  sum_more o l f v z ev ez =
      same_sum (signed m v) (o +ℤ sumℤ l f) z (f l) (ap (λ (v : ℕ). reduce m (signed m v)) ev ∙ again (o +ℤ sumℤ l f)) ez
      ∙ ap (reduce m) (+ℤ_assoc o (sumℤ l f) (f l))
      ∙ ap (λ (t : ℕ). reduce m (o +ℤ sumℤ t f)) (sym (add-one l))

  -- a product more, of the residue x of X and of Y
  pub product-more : (o X Y : ℤ) (l : ℕ) (f : ℕ → ℤ) (v x : ℕ) → v ≡ reduce m (o +ℤ sumℤ l f) → x ≡ reduce m X → X *ℤ Y ≡ f l
      → reduce m (signed m v +ℤ signed m x *ℤ Y) ≡ reduce m (o +ℤ sumℤ (l + 1) f)
  product-more o X Y l f v x ev ex ef =
      sum_more o l f v (signed m x *ℤ Y) ev
      (same-product (signed m x) X Y Y (ap (λ (x : ℕ). reduce m (signed m x)) ex ∙ again X) refl
      ∙ ap (reduce m) ef)

  -- an accumulator that starts at 0: once times an element is the element, and two products are their sum
  pub one-times : 1 < m → (v : ℕ) → v < m → reduce m (signed m 0 +ℤ signed m 1 *ℤ signed m v) ≡ v
  one-times 1<m v h =
      reduce-add m 0<m (signed m 0) (signed m 1 *ℤ signed m v)
      ∙ ap₂ (λ (a b : ℕ). (a + b) % m) (reduce-signed m 0<m 0 0<m)
      (reduce-mul m 0<m (signed m 1) (signed m v) ∙ ap₂ (λ (a b : ℕ). (a * b) % m) (reduce-signed m 0<m 1 1<m) (reduce-signed m 0<m v h)
      ∙ ap (λ (a : ℕ). a % m) (one-mul v) ∙ mod-eq_of_lt h)
      ∙ ap (λ (a : ℕ). a % m) (zero-add v) ∙ mod-eq_of_lt h

  pub two_products : (x y : ℤ) → reduce m (signed m (reduce m (signed m 0 +ℤ x)) +ℤ y) ≡ reduce m (x +ℤ y)
  two_products x y =
      let e : signed m 0 +ℤ x ≡ x = rw (lt-ltb 0 m 0<m) (+ℤ_idl x) in
      accumulate m 0<m (signed m 0 +ℤ x) y ∙ ap (λ (z : ℤ). reduce m (z +ℤ y)) e

  -- two wrapping products, added by a wrapping add
  pub pair_is : (r p q x y x' y' : ℕ) (X Y X' Y' : ℤ) → r ≡ (p + q) % m → p ≡ reduce m (signed m x *ℤ signed m y) → q ≡ reduce m (signed m x' *ℤ signed m y')
      → x ≡ reduce m X → y ≡ reduce m Y → x' ≡ reduce m X' → y' ≡ reduce m Y' → r ≡ reduce m (X *ℤ Y +ℤ X' *ℤ Y')
  pair_is r p q x y x' y' X Y X' Y' er ep eq ex ey ex' ey' =
      er ∙ ap₂ (λ (a b : ℕ). (a + b) % m) (ep ∙ wrapped x y X Y ex ey) (eq ∙ wrapped x' y' X' Y' ex' ey') ∙ sym (reduce-add m 0<m (X *ℤ Y) (X' *ℤ Y'))
    where
      wrapped : (x y : ℕ) (X Y : ℤ) → x ≡ reduce m X → y ≡ reduce m Y → reduce m (signed m x *ℤ signed m y) ≡ reduce m (X *ℤ Y)
      wrapped x y X Y ex ey =
          same-product (signed m x) X (signed m y) Y (ap (λ (x : ℕ). reduce m (signed m x)) ex ∙ again X) (ap (λ (y : ℕ). reduce m (signed m y)) ey ∙ again Y)

-- ---- a sum in pairs

pub sum-pairs : (f : ℕ → ℤ) (p : ℕ) → sumℤ p (λ q. f (2 * q) +ℤ f (2 * q + 1)) ≡ sumℤ (2 * p) f
sum-pairs f zero = refl
sum-pairs f (suc p) =
    let e : suc (suc (2 * p)) ≡ 2 * suc p = omega arith in
    ap (λ (z : ℤ). z +ℤ (f (2 * p) +ℤ f (2 * p + 1))) (sum-pairs f p)
    ∙ sym (+ℤ_assoc (sumℤ (2 * p) f) (f (2 * p)) (f (2 * p + 1)))
    ∙ ap (λ (l : ℕ). sumℤ (2 * p) f +ℤ f (2 * p) +ℤ f l) (add-one (2 * p))
    ∙ ap (λ (l : ℕ). sumℤ l f) e

-- of k terms, where a term that is left over stands with 0
pub sum-in-pairs : (f : ℕ → ℤ) (k : ℕ) → f k ≡ pos 0 → sumℤ ((k + 1) / 2) (λ q. f (2 * q) +ℤ f (2 * q + 1)) ≡ sumℤ k f
sum-in-pairs f k z =
    let h : k ≤ 2 * ((k + 1) / 2) = omega arith in
    sum-pairs f ((k + 1) / 2) ∙ go (eq-or-lt_of_le h)
  where
    go : (k ≡ 2 * ((k + 1) / 2)) ⊎ (k < 2 * ((k + 1) / 2)) → sumℤ (2 * ((k + 1) / 2)) f ≡ sumℤ k f
    go (inl e) = ap (λ (l : ℕ). sumℤ l f) (sym e)
    go (inr l) =
        let e : 2 * ((k + 1) / 2) ≡ suc k = omega arith in
        ap (λ (l : ℕ). sumℤ l f) e ∙ ap (λ (t : ℤ). sumℤ k f +ℤ t) z ∙ +ℤ_idr (sumℤ k f)
