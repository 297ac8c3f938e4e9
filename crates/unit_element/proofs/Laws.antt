-- Widths by cases, and sums and products that wrap.
use Rattle.numbers.proofs.Kit.{◌≡◌, refl, sym, ap, ap₂, ◌∙◌, ⊎_elim, inl, inr, ℕ, ◌+◌, ◌%◌, ◌≤◌, ◌<◌, arith, ◌+ℤ◌, ◌*ℤ◌}
use Rattle.numbers.specs.Reduce.{signed, reduce}
use Rattle.numbers.proofs.ReduceLaws.{reduce-add, reduce-signed}
use Rattle.numbers.proofs.SumLaws.{same_sum, again}
use Rattle.unit_element.specs.Element.{Width, Short, Narrow}

pub is8 : (w : ℕ) → Width w → (w ≡ 1 → ⊥) → (w ≡ 2 → ⊥) → (w ≡ 4 → ⊥) → w ≡ 8
is8 w h a b c = ⊎_elim (λ e. absurd (a e)) (λ h. ⊎_elim (λ e. absurd (b e)) (λ h. ⊎_elim (λ e. absurd (c e)) (λ e. e) h) h) h

pub is4 : (w : ℕ) → Short w → (w ≡ 1 → ⊥) → (w ≡ 2 → ⊥) → w ≡ 4
is4 w h a b = ⊎_elim (λ e. absurd (a e)) (λ h. ⊎_elim (λ e. absurd (b e)) (λ e. e) h) h

pub is2 : (w : ℕ) → Narrow w → (w ≡ 1 → ⊥) → w ≡ 2
is2 w h a = ⊎_elim (λ e. absurd (a e)) (λ e. e) h

pub width_small : (w : ℕ) → Width w → w ≤ 8
width_small w h = ⊎_elim (λ e. omega arith) (λ h. ⊎_elim (λ e. omega arith) (λ h. ⊎_elim (λ e. omega arith) (λ e. omega arith) h) h) h

-- an element no wider than 4 bytes
pub short : (w : ℕ) → Width w → w ≤ 4 → Short w
short w h l = ⊎_elim inl (λ h. inr (⊎_elim inl (λ h. inr (⊎_elim (λ e. e) (λ e. absurd (omega arith)) h)) h)) h

pub short-small : (w : ℕ) → Short w → w ≤ 4
short-small w h = ⊎_elim (λ e. omega arith) (λ h. ⊎_elim (λ e. omega arith) (λ e. omega arith) h) h

-- an element no wider than 1 or 2 bytes
pub is1 : (w : ℕ) → Short w → w ≤ 1 → w ≡ 1
is1 w h l = ⊎_elim (λ e. e) (λ h. ⊎_elim (λ e. absurd (omega arith)) (λ e. absurd (omega arith)) h) h

pub narrow : (w : ℕ) → Short w → w ≤ 2 → Narrow w
narrow w h l = ⊎_elim inl (λ h. ⊎_elim inr (λ e. absurd (omega arith)) h) h

pub not-4 : (w : ℕ) → Short w → (w ≡ 4 → ⊥) → Narrow w
not-4 w h a = ⊎_elim inl (λ h. ⊎_elim inr (λ e. absurd (a e)) h) h

-- ---- sums and products that wrap

-- a sum of residues is the residue of the signed sum
pub wrapping_sum-is : (m : ℕ) → 0 < m → (a b : ℕ) → a < m → b < m → (a + b) % m ≡ reduce m (signed m a +ℤ signed m b)
wrapping_sum-is m 0<m a b la lb =
    ap₂ (λ (x y : ℕ). (x + y) % m) (sym (reduce-signed m 0<m a la)) (sym (reduce-signed m 0<m b lb)) ∙ sym (reduce-add m 0<m (signed m a) (signed m b))

-- the sum r of v and the product p of x and y
pub sum-of-product : (m : ℕ) → 0 < m → (r v p x y : ℕ) → r ≡ reduce m (signed m v +ℤ signed m p) → p ≡ reduce m (signed m x *ℤ signed m y)
    → r ≡ reduce m (signed m v +ℤ signed m x *ℤ signed m y)
sum-of-product m 0<m r v p x y er ep =
    er ∙ same_sum m 0<m (signed m v) (signed m v) (signed m p) (signed m x *ℤ signed m y) refl
    (ap (λ (q : ℕ). reduce m (signed m q)) ep ∙ again m 0<m (signed m x *ℤ signed m y))
