-- Sums of products kept at a width, once over the width: one product more, and the rows that are stored.
use Rattle.numbers.proofs.Kit.{◌≡◌, refl, sym, ap, ap₂, ◌∙◌, List, ℕ, ◌+◌, ◌*◌, ◌%◌, ◌^◌, ◌≤◌, ◌<◌, add_comm, zero-add, one-mul, mod-eq_of_lt}
use Rattle.numbers.proofs.Kit.{pow-le-pow_right, arith, get_or, ℤ, ◌+ℤ◌, ◌*ℤ◌}
use Rattle.numbers.specs.Reduce.{signed, reduce, sumℤ}
use Rattle.numbers.specs.Tile.{get_le, put_row}
use Rattle.numbers.proofs.TileLaws.{le-lt}
use Rattle.numbers.proofs.PutLaws.{put_row-low}
use Rattle.numbers.proofs.ElementLaws.{pow-256, signed-widened, cut, put_row-cong}
use Rattle.numbers.proofs.ReduceLaws.{reduce-add, reduce-mul, reduce-lt, reduce-signed, sumℤ-cong}
use Rattle.numbers.proofs.SumLaws.{wrapping_add, sum-none, sum_more, product-more, same_sum, two_products}
use Rattle.machine.specs.ArithmeticWords.{product}
use Rattle.unit_sums.specs.Rows.{signed_le, plus_product, residue_at, plus_times, product_row, weighted_row}

-- sums that started at 0, and then the old value once, or another product
module _ (m : ℕ) (0<m : 0 < m) where
  turned : (x y : ℤ) → reduce m (x +ℤ y) ≡ reduce m (y +ℤ x)
  turned x y = reduce-add m 0<m x y ∙ ap (λ (n : ℕ). n % m) (add_comm (reduce m x) (reduce m y)) ∙ sym (reduce-add m 0<m y x)

  once_last : 1 < m → (z : ℤ) (v : ℕ) → v < m → reduce m (signed m (reduce m (signed m 0 +ℤ z)) +ℤ signed m 1 *ℤ signed m v) ≡ reduce m (signed m v +ℤ z)
  once_last 1<m z v h =
      two_products m 0<m z (signed m 1 *ℤ signed m v)
      ∙ same_sum m 0<m z z (signed m 1 *ℤ signed m v) (signed m v) refl
      (reduce-mul m 0<m (signed m 1) (signed m v) ∙ ap₂ (λ (a b : ℕ). (a * b) % m) (reduce-signed m 0<m 1 1<m) (reduce-signed m 0<m v h)
      ∙ ap (λ (a : ℕ). a % m) (one-mul v) ∙ mod-eq_of_lt h ∙ sym (reduce-signed m 0<m v h))
      ∙ turned z (signed m v)

module _ (W : ℕ) (s : List ℕ) where
  -- product l of column j, of A's element x
  pub product-added : (w pitch a b j l old v x r : ℕ)
      → v ≡ product W w l old (λ t. get_le s (a + t * w) w) (λ t. get_le s (b + t * pitch + j * w) w)
      → x ≡ residue_at W s (a + l * w) w → r ≡ plus_product W v x s (b + l * pitch + j * w) w
      → r ≡ product W w (l + 1) old (λ t. get_le s (a + t * w) w) (λ t. get_le s (b + t * pitch + j * w) w)
  product-added w pitch a b j l old v x r ev ex er =
      er ∙ product-more (256 ^ W) (pow-256 W) (signed (256 ^ W) old) (A l) (B l) l (λ t. A t *ℤ B t) v x ev ex refl
    where
      A : ℕ → ℤ
      A t = signed_le s (a + t * w) w

      B : ℕ → ℤ
      B t = signed_le s (b + t * pitch + j * w) w

  -- accumulators that start at 0: all products, and the old elements once, stored
  pub row-of-products : (w pitch k a b c n one : ℕ) (sums out : List ℕ) → 1 < 256 ^ W → ((q : ℕ) → get_or s q 0 < 256) → one ≡ 1
      → ((j : ℕ) → j < n → get_or sums j 0 ≡ product W w k 0 (λ l. get_le s (a + l * w) w) (λ l. get_le s (b + l * pitch + j * w) w))
      → out ≡ put_row c n W (λ j. plus_product W (get_or sums j 0) one s (c + j * W) W) s → out ≡ put_row c n W (product_row s W w pitch k a b c) s
  row-of-products w pitch k a b c n one sums out big bytes eo es e =
      e ∙ put_row-cong W c n (λ j. plus_product W (get_or sums j 0) one s (c + j * W) W) (product_row s W w pitch k a b c) s
      (λ j h. ap₂ (λ (v o : ℕ). plus_product W v o s (c + j * W) W) (es j h) eo
      ∙ once_last (256 ^ W) (pow-256 W) big (sumℤ k (λ l. signed_le s (a + l * w) w *ℤ signed_le s (b + l * pitch + j * w) w)) (get_le s (c + j * W) W) (le-lt s bytes (c + j * W) W))

  -- and two products, stored
  pub row-of-weights : (w from to n x y : ℕ) (none one out : List ℕ) → ((j : ℕ) → get_or none j 0 ≡ 0)
      → ((j : ℕ) → j < n → get_or one j 0 ≡ plus_product W (get_or none j 0) y s (from + j * w) w)
      → out ≡ put_row to n W (λ j. plus_product W (get_or one j 0) x s (to + j * W) W) s → out ≡ put_row to n W (weighted_row s from to w W x y) s
  row-of-weights w from to n x y none one out zero e1 e =
      e ∙ put_row-cong W to n (λ j. plus_product W (get_or one j 0) x s (to + j * W) W) (weighted_row s from to w W x y) s
      (λ j h. ap (λ (v : ℕ). plus_product W v x s (to + j * W) W)
      (e1 j h ∙ ap (λ (v : ℕ). plus_product W v y s (from + j * w) w) (zero j))
      ∙ two_products (256 ^ W) (pow-256 W) (signed (256 ^ W) y *ℤ signed_le s (from + j * w) w) (signed (256 ^ W) x *ℤ signed_le s (to + j * W) W)
      ∙ turned (256 ^ W) (pow-256 W) (signed (256 ^ W) y *ℤ signed_le s (from + j * w) w) (signed (256 ^ W) x *ℤ signed_le s (to + j * W) W))

-- ---- sums at W bytes of factors that are residues at W bytes already

module _ (W : ℕ) where
  -- a wrapping product added by a wrapping add
  pub times-is : (r v z x y : ℕ) → r ≡ (v + z) % 256 ^ W → z ≡ reduce (256 ^ W) (signed (256 ^ W) x *ℤ signed (256 ^ W) y) → v < 256 ^ W → r ≡ plus_times W v x y
  times-is r v z x y er ez h = er ∙ ap (λ (q : ℕ). (v + q) % 256 ^ W) ez ∙ wrapping_add (256 ^ W) (pow-256 W) v (signed (256 ^ W) x *ℤ signed (256 ^ W) y) h

  -- no product, and one more
  pub times_none : (v : ℕ) (f g : ℕ → ℕ) → v < 256 ^ W → v ≡ product W W 0 v f g
  times_none v f g h = sum-none (256 ^ W) (pow-256 W) v (λ l. signed (256 ^ W) (f l) *ℤ signed (256 ^ W) (g l)) h

  pub times_more : (v l : ℕ) (f g : ℕ → ℕ) → plus_times W (product W W l v f g) (f l) (g l) ≡ product W W (l + 1) v f g
  times_more v l f g =
      sum_more (256 ^ W) (pow-256 W) (signed (256 ^ W) v) l (λ t. signed (256 ^ W) (f t) *ℤ signed (256 ^ W) (g t)) (product W W l v f g)
      (signed (256 ^ W) (f l) *ℤ signed (256 ^ W) (g l)) refl refl

-- elements of w bytes and an old element of `wide` bytes, neither wider than W
module _ (W wide w : ℕ) (s : List ℕ) (bytes : (q : ℕ) → get_or s q 0 < 256) (lw : w ≤ W) (lv : wide ≤ W) where
  -- an element as a residue at W bytes stands for the same number
  same-signed : (v p : ℕ) → v ≤ W → signed (256 ^ W) (residue_at W s p v) ≡ signed_le s p v
  same-signed v p h = signed-widened (256 ^ v) (256 ^ W) (get_le s p v) (le-lt s bytes p v) (wider v h)
    where
      wider : (v : ℕ) → v ≤ W → 256 ^ v ≤ 256 ^ W
      wider v h = pow-le-pow_right (omega arith) h

  -- the low bytes of their sum at W bytes are their sum at `wide` bytes
  pub low_product : (k p : ℕ) (f g : ℕ → ℕ)
      → product W W k (residue_at W s p wide) (λ l. residue_at W s (f l) w) (λ l. residue_at W s (g l) w) % 256 ^ wide
      ≡ product wide w k (get_le s p wide) (λ l. get_le s (f l) w) (λ l. get_le s (g l) w) % 256 ^ wide
  low_product k p f g =
      ap₂ (λ (x y : ℤ). reduce (256 ^ W) (x +ℤ y) % 256 ^ wide) (same-signed wide p lv)
      (sumℤ-cong k (λ l. signed (256 ^ W) (residue_at W s (f l) w) *ℤ signed (256 ^ W) (residue_at W s (g l) w)) (λ l. signed_le s (f l) w *ℤ signed_le s (g l) w)
      (λ l h. ap₂ ◌*ℤ◌ (same-signed w (f l) lw) (same-signed w (g l) lw)))
      ∙ cut wide W lv (signed_le s p wide +ℤ sumℤ k (λ l. signed_le s (f l) w *ℤ signed_le s (g l) w))
      ∙ sym (mod-eq_of_lt (reduce-lt (256 ^ wide) (pow-256 wide) (signed_le s p wide +ℤ sumℤ k (λ l. signed_le s (f l) w *ℤ signed_le s (g l) w))))

  -- sums that start from the old elements: all products, stored in t, in which other rows were stored before
  pub row-of-lanes : (t : List ℕ) (lanes pitch k a b c n : ℕ) (old sums d out : List ℕ) → n ≤ lanes
      → ((j : ℕ) → j < n → get_or old (0 + j) 0 ≡ residue_at W s (c + j * wide) wide)
      → ((l j : ℕ) → l < k → j < n → get_or d (l * lanes + j) 0 ≡ residue_at W s (b + l * pitch + j * w) w)
      → ((j : ℕ) → j < lanes → get_or sums j 0 ≡ product W W k (get_or old j 0) (λ l. residue_at W s (a + l * w) w) (λ l. get_or d (l * lanes + j) 0))
      → out ≡ put_row c n wide (λ j. get_or sums j 0) t → out ≡ put_row c n wide (product_row s wide w pitch k a b c) t
  row-of-lanes t lanes pitch k a b c n old sums d out narrow eo ed es e =
      e ∙ put_row-low wide c n (λ j. get_or sums j 0) (product_row s wide w pitch k a b c) t (λ j h.
      ap (λ (v : ℕ). v % 256 ^ wide) (es j (omega arith) ∙ fetched j h)
      ∙ low_product k (c + j * wide) (λ l. a + l * w) (λ l. b + l * pitch + j * w))
    where
      A : ℕ → ℕ
      A l = residue_at W s (a + l * w) w

      fetched : (j : ℕ) → j < n
          → product W W k (get_or old j 0) A (λ l. get_or d (l * lanes + j) 0) ≡ product W W k (residue_at W s (c + j * wide) wide) A (λ l. residue_at W s (b + l * pitch + j * w) w)
      fetched j h =
          ap (λ (o : ℕ). product W W k o A (λ l. get_or d (l * lanes + j) 0)) (ap (λ (p : ℕ). get_or old p 0) (sym (zero-add j)) ∙ eo j h)
          ∙ ap (λ (z : ℤ). reduce (256 ^ W) (signed (256 ^ W) (residue_at W s (c + j * wide) wide) +ℤ z))
          (sumℤ-cong k (λ l. signed (256 ^ W) (A l) *ℤ signed (256 ^ W) (get_or d (l * lanes + j) 0)) (λ l. signed (256 ^ W) (A l) *ℤ signed (256 ^ W) (residue_at W s (b + l * pitch + j * w) w))
          (λ l g. ap (λ (v : ℕ). signed (256 ^ W) (A l) *ℤ signed (256 ^ W) v) (ed l j g h)))
