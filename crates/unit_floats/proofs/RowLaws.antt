-- Rows of float products: their sums, the rows that are stored, and products block after block.
use Rattle.numbers.proofs.Kit.{◌≡◌, refl, sym, ap, ap₂, ◌∙◌, List, ℕ, ◌+◌, ◌*◌, ◌≤◌, ◌<◌, zero-add, arith, add-one, get_or}
use lib.Ieee.{Float, nan}
use Rattle.numbers.specs.Tile.{put_row}
use Rattle.numbers.specs.Binary32.{settled, multiply_add, float_sum, float_product}
use Rattle.numbers.proofs.ElementLaws.{put_row-cong}
use Rattle.numbers.proofs.Binary32Laws.{sum-cong}
use Rattle.numbers.specs.Bounds.{most_floats}
use Rattle.numbers.proofs.Binary32Laws.{product-cong, product_small, product-more}
use Rattle.unit_arithmetic.proofs.BlockLaws.{Joins}
use Rattle.unit_floats.specs.Rows.{float_at, float_row}

-- ---- add_products: each sum has its first l products

-- s is the register bytes, d the values of B, and A starts at a
module _ (s : List ℕ) (d : List Float) (a : ℕ) where
  abbrev pub HasProducts : (before sums : List Float) (l : ℕ) → Type 0
  HasProducts before sums l =
      (j : ℕ) → j < most_floats → get_or sums j nan ≡ float_sum (get_or before j nan) l (λ t. float_at s (a + t * 4)) (λ t. get_or d (t * most_floats + j) nan)

  pub no_product : (sums : List Float) → HasProducts sums sums 0
  unfolding float_sum
  no_product sums = λ j h. refl

  more : (v : Float) (l : ℕ) (f g : ℕ → Float) → multiply_add (float_sum v l f g) (f l) (g l) ≡ float_sum v (l + 1) f g
  unfolding float_sum
  more v l f g = rw add-one

  pub one_product_more : (before sums out : List Float) (l : ℕ) (x : Float) → HasProducts before sums l → x ≡ float_at s (a + l * 4)
      → ((j : ℕ) → j < most_floats → get_or out j nan ≡ multiply_add (get_or sums j nan) x (get_or d (l * most_floats + j) nan)) → HasProducts before out (l + 1)
  one_product_more before sums out l x has ex eo = λ j h.
      eo j h ∙ ap₂ (λ (u v : Float). multiply_add u v (get_or d (l * most_floats + j) nan)) (has j h) ex
      ∙ more (get_or before j nan) l (λ t. float_at s (a + t * 4)) (λ t. get_or d (t * most_floats + j) nan)

-- ---- multiply_row: the old values, then all products, stored

-- they are those of the entry s, whatever other rows were stored in t before
pub row-of-floats : (s t : List ℕ) (pitch k a b c n : ℕ) (old sums d : List Float) (out : List ℕ) → n ≤ most_floats
    → ((j : ℕ) → j < n → get_or old (0 + j) nan ≡ float_at s (c + j * 4))
    → ((l j : ℕ) → l < k → j < n → get_or d (l * most_floats + j) nan ≡ float_at s (b + l * pitch + j * 4))
    → ((j : ℕ) → j < most_floats → get_or sums j nan ≡ float_sum (get_or old j nan) k (λ l. float_at s (a + l * 4)) (λ l. get_or d (l * most_floats + j) nan))
    → out ≡ put_row c n 4 (λ j. settled (get_or sums j nan)) t → out ≡ put_row c n 4 (float_row s pitch k a b c) t
unfolding float_product
row-of-floats s t pitch k a b c n old sums d out narrow eo ed es e =
    e ∙ put_row-cong 4 c n (λ j. settled (get_or sums j nan)) (float_row s pitch k a b c) t (λ j h.
    ap settled (es j (omega arith)
    ∙ ap (λ (x : Float). float_sum x k (λ l. float_at s (a + l * 4)) (λ l. get_or d (l * most_floats + j) nan)) (ap (λ (p : ℕ). get_or old p nan) (sym (zero-add j)) ∙ eo j h)
    ∙ sum-cong (float_at s (c + j * 4)) k (λ l. float_at s (a + l * 4)) (λ l. get_or d (l * most_floats + j) nan) (λ l. float_at s (a + l * 4)) (λ l. float_at s (b + l * pitch + j * 4))
    (λ l g. refl) (λ l g. ed l j g h)))

-- ---- products of binary32 elements, block after block

pub float-joins : Joins 4 float_product
float-joins = record {
  reads = λ k old x y u v. product-cong old k x y u v;
  small = λ k old x y. product_small k old x y;
  more = λ k o old x y. product-more old k o x y;
}
