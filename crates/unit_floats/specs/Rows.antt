-- What a multiply of binary32 elements leaves, row by row and as a tile.
use Rattle.numbers.specs.Kit.{List, ℕ}
use Rattle.std.specs.Prelude.{Float, ◌≡◌, ◌+◌, ◌*◌, ◌<◌, get_or}
use Rattle.numbers.specs.Tile.{get_le, put_tile}
use Rattle.numbers.specs.Binary32.{value_of, float_product}
use Rattle.numbers.specs.Bounds.{most_floats}
use Rattle.machine.specs.Geometry.{Parameters, acc_at}
use Rattle.machine.specs.ArithmeticWords.{float_product_at}
use Rattle.unit_arithmetic.specs.declared.product.Product.{Product}
use Rattle.std.specs.Float.{nan}

-- the value of the element at p
abbrev pub float_at : List ℕ → ℕ → Float
float_at s p = value_of (get_le s p 4)

-- element j of the row of C at c after a multiply of the row of A at a by the rows of B from b on
abbrev pub float_row : List ℕ → (pitch k a b c j : ℕ) → ℕ
float_row s pitch k a b c j = float_product k (get_le s (c + j * 4) 4) (λ l. get_le s (a + l * 4) 4) (λ l. get_le s (b + l * pitch + j * 4) 4)

-- the first m rows
abbrev pub first_rows : Product → ℕ → Product
first_rows p m = record { a = p.a; b = p.b; c = p.c; pitch = p.pitch; m = m; k = p.k; n = p.n }

-- the product is added
abbrev pub floats_added : Product → List ℕ → List ℕ
floats_added p s = put_tile (λ i. p.c + i * (4 * p.pitch)) p.m p.n 4 (λ i. float_row s p.pitch p.k (p.a + i * p.pitch) p.b (p.c + i * (4 * p.pitch))) s

-- d holds the values of B, most_floats for each row
abbrev pub Fetched : List Float → Product → List ℕ → Type 0
Fetched d p s = (l j : ℕ) → l < p.k → j < p.n → get_or d (l * most_floats + j) nan ≡ float_at s (p.b + l * p.pitch + j * 4)

unfoldable pub float_tile : Parameters → (d a b m k n : ℕ) → List ℕ → List ℕ
float_tile M d a b m k n s = put_tile (acc_at M d) m n 4 (float_product_at M s 4 d a b k) s
