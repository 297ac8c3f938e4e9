-- Products and parts of them: where they lie, and what they leave.
use Rattle.std.specs.Prelude.{◌+◌, ◌*◌, ◌≤◌}
use Rattle.numbers.specs.Kit.{List, ℕ}
use Rattle.numbers.specs.Tile.{put_tile}
use Rattle.numbers.specs.Bounds.{most_pitch}
use Rattle.unit_element.specs.Element.{Width}
use Rattle.unit_sums.specs.Rows.{product_row}
use Rattle.unit_arithmetic.specs.declared.product.Product.{Product}

-- the k terms from term l on, of elements of w bytes
abbrev pub terms_from : Product → (l k w : ℕ) → Product
terms_from p l k w = record { a = p.a + l * w; b = p.b + l * p.pitch; c = p.c; pitch = p.pitch; m = p.m; k = k; n = p.n }

-- the n columns from column j on, of elements of w and cw bytes
abbrev pub columns_from : Product → (j n w cw : ℕ) → Product
columns_from p j n w cw = record { a = p.a; b = p.b + j * w; c = p.c + j * cw; pitch = p.pitch; m = p.m; k = p.k; n = n }

-- the m rows from row i on
abbrev pub rows_from : Product → (i m : ℕ) → Product
rows_from p i m = record { a = p.a + i * p.pitch; b = p.b; c = p.c + i * (4 * p.pitch); pitch = p.pitch; m = m; k = p.k; n = p.n }

-- the bytes of an element of A and B, and of one of C
abbrev pub Widths : (width wide : ℕ) → Type 0
Widths width wide = (Width width) × ((Width wide) × (width ≤ wide))

-- rows fit their pitch, A and B end before C begins, and C lies in `len` bytes
pub record LiesIn (p : Product) (w cw len : ℕ) : Type 0 where
  pub pitch-bound : p.pitch ≤ most_pitch
  pub terms-bound : p.k ≤ most_pitch
  pub columns-bound : p.n ≤ most_pitch
  pub a-row : p.k * w ≤ p.pitch
  pub b-row : p.n * w ≤ p.pitch
  pub c-row : p.n * cw ≤ 4 * p.pitch
  pub a-before : p.a + p.m * p.pitch + p.k * w ≤ p.c + p.pitch
  pub b-before : p.b + p.k * p.pitch ≤ p.c
  pub c-inside : p.c ≤ len
  pub c-ends : p.c + p.m * (4 * p.pitch) + p.n * cw ≤ len + 4 * p.pitch

-- the product is added
abbrev pub added : Product → (w cw : ℕ) → List ℕ → List ℕ
added p w cw s =
    put_tile (λ i. p.c + i * (4 * p.pitch)) p.m p.n cw (λ i. product_row s cw w p.pitch p.k (p.a + i * p.pitch) p.b (p.c + i * (4 * p.pitch))) s
