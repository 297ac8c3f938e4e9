-- Register bytes and the tiles in them.
use Rattle.std.specs.Prelude.{◌≡◌, ◌+◌, ◌*◌, ◌≤◌}
use Rattle.numbers.specs.Kit.{ℕ}
use Rattle.numbers.specs.Bounds.{most_pitch, most_size}
use Rattle.machine.specs.Geometry.{Parameters}
use Rattle.unit_arithmetic.specs.Effect.{shape}
use Rattle.unit_arithmetic.specs.declared.product.Product.{Product}
use Rattle.unit_arithmetic.specs.declared.Tiles.{Tiles}

-- their registers
abbrev pub shape_of : Tiles → Parameters
shape_of t = shape t.rows t.pitch

-- `len` bytes are all sixteen registers, and no more than those of the largest machine
abbrev pub Registers : Tiles → ℕ → Type 0
Registers t len = (t.rows * t.pitch ≤ most_size) × ((t.pitch ≤ most_pitch) × (len ≡ 16 * (t.rows * t.pitch)))

-- A in register a, B in register b, C in accumulator d
abbrev pub product_of : Tiles → (d a b : ℕ) → Product
product_of t d a b = record { a = a * (t.rows * t.pitch); b = b * (t.rows * t.pitch); c = (8 + 4 * d) * (t.rows * t.pitch); pitch = t.pitch; m = t.m; k = t.k; n = t.n }
