-- What the weighted sums leave, and how their two rows may lie.
use Rattle.std.specs.Prelude.{◌≡◌, ◌⊎◌, ◌+◌, ◌%◌, ◌^◌, ◌≤◌}
use Rattle.numbers.specs.Kit.{List, ℕ, ℤ, pos, negsuc}
use Rattle.numbers.specs.Tile.{put_tile}
use Rattle.machine.specs.declared.Sum.{Sum}
use Rattle.machine.specs.declared.Sum.TheVariants.{Add, Subtract, ReverseSubtract}
use Rattle.machine.specs.Geometry.{Parameters, acc_at}
use Rattle.unit_sums.specs.Rows.{weighted_row}
use Rattle.unit_arithmetic.specs.declared.weights.Weights.{Weights}

-- the weights of md and of ms1 in a sum
abbrev pub weight_d : Sum → ℤ
weight_d Add = pos 1
weight_d Subtract = pos 1
weight_d ReverseSubtract = negsuc 0

abbrev pub weight_a : Sum → ℤ
weight_a Add = pos 1
weight_a Subtract = negsuc 0
weight_a ReverseSubtract = pos 1

-- element j of the row at `to`, by its weights cut to the output's width
abbrev pub weighed : Weights → List ℕ → (from to j : ℕ) → ℕ
weighed w s from to = weighted_row s from to w.width w.wide (w.x % 256 ^ w.wide) (w.y % 256 ^ w.wide)

-- weighted_row for every row of accumulator d, with accumulator a
unfoldable pub weighted_tile : Parameters → (wide narrow d a x y m n : ℕ) → List ℕ → List ℕ
weighted_tile M wide narrow d a x y m n s = put_tile (acc_at M d) m n wide (λ i. weighted_row s (acc_at M a i) (acc_at M d i) narrow wide x y) s

-- rows of so many bytes start at one place, or share no byte
abbrev pub Aligned : (from to n o : ℕ) → Type 0
Aligned from to n o = (from ≡ to) ⊎ ((from + n ≤ to) ⊎ (to + o ≤ from))
