-- What multiply, add, subtract, reverse subtract and multiply by a number do to the register bytes, one definition each.
use Rattle.numbers.specs.Kit.{List, ℕ, ℤ}
use Rattle.numbers.specs.Tile.{put_tile}
use Rattle.machine.specs.declared.Sum.{Sum}
use Rattle.machine.specs.Geometry.{Parameters, acc_at}
use Rattle.machine.specs.ArithmeticWords.{product_at, sum_at, scaled_at}

-- registers of that many rows and bytes a row; the rest counts for nothing here
abbrev pub shape : ℕ → ℕ → Parameters
shape rows pitch = record { rows = rows; pitch = pitch; elen = 0; grant = λ max asked. asked }

unfoldable pub product_tile : Parameters → (wide narrow d a b m k n : ℕ) → List ℕ → List ℕ
product_tile M wide narrow d a b m k n s = put_tile (acc_at M d) m n wide (product_at M s wide narrow d a b k) s

unfoldable pub combine_tile : Parameters → Sum → (wide narrow d a m n : ℕ) → List ℕ → List ℕ
combine_tile M o wide narrow d a m n s = put_tile (acc_at M d) m n wide (sum_at M o s wide narrow d a) s

unfoldable pub scale_tile : Parameters → (wide narrow d a : ℕ) → ℤ → (m n : ℕ) → List ℕ → List ℕ
scale_tile M wide narrow d a x m n s = put_tile (acc_at M d) m n wide (scaled_at M x s wide narrow a) s
