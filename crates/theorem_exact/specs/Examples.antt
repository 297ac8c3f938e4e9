-- Which bits stand for whole numbers, computed.
use Rattle.std.specs.Prelude.{◌≡◌}
use Rattle.numbers.specs.Kit.{refl, ℕ, zero, suc, ℤ, pos, negsuc}
use Rattle.std.proofs.Common.{arith}
use Rattle.std.specs.Float.{binary32}
use Rattle.std.specs.Float.Ieee.{of_bits, to_bits, of_int}
use Rattle.numbers.specs.Binary32.{value_of, settled}
use Rattle.theorem_exact.specs.Exact.{Is, WholeNumbers}

-- 3, -5, -0 and 2^24
pub wholes : Is (value_of 0x40400000) (pos 3) × Is (value_of 0xC0A00000) (negsuc 4) × Is (value_of 0x80000000) (pos 0) × Is (value_of 0x4B800000) (pos 0x100_0000)
unfolding value_of of_bits
wholes = (refl, refl, refl, refl)

-- and their bits; 0 is +0
pub bits : (settled (of_int binary32 (pos 3)) ≡ 0x40400000) × (settled (of_int binary32 (negsuc 4)) ≡ 0xC0A00000) × (settled (of_int binary32 (pos 0)) ≡ 0)
unfolding settled of_int to_bits
bits = (refl, refl, refl)

-- a half is no whole number
pub half : Is (value_of 0x3F000000) (pos 0) → ⊥
unfolding value_of of_bits
half h = let z : ◌≡◌ {A = ℕ} 1 0 = cc in omega arith

-- 3 x 3 + -5 x -5: bits and numbers of a row and a column to which the theorems apply
unfoldable pub row_bits : ℕ → ℕ
row_bits zero = 0x40400000
row_bits (suc l) = 0xC0A00000

unfoldable pub row_numbers : ℕ → ℤ
row_numbers zero = pos 3
row_numbers (suc l) = negsuc 4

abbrev pub TwoTerms : Type 0
TwoTerms = WholeNumbers 2 row_bits row_bits row_numbers row_numbers
