-- Two's complement: the signed number that a residue stands for, and the residue of a whole number.
use Rattle.std.specs.Prelude.{◌+◌, ◌-◌, ◌%◌, ◌+ℤ◌}
use Rattle.numbers.specs.Kit.{cond, ℕ, zero, suc, ltb, ℤ, pos, negsuc}

-- the signed number that the residue x stands for, at the modulus m (2 ^ bits, 256 ^ bytes)
abbrev pub signed : ℕ → ℕ → ℤ
signed m x = cond (ltb (x + x) m) (pos x) (negsuc (m - suc x))

-- the residue of z at the modulus m
unfoldable pub reduce : ℕ → ℤ → ℕ
reduce m (pos n) = n % m
reduce m (negsuc n) = m - suc (n % m)

abbrev pub sumℤ : ℕ → (ℕ → ℤ) → ℤ
sumℤ zero f = pos zero
sumℤ (suc n) f = sumℤ n f +ℤ f n
