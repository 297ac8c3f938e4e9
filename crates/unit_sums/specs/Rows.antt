-- What the kernels leave, as residues at the output's width.
use Rattle.std.specs.Prelude.{◌+◌, ◌*◌, ◌^◌, ◌+ℤ◌, ◌*ℤ◌}
use Rattle.numbers.specs.Kit.{List, ℕ, ℤ}
use Rattle.numbers.specs.Tile.{get_le}
use Rattle.numbers.specs.Reduce.{signed, reduce}
use Rattle.machine.specs.ArithmeticWords.{product}

-- the signed element of w bytes at p
abbrev pub signed_le : List ℕ → ℕ → ℕ → ℤ
signed_le s p w = signed (256 ^ w) (get_le s p w)

-- the accumulator v of `wide` bytes plus x, of that width, times the signed element of w bytes at p
abbrev pub plus_product : (wide v x : ℕ) → List ℕ → (p w : ℕ) → ℕ
plus_product wide v x s p w = reduce (256 ^ wide) (signed (256 ^ wide) v +ℤ signed (256 ^ wide) x *ℤ signed_le s p w)

-- the signed element of w bytes at p, as a residue at `wide` bytes
abbrev pub residue_at : (wide : ℕ) → List ℕ → (p w : ℕ) → ℕ
residue_at wide s p w = reduce (256 ^ wide) (signed_le s p w)

-- the accumulator v plus x times y, all of `wide` bytes
abbrev pub plus_times : (wide v x y : ℕ) → ℕ
plus_times wide v x y = reduce (256 ^ wide) (signed (256 ^ wide) v +ℤ signed (256 ^ wide) x *ℤ signed (256 ^ wide) y)

-- element j of the row of C at c after a multiply of the row of A at a by the rows of B from b on
abbrev pub product_row : List ℕ → (wide narrow pitch k a b c j : ℕ) → ℕ
product_row s wide narrow pitch k a b c j =
    product wide narrow k (get_le s (c + j * wide) wide) (λ l. get_le s (a + l * narrow) narrow) (λ l. get_le s (b + l * pitch + j * narrow) narrow)

-- x times element j of the row at `to` plus y times that of the row at `from`
abbrev pub weighted_row : List ℕ → (from to narrow wide x y j : ℕ) → ℕ
weighted_row s from to narrow wide x y j =
    reduce (256 ^ wide) (signed (256 ^ wide) x *ℤ signed_le s (to + j * wide) wide +ℤ signed (256 ^ wide) y *ℤ signed_le s (from + j * narrow) narrow)
