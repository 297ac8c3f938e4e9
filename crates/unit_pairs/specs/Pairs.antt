-- Sums of products two terms at a time: elements of one or two bytes as numbers of 16 bits, in pairs.
use Rattle.std.specs.Prelude.{◌+◌, ◌*◌, ◌/◌, ◌%◌, ◌^◌, ◌+ℤ◌, ◌*ℤ◌}
use Rattle.numbers.specs.Kit.{cond, List, ℕ, zero, suc, ltb, get_or, ℤ}
use Rattle.numbers.specs.Reduce.{signed, reduce, sumℤ}
use Rattle.numbers.specs.Tile.{get_le}
use Rattle.numbers.specs.Bounds.{most_columns, most_terms}
use Rattle.unit_pairs.specs.declared.Block.{Block}
use Rattle.unit_sums.specs.Rows.{signed_le}

-- the signed element of w bytes at p, as a residue at 16 bits
abbrev pub half : List ℕ → ℕ → ℕ → ℕ
half s p w = reduce (256 ^ 2) (signed_le s p w)

-- element l of the k elements from a on, and 0 after them
abbrev pub padded : List ℕ → (a w k l : ℕ) → ℕ
padded s a w k l = cond (ltb l k) (half s (a + l * w) w) 0

-- the places of a pair of rows of B: two for each column
abbrev pub pair_places : ℕ
pair_places = 2 * most_columns

-- the places of a row of A: each pair of terms four times
abbrev pub factor_places : ℕ
factor_places = 4 * most_terms

-- where element j of row l of B stands: the rows in pairs, pair_places for each pair, its two rows interleaved
abbrev pub place_of : ℕ → ℕ → ℕ
place_of l j = pair_places * (l / 2) + 2 * j + l % 2

-- the two products of the pairs at h and at o
abbrev pub pair : List ℕ → ℕ → List ℕ → ℕ → ℤ
pair xs h b o =
    signed (256 ^ 2) (get_or xs h 0) *ℤ signed (256 ^ 2) (get_or b o 0) +ℤ signed (256 ^ 2) (get_or xs (h + 1) 0) *ℤ signed (256 ^ 2) (get_or b (o + 1) 0)

-- the accumulator v plus n pairs, which stand 8 apart in xs and pair_places apart in b
abbrev pub plus_pairs : ℕ → List ℕ → ℕ → List ℕ → ℕ → ℕ → ℕ
plus_pairs v xs h b o n = reduce (256 ^ 4) (signed (256 ^ 4) v +ℤ sumℤ n (λ p. pair xs (h + 8 * p) b (o + pair_places * p)))

-- element q of a block
abbrev pub lane : Block → ℕ → ℕ
lane x zero = x.e0
lane x (suc zero) = x.e1
lane x (suc (suc zero)) = x.e2
lane x (suc (suc (suc q))) = x.e3

-- element j of the row of C at c plus its pairs, where the columns stand from o on in b and the pairs of xs four times each
abbrev pub pairs_row : List ℕ → ℕ → List ℕ → List ℕ → (o pairs j : ℕ) → ℕ
pairs_row s c xs b o pairs j = plus_pairs (get_le s (c + j * 4) 4) xs (2 * (j % 4)) b (o + 2 * j) pairs
