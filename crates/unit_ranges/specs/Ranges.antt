-- 02, Twelve: a machine's sealed ranges in the bytes of its block. The layout is that of include/bodlarina.h (docs/DECISIONS.md); numbers
-- have 64 bits, low byte first.
use Rattle.std.specs.Prelude.{◌||◌, ◌&&◌, ◌∷◌, ◌++◌, ◌+◌, ◌*◌, ◌^◌}
use Rattle.numbers.specs.Kit.{Bool, cond, List, [], ℕ, leb, ltb, eqb, length, get_or}
use Rattle.numbers.specs.Upto.{upto}
use Rattle.numbers.specs.Tile.{get_le, put_le}
use Rattle.machine.specs.Tests.{all, every}
use Rattle.machine.specs.Geometry.{Range, range}
use Rattle.machine.specs.Starting.{most_seals}

abbrev pub block_bytes : ℕ
block_bytes = 200

-- the number of ranges
abbrev pub count_in : List ℕ → ℕ
count_in block = get_le block 80 8

-- eight slots, each a start and a length: the first where the one seal of a machine lay, the others behind the number
abbrev pub slot_at : ℕ → ℕ
slot_at i = cond (eqb i 0) 48 (72 + 16 * i)

abbrev pub range_at : List ℕ → ℕ → Range
range_at block i = range (get_le block (slot_at i) 8) (get_le block (slot_at i + 8) 8)

-- the ranges of the first n slots
abbrev pub first_ranges : ℕ → List ℕ → List Range
first_ranges n block = upto n (λ i rs. rs ++ (range_at block i ∷ [])) []

-- a block of that size, with no more ranges than slots, and zeros in the slots beyond them
unfoldable pub well_formed : List ℕ → Bool
well_formed block = every (
    eqb (length block) block_bytes
    ∷ leb (count_in block) most_seals
    ∷ all most_seals (λ i. ltb i (count_in block) || (eqb (range_at block i).start 0 && eqb (range_at block i).size 0)) ∷ [])

-- the ranges in a block, in order of entry; any other block has what no machine can hold
unfoldable pub seals_in : List ℕ → List Range
seals_in block = cond (well_formed block) (first_ranges (count_in block) block) (range (2 ^ 64) 0 ∷ [])

-- a range written over slot i
unfoldable pub put_range : ℕ → Range → List ℕ → List ℕ
put_range i r block = put_le (slot_at i + 8) 8 r.size (put_le (slot_at i) 8 r.start block)

-- ranges written over a block, each where seals_in reads it: their number, the ranges in order of entry, and zeros in the slots beyond them
unfoldable pub put_seals : List Range → List ℕ → List ℕ
put_seals seals block = upto most_seals (λ i. put_range i (get_or seals i (range 0 0))) (put_le 80 8 (length seals) block)
