-- What a slot must be, for the contracts of private functions.
use Rattle.std.specs.Prelude.{◌&&◌, ◌+◌, ◌≤◌, ◌<◌}
use Rattle.numbers.specs.Kit.{Bool, cond, List, ℕ, ltb, eqb}
use Rattle.machine.specs.Starting.{seal_ends}
use Rattle.machine.specs.Memory.{row_at}
use Rattle.unit_ranges.specs.Ranges.{range_at}

-- a slot without a range
abbrev pub slot_empty : List ℕ → ℕ → Bool
slot_empty block i = eqb (range_at block i).start 0 && eqb (range_at block i).size 0

-- a slot among the first so many has a range that ends where it may; any other has none
abbrev pub slot_sound : List ℕ → ℕ → ℕ → Bool
slot_sound block count i =
    cond (ltb i count) (seal_ends (range_at block i).start (range_at block i).size) (slot_empty block i)

-- no byte of the first so many ranges lies before low, or at high or behind it
abbrev pub Around : List ℕ → ℕ → (low high : ℕ) → Type 0
Around block count low high = (i : ℕ) → i < count → (low ≤ (range_at block i).start) × ((range_at block i).start + (range_at block i).size ≤ high)

-- no byte of the rows lies before p, or n bytes behind it or further
abbrev pub Spanned : (p n base stride rows bytes : ℕ) → Type 0
Spanned p n base stride rows bytes = (i : ℕ) → i < rows → (p ≤ row_at base stride i) × (row_at base stride i + bytes ≤ p + n)
