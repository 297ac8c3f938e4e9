-- The checks that a store makes once the tile's sizes are checked: answers 5, 6, 13 and 7. Row i of the tile starts in the registers at
-- start + i * pitch; in memory it has so many lines of n bytes each.
use Rattle.std.specs.Prelude.{◌∷◌, ◌+◌, ◌*◌, ◌≤◌, ◌<◌}
use Rattle.numbers.specs.Kit.{Bool, false, List, [], ℕ}
use Rattle.machine.specs.declared.Refusal.TheVariants.{OutsideMemory, SealedByte, RowsOverlap}
use Rattle.machine.specs.Answers.{Check, ◌otherwise◌}
use Rattle.machine.specs.Memory.{row_at, inside, distinct, rows_miss}
use Rattle.machine.specs.Refusals.{needs}

-- rows of n bytes each start, and each of them ends, by the end of len bytes
abbrev pub RowsIn : (start pitch rows n len : ℕ) → Type 0
RowsIn start pitch rows n len = (start ≤ len) × ((i : ℕ) → i < rows → start + i * pitch + n ≤ len)

abbrev pub marks_check : List ℕ → (start pitch rows cols w : ℕ) → Check
marks_check marks start pitch rows cols w = needs false marks (λ i. start + i * pitch) rows cols w

abbrev pub memory_check : (len base stride rows n : ℕ) → Check
memory_check len base stride rows n = inside len base stride rows n otherwise OutsideMemory

abbrev pub overlap_check : (base stride rows n : ℕ) → Check
overlap_check base stride rows n = distinct (row_at base stride) rows n otherwise RowsOverlap

abbrev pub seal_check : (ℕ → Bool) → (base stride rows n : ℕ) → Check
seal_check isSealed base stride rows n = rows_miss isSealed base stride rows n otherwise SealedByte

abbrev pub store_checks : (ℕ → Bool) → List ℕ → (start pitch len base stride rows cols w lines n : ℕ) → List Check
store_checks isSealed marks start pitch len base stride rows cols w lines n =
    marks_check marks start pitch rows cols w
    ∷ memory_check len base stride lines n
    ∷ overlap_check base stride lines n
    ∷ seal_check isSealed base stride lines n ∷ []
