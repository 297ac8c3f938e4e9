-- `image_write::runs::tally_of` meets its contract. The invariant: the runs counted and those left are all, whatever the registers hold.
use Rattle.numbers.proofs.Kit.{◌≡◌, List, ℕ, ◌+◌, ◌-◌, ◌*◌, ◌≤◌, length}
use Rattle.image.specs.Cells.{cells_of, runs}
use Rattle.image.specs.Images.{runs_bytes}
use Rattle.image_write.proofs.FindLaws.{runs_at}
use Rattle.image_write.proofs.runs.tally_of.Given as goal

abbrev pub invariant-loop-at : goal.invariant-loop-at
invariant-loop-at l =
    (l.at ≤ length l.marks) × (l.runs ≤ l.at) × (l.bytes ≤ 21 * l.at)
    × ((registers : List ℕ) → length registers ≡ length l.marks
    → (l.runs + length (runs_at registers l.marks l.at) ≡ length (runs (cells_of registers l.marks)))
    × (l.bytes + length (runs_bytes (runs_at registers l.marks l.at)) ≡ length (runs_bytes (runs (cells_of registers l.marks)))))

abbrev pub decreases-loop-at : goal.decreases-loop-at
decreases-loop-at l = length l.marks - l.at
