-- `image_write::runs::put_runs` meets its contract. The invariant: the runs that are left make of the room what all make.
use Rattle.numbers.proofs.Kit.{◌≡◌, ◌+◌, ◌-◌, ◌≤◌, length, sets}
use Rattle.image.specs.Cells.{cells_of, runs}
use Rattle.image.specs.Images.{runs_bytes}
use Rattle.image_write.proofs.FindLaws.{runs_at}
use Rattle.image_write.proofs.runs.put_runs.Given as goal

abbrev pub invariant-loop-at : goal.invariant-loop-at
invariant-loop-at l =
    (l.at ≤ length l.marks) × (length l.room ≡ length l.initial.room)
    × (l.to + length (runs_bytes (runs_at l.registers l.marks l.at)) ≡ l.start + length (runs_bytes (runs (cells_of l.registers l.marks))))
    × (sets l.room l.to (runs_bytes (runs_at l.registers l.marks l.at)) ≡ sets l.initial.room l.start (runs_bytes (runs (cells_of l.registers l.marks))))

abbrev pub decreases-loop-at : goal.decreases-loop-at
decreases-loop-at l = length l.marks - l.at
