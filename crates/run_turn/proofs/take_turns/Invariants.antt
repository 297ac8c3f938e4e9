use Rattle.numbers.proofs.Kit.{◌≡◌, ◌-◌, ◌≤◌, length}
use Rattle.machine.specs.Geometry.{bench_of}
use Rattle.unit_ranges.specs.Ranges.{seals_in}
use Rattle.run.specs.Turn.{running}
use Rattle.run_place.specs.Parts.{at_place}
use Rattle.run_turn.specs.Parts.{Taking}
use Rattle.run_turn.proofs.take_turns.Given as goal

-- every turn so far was answered 0, and neither the state nor the run is at fault
abbrev pub invariant-loop-count : goal.invariant-loop-count
invariant-loop-count l =
    (l.count ≤ l.limit) × (Taking (running (at_place l.run l.initial.place) (bench_of l.initial.machine (seals_in l.seals) l.initial.registers l.initial.marks l.initial.memory)) l.count (at_place l.run l.place) (bench_of l.machine (seals_in l.seals) l.registers l.marks l.memory))
    × (length l.registers ≡ length l.initial.registers) × (length l.marks ≡ length l.initial.marks) × (length l.memory ≡ length l.initial.memory)

abbrev pub decreases-loop-count : goal.decreases-loop-count
decreases-loop-count l = l.limit - l.count
