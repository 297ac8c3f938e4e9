use Rattle.numbers.proofs.Kit.{◌≡◌, true, List, ◌*◌, length}
use Rattle.machine.specs.Geometry.{Range, bench_of}
use Rattle.machine.specs.Faults.{seals_fit}
use Rattle.machine.specs.Setting.{chosen}
use Rattle.run.specs.declared.Place.TheVariants.{AtK}
use Rattle.run.specs.Turn.{run_shape, running}
use Rattle.run_place.specs.Parts.{at_place}
use Rattle.run_carry.specs.Parts.{Steady}
use Rattle.run_turn.specs.Parts.{Taking}
use Rattle.run_turn.proofs.take_sums.Given as goal

-- every turn so far was answered 0, and the multiplies to come ask only for their sources
abbrev pub invariant-loop-step : goal.invariant-loop-step
invariant-loop-step l =
    ((seals : List Range) → seals_fit seals ≡ true → Taking (running (at_place l.run (AtK l.row l.column l.from)) (bench_of l.initial.machine seals l.initial.registers l.initial.marks l.memory)) (4 * l.step) (at_place l.run (AtK l.row l.column l.term)) (bench_of l.machine seals l.registers l.marks l.memory))
    × (Steady l.run.plan l.machine l.marks) × (l.terms ≡ (run_shape chosen l.run).tk) × (length l.registers ≡ length l.initial.registers) × (length l.marks ≡ length l.initial.marks)
