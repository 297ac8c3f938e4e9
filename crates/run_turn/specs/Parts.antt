-- What the contracts of inner functions name; a reader of the demand need not read it.
use Rattle.std.specs.Prelude.{◌≡◌}
use Rattle.numbers.specs.Kit.{true, List, ℕ, Result, Ok, Err}
use Rattle.machine.specs.declared.Machine.{Machine}
use Rattle.machine.specs.declared.Refusal.{Refusal}
use Rattle.machine.specs.Answers.{done}
use Rattle.machine.specs.Geometry.{Range, Bench, bench_of}
use Rattle.machine.specs.Setting.{chosen}
use Rattle.machine.specs.Faults.{sound_bench, seals_fit}
use Rattle.run.specs.declared.Plan.{Plan}
use Rattle.run.specs.declared.Place.{Place}
use Rattle.run.specs.declared.Place.TheVariants.{AtMultiply}
use Rattle.run.specs.declared.Run.{Run}
use Rattle.run_place.specs.Parts.{at_place}
use Rattle.run_turn.specs.declared.Moved.{Moved}
use Rattle.run.specs.Words.{multiply}
use Rattle.run.specs.Turn.{sound_run, Running, running, TurnOutcome, turned_as, turns}
use Rattle.run_carry.specs.Parts.{carried_for, Multiplies, Steady}

-- n turns from r on were answered 0 and left this run and this state, of which neither is at fault
pub record Taking (r : Running) (n : ℕ) (R : Run) (B : Bench) : Type 0 where
  pub taken : record { count = n; after = running R B } ≡ turns chosen r n
  pub run_sound : sound_run chosen R ≡ true
  pub bench-sound : sound_bench B ≡ true

-- the multiply of a step over k is next, and it is not refused
pub record Loaded (P : Plan) (row column term : ℕ) (p : Place) (m : Machine) (regs marks mem : List ℕ) : Type 0 where
  pub place_is : p ≡ AtMultiply row column term
  pub steady : Steady P m marks
  pub multiplies : Multiplies P m regs
  pub answered : (seals : List Range) → seals_fit seals ≡ true → done (carried_for P multiply (bench_of m seals regs marks mem)).answer ≡ true

-- what a turn of run R and machine m answers and leaves, of which code keeps the place alone
abbrev pub moved_as : Run → Machine → Result Moved Refusal → List Range → (registers marks memory : List ℕ) → TurnOutcome
moved_as R m (Ok t) = turned_as R m (Ok (record { run = at_place R t.place; machine = t.machine }))
moved_as R m (Err r) = turned_as R m (Err r)
