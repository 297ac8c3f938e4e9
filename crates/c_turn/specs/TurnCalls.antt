-- What the calls of C that take turns of a run, and that of a whole run, answer and leave (include/bodlarina.h).
use Rattle.std.specs.Prelude.{◌∷◌}
use Rattle.numbers.specs.Kit.{Bool, cond, List, [], ℕ, eqb, length, Err}
use Rattle.machine.specs.declared.Refusal.TheVariants.{BadArguments}
use Rattle.machine.specs.Tests.{every}
use Rattle.machine.specs.Answers.{reply, done}
use Rattle.machine.specs.Geometry.{bench_of}
use Rattle.machine.specs.Setting.{chosen}
use Rattle.run.specs.declared.Plan.{Plan}
use Rattle.run.specs.Turn.{Running, running, TurnOutcome, turn_outcome, TurnsOutcome, turns}
use Rattle.run.specs.Whole.{WholeOutcome, whole}
use Rattle.unit_ranges.specs.Ranges.{seals_in}
use Rattle.c_blocks.specs.Blocks.{machine_bytes, machine_of, put_machine, put_numbers, packed}
use Rattle.c_run_blocks.specs.RunBlocks.{run_of, put_run, run_fit}

-- ---- turns of a run

-- what a call of bodlarina_run_turn or bodlarina_run_turns returns and leaves
pub record HostTurned : Type 0 where
  pub result : ℕ
  pub run : List ℕ
  pub machine : List ℕ
  pub registers : List ℕ
  pub marks : List ℕ
  pub memory : List ℕ

abbrev pub turned_out : ℕ → (run machine registers marks memory : List ℕ) → HostTurned
turned_out result run machine registers marks memory = record {
  result = result;
  run = run;
  machine = machine;
  registers = registers;
  marks = marks;
  memory = memory;
}

-- a run and a machine as the host sees them: their numbers are written over the blocks
abbrev pub shown_running : ℕ → (run machine : List ℕ) → Running → HostTurned
shown_running result run machine r =
    turned_out result (put_run r.run run) (put_machine r.bench.machine machine) r.bench.registers r.bench.marks r.bench.memory

-- the run and the machine in these blocks
abbrev pub held_running : (run machine registers marks memory : List ℕ) → Running
held_running run machine registers marks memory = running (run_of run) (bench_of (machine_of machine) (seals_in machine) registers marks memory)

-- a run's block that fits and a machine's block
abbrev pub turn_blocks : (run machine : List ℕ) → Bool
turn_blocks run machine = every (run_fit run ∷ eqb (length machine) machine_bytes ∷ [])

abbrev pub shown_turn : (run machine : List ℕ) → TurnOutcome → HostTurned
shown_turn run machine o = shown_running (packed o.answer) run machine o.after

unfoldable pub host_turn : (run machine registers marks memory : List ℕ) → HostTurned
host_turn run machine registers marks memory =
    cond (turn_blocks run machine)
    (shown_turn run machine (turn_outcome chosen (held_running run machine registers marks memory)))
    (turned_out (packed (reply (Err BadArguments))) run machine registers marks memory)

-- turns are counted, not answered: blocks that are refused take none
abbrev pub shown_turns : (run machine : List ℕ) → TurnsOutcome → HostTurned
shown_turns run machine o = shown_running o.count run machine o.after

unfoldable pub host_turns : ℕ → (run machine registers marks memory : List ℕ) → HostTurned
host_turns limit run machine registers marks memory =
    cond (turn_blocks run machine)
    (shown_turns run machine (turns chosen (held_running run machine registers marks memory) limit))
    (turned_out 0 run machine registers marks memory)

-- ---- a whole run

-- eight bytes for the number of turns answered 0
abbrev pub count_bytes : ℕ
count_bytes = 8

-- what a call of bodlarina_run returns and leaves
pub record HostRan : Type 0 where
  pub result : ℕ
  pub machine : List ℕ
  pub registers : List ℕ
  pub marks : List ℕ
  pub memory : List ℕ
  pub steps : List ℕ

abbrev pub ran_out : ℕ → (machine registers marks memory steps : List ℕ) → HostRan
ran_out result machine registers marks memory steps = record {
  result = result;
  machine = machine;
  registers = registers;
  marks = marks;
  memory = memory;
  steps = steps;
}

-- a whole run as the host sees it; a refused one leaves both blocks
abbrev pub shown_run : (machine steps : List ℕ) → WholeOutcome → HostRan
shown_run machine steps o =
    ran_out (packed o.answer) (cond (done o.answer) (put_machine o.bench.machine machine) machine)
    o.bench.registers o.bench.marks o.bench.memory
    (cond (done o.answer) (put_numbers (o.count ∷ []) steps) steps)

unfoldable pub host_run : Plan → (machine registers marks memory steps : List ℕ) → HostRan
host_run P machine registers marks memory steps =
    cond (every (eqb (length machine) machine_bytes ∷ eqb (length steps) count_bytes ∷ []))
    (shown_run machine steps (whole chosen P (bench_of (machine_of machine) (seals_in machine) registers marks memory)))
    (ran_out (packed (reply (Err BadArguments))) machine registers marks memory steps)
