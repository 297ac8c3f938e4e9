-- What the calls of C that start a run, ask it for a step and count its steps answer and leave (include/bodlarina.h).
use Rattle.std.specs.Prelude.{Err, cond, List, [], ◌∷◌, ℕ, length, eqb}
use Rattle.machine.specs.declared.Refusal.TheVariants.{BadArguments}
use Rattle.machine.specs.Tests.{every}
use Rattle.machine.specs.Answers.{reply, done}
use Rattle.machine.specs.Geometry.{bench_of}
use Rattle.machine.specs.Setting.{chosen}
use Rattle.run.specs.declared.Plan.{Plan}
use Rattle.run.specs.Start.{RunStart, start_run}
use Rattle.run.specs.Turn.{steps_in, ask, AskOutcome, asked}
use Rattle.unit_ranges.specs.Ranges.{seals_in}
use Rattle.c_blocks.specs.Blocks.{machine_bytes, machine_of, packed}
use Rattle.c_run_blocks.specs.RunBlocks.{run_bytes, run_of, put_run, run_fit, step_bytes, put_handed}

-- ---- starting a run

-- what a call of bodlarina_run_start returns and leaves
pub record HostRunStarted : Type 0 where
  pub result : ℕ
  pub machine : List ℕ
  pub registers : List ℕ
  pub marks : List ℕ
  pub memory : List ℕ
  pub run : List ℕ

abbrev pub run_started_out : ℕ → (machine registers marks memory run : List ℕ) → HostRunStarted
run_started_out result machine registers marks memory run = record {
  result = result;
  machine = machine;
  registers = registers;
  marks = marks;
  memory = memory;
  run = run;
}

-- a start as the host sees it; a refused one leaves the run's block
abbrev pub shown_run_start : (machine run : List ℕ) → RunStart → HostRunStarted
shown_run_start machine run s =
    run_started_out (packed s.answer) machine s.bench.registers s.bench.marks s.bench.memory
    (cond (done s.answer) (put_run s.run run) run)

unfoldable pub host_run_start : Plan → (machine registers marks memory run : List ℕ) → HostRunStarted
host_run_start P machine registers marks memory run =
    cond (every (eqb (length machine) machine_bytes ∷ eqb (length run) run_bytes ∷ []))
    (shown_run_start machine run (start_run chosen P (bench_of (machine_of machine) (seals_in machine) registers marks memory)))
    (run_started_out (packed (reply (Err BadArguments))) machine registers marks memory run)

-- ---- asking a run for its next step

-- what a call of bodlarina_run_next returns and leaves
pub record HostNext : Type 0 where
  pub result : ℕ
  pub run : List ℕ
  pub step : List ℕ

abbrev pub next_out : ℕ → (run step : List ℕ) → HostNext
next_out result run step = record { result = result; run = run; step = step }

-- an answer as the host sees it; both blocks stay where no step is handed out
abbrev pub shown_next : (run step : List ℕ) → AskOutcome → HostNext
shown_next run step a =
    next_out (packed a.answer) (cond (done a.answer) (put_run a.run run) run) (cond (done a.answer) (put_handed a.handed step) step)

unfoldable pub host_next : (run step : List ℕ) → HostNext
host_next run step =
    cond (every (run_fit run ∷ eqb (length step) step_bytes ∷ []))
    (shown_next run step (asked (ask chosen (run_of run))))
    (next_out (packed (reply (Err BadArguments))) run step)

-- ---- the number of a run's steps

-- what a call of bodlarina_run_steps returns: the steps of the run in this block, wherever it has come to; 0 for a block that is refused
unfoldable pub host_run_steps : (run : List ℕ) → ℕ
host_run_steps run = cond (run_fit run) (steps_in chosen (run_of run)) 0
