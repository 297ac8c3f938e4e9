-- What each return of these functions has to show.
use mathlib.Core.Path.{◌≡◌, sym, ap, ◌∙◌}
use mathlib.Core.Bool.{Bool, true, cond}
use mathlib.Core.List.{List}
use Prim.Native.Nat.{ℕ}
use lib.ListN.{length}
use borrow.Author.Tests.{eq-eqb}
use Rattle.machine.specs.declared.Machine.{Machine}
use Rattle.machine.specs.Answers.{reply, done, is_done}
use Rattle.machine.specs.Geometry.{bench_of}
use Rattle.machine.specs.Setting.{chosen}
use Rattle.run.specs.declared.Plan.{Plan}
use Rattle.run.specs.declared.Run.{Run}
use Rattle.run.specs.Start.{RunStarted}
use Rattle.run.specs.Start.{start_run, run_started_as}
use Rattle.run.specs.Turn.{ask, AskOutcome, asked}
use Rattle.unit_ranges.specs.Ranges.{seals_in}
use Rattle.c_blocks.specs.Blocks.{machine_bytes, machine_of, packed}
use Rattle.c_run_blocks.specs.RunBlocks.{run_bytes, run_fit, run_of, put_run, put_handed}
use Rattle.c_run.specs.RunCalls.{run_started_out, shown_run_start, host_run_start, next_out, shown_next, host_next}

-- ---- starting a run

module _ (P : Plan) (machine registers marks memory run : List ℕ) where
  run-start-is : length machine ≡ machine_bytes → length run ≡ run_bytes
      → shown_run_start machine run (start_run chosen P (bench_of (machine_of machine) (seals_in machine) registers marks memory)) ≡ host_run_start P machine registers marks memory run
  unfolding host_run_start
  run-start-is h k = rw (eq-eqb (length machine) machine_bytes h, eq-eqb (length run) run_bytes k)

  -- what the start has answered, and the block written exactly where it is done
  pub run-start-shown : (t : Bool) (m : Machine) (s : RunStarted) (N : List ℕ) (r : ℕ) → length machine ≡ machine_bytes → length run ≡ run_bytes
      → m ≡ machine_of machine → run_started_as s (bench_of m (seals_in machine) registers marks memory) ≡ start_run chosen P (bench_of m (seals_in machine) registers marks memory)
      → is_done s.answer ≡ t → N ≡ cond t (put_run s.run run) run → r ≡ packed (reply s.answer)
      → run_started_out r machine registers marks memory N ≡ host_run_start P machine registers marks memory run
  run-start-shown t m s N r h k em e et en er =
      rw (er, en, sym et)
      (ap (shown_run_start machine run) (e ∙ ap (λ (m : Machine). start_run chosen P (bench_of m (seals_in machine) registers marks memory)) em) ∙ run-start-is h k)

-- ---- asking for a step

module _ (run step : List ℕ) where
  fits : run_fit run ≡ true → length step ≡ 24 → shown_next run step (asked (ask chosen (run_of run))) ≡ host_next run step
  unfolding host_next
  fits h k = rw (h, eq-eqb (length step) 24 k)

  -- what was answered, and the blocks written exactly where a step is handed out
  pub next-shown : (t : Bool) (R : Run) (a : AskOutcome) (N S : List ℕ) (r : ℕ) → run_fit run ≡ true → length step ≡ 24
      → R ≡ run_of run → a ≡ asked (ask chosen R) → done a.answer ≡ t
      → N ≡ cond t (put_run a.run run) run → S ≡ cond t (put_handed a.handed step) step → r ≡ packed a.answer
      → next_out r N S ≡ host_next run step
  next-shown t R a N S r h k eR e et en es er =
      rw (er, en, es, sym et)
      (ap (shown_next run step) (e ∙ ap (λ (R : Run). asked (ask chosen R)) eR) ∙ fits h k)
