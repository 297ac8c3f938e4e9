-- A refusal changes no byte of any buffer.
use Rattle.std.specs.Prelude.{Err}
use mathlib.Core.Path.{◌≡◌, refl, ap}
use mathlib.Core.Bool.{Bool, true, false, cond}
use mathlib.Core.List.{[], ◌∷◌}
use lib.ListN.{length}
use lib.Dec.{eqb}
use Rattle.machine.specs.declared.Refusal.TheVariants.{BadArguments}
use Rattle.machine.specs.Tests.{every}
use Rattle.machine.specs.Answers.{reply}
use Rattle.machine.specs.Geometry.{bench_of}
use Rattle.machine.specs.Setting.{chosen}
use Rattle.machine.specs.Step.{step}
use Rattle.run.specs.Start.{RunStart, start_run}
use Rattle.run.specs.Turn.{ask, AskOutcome, asked}
use Rattle.unit_ranges.specs.Ranges.{seals_in}
use Rattle.c_blocks.specs.Blocks.{machine_bytes, machine_of, packed}
use Rattle.c_run_blocks.specs.RunBlocks.{run_bytes, run_of, put_run, run_fit, put_handed}
use Rattle.c_run.specs.RunCalls.{HostRunStarted, run_started_out, shown_run_start, host_run_start, HostNext, next_out, shown_next, host_next}
use Rattle.c_run.specs.Theorems.{RunStartRefusalChangesNoByte, NextRefusalChangesNoByte}
use Rattle.c_blocks.proofs.BlockLaws.{packed-refused}
use Rattle.run.proofs.RefusalLaws.{start-zero, ask-zero}

pub run-start-refusal : RunStartRefusalChangesNoByte
unfolding host_run_start start_run
run-start-refusal P machine registers marks memory run = go (every (eqb (length machine) machine_bytes ∷ eqb (length run) run_bytes ∷ []))
  where
    s : RunStart
    s = start_run chosen P (bench_of (machine_of machine) (seals_in machine) registers marks memory)

    out : Bool → HostRunStarted
    out t = cond t (shown_run_start machine run s) (run_started_out (packed (reply (Err BadArguments))) machine registers marks memory run)

    go : (t : Bool) → ¬ ((out t).result ≡ 0) → out t ≡ run_started_out (out t).result machine registers marks memory run
    go true d = ap (λ (t : Bool). run_started_out (packed s.answer) machine registers marks memory (cond t (put_run s.run run) run)) (packed-refused s.answer (start-zero chosen P (bench_of (machine_of machine) (seals_in machine) registers marks memory)) d)
    go false d = refl

pub next-refusal : NextRefusalChangesNoByte
unfolding host_next
next-refusal run step = go (every (run_fit run ∷ eqb (length step) 24 ∷ []))
  where
    a : AskOutcome
    a = asked (ask chosen (run_of run))

    out : Bool → HostNext
    out t = cond t (shown_next run step a) (next_out (packed (reply (Err BadArguments))) run step)

    go : (t : Bool) → ¬ ((out t).result ≡ 0) → out t ≡ next_out (out t).result run step
    go true d =
        ap (λ (t : Bool). next_out (packed a.answer) (cond t (put_run a.run run) run) (cond t (put_handed a.handed step) step)) (packed-refused a.answer (ask-zero chosen (run_of run)) d)
    go false d = refl
