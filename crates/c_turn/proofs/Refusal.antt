-- A refusal changes no byte of any buffer.
use Rattle.numbers.proofs.Kit.{◌≡◌, refl, ap, ap₂, ◌∙◌, Bool, true, false, cond, List, [], ◌∷◌, ℕ, zero, suc, arith, eqb, length, Err}
use Rattle.machine.specs.declared.Refusal.TheVariants.{BadArguments}
use Rattle.machine.specs.Tests.{every}
use Rattle.machine.specs.Answers.{reply, done}
use Rattle.machine.specs.Geometry.{Bench, bench_of}
use Rattle.machine.specs.Setting.{chosen}
use Rattle.machine.proofs.TestLaws.{and_left}
use Rattle.run.specs.Start.{start_run}
use Rattle.run.specs.Turn.{Running, turn, after_turns, answered_done, turn_outcome, turns}
use Rattle.run.specs.Whole.{whole}
use Rattle.run.proofs.RefusalLaws.{turn-refused}
use Rattle.run_turn.proofs.TurnLaws.{turn-zero}
use Rattle.run_whole.proofs.WholeLaws.{whole-refused}
use Rattle.unit_ranges.specs.Ranges.{seals_in}
use Rattle.c_blocks.specs.Blocks.{machine_bytes, machine_of, put_machine, put_numbers, packed}
use Rattle.c_run_blocks.specs.RunBlocks.{run_fit}
use Rattle.c_turn.specs.TurnCalls.{HostTurned, turned_out, shown_running, held_running, turn_blocks, shown_turn, host_turn, shown_turns, host_turns, HostRan, ran_out, shown_run, host_run}
use Rattle.c_turn.specs.Theorems.{TurnRefusalChangesNoByte, NoTurnChangesNoByte, RunRefusalChangesNoByte}
use Rattle.c_blocks.proofs.BlockLaws.{put_machine-same}
use Rattle.c_run_blocks.proofs.RunBlockLaws.{put_run-same}
use Rattle.c_blocks.specs.Blocks.{Bytes}
use Rattle.c_blocks.proofs.BlockLaws.{packed-refused}
use Rattle.run.proofs.RefusalLaws.{start-zero}

-- a run and a machine that stay are written over the bytes they were read of
module _ (run machine registers marks memory : List ℕ) (small : Bytes run) (small' : Bytes machine) where
  shown-same : (result : ℕ) (r : Running) → turn_blocks run machine ≡ true → r ≡ held_running run machine registers marks memory
      → shown_running result run machine r ≡ turned_out result run machine registers marks memory
  shown-same result r h e =
      ap (shown_running result run machine) e
      ∙ ap₂ (λ (x y : List ℕ). turned_out result x y registers marks memory)
      (put_run-same run small (and_left (run_fit run) (every (eqb (length machine) machine_bytes ∷ [])) h)) (put_machine-same machine small')

pub turn-refusal : TurnRefusalChangesNoByte
unfolding host_turn
turn-refusal run machine registers marks memory small small' = go (turn_blocks run machine) refl
  where
    r : Running
    r = held_running run machine registers marks memory

    out : Bool → HostTurned
    out t = cond t (shown_turn run machine (turn_outcome chosen r)) (turned_out (packed (reply (Err BadArguments))) run machine registers marks memory)

    go : (t : Bool) → turn_blocks run machine ≡ t → ¬ ((out t).result ≡ 0) → out t ≡ turned_out (out t).result run machine registers marks memory
    go true h d =
        shown-same run machine registers marks memory small small' (packed (turn chosen r).answer) (turn chosen r).after h
        (turn-refused chosen r (packed-refused (turn chosen r).answer (turn-zero r) d))
    go false h d = refl

-- turns of which none is answered 0 leave everything
none_stays : (r : Running) (n : ℕ) → answered_done chosen r n ≡ 0 → after_turns chosen r n ≡ r
none_stays r zero h = refl
none_stays r (suc n) h =
    let s = after_turns chosen r n in
    let e : s ≡ r = none_stays r n (omega arith) in
    turn-refused chosen s (go (done (turn chosen s).answer) (omega arith)) ∙ e
  where
    go : (t : Bool) → ◌≡◌ {A = ℕ} (cond t 1 0) 0 → t ≡ false
    go true h = absurd (omega arith)
    go false h = refl

pub no-turn : NoTurnChangesNoByte
unfolding host_turns
no-turn limit run machine registers marks memory small small' = go (turn_blocks run machine) refl
  where
    r : Running
    r = held_running run machine registers marks memory

    out : Bool → HostTurned
    out t = cond t (shown_turns run machine (turns chosen r limit)) (turned_out 0 run machine registers marks memory)

    go : (t : Bool) → turn_blocks run machine ≡ t → (out t).result ≡ 0 → out t ≡ turned_out 0 run machine registers marks memory
    go true h d =
        ap (λ (n : ℕ). shown_running n run machine (after_turns chosen r limit)) d
        ∙ shown-same run machine registers marks memory small small' 0 (after_turns chosen r limit) h (none_stays r limit d)
    go false h d = refl

pub run-refusal : RunRefusalChangesNoByte
unfolding host_run
run-refusal P machine registers marks memory steps = go (every (eqb (length machine) machine_bytes ∷ eqb (length steps) 8 ∷ []))
  where
    B : Bench
    B = bench_of (machine_of machine) (seals_in machine) registers marks memory

    out : Bool → HostRan
    out t = cond t (shown_run machine steps (whole chosen P B)) (ran_out (packed (reply (Err BadArguments))) machine registers marks memory steps)

    go : (t : Bool) → ¬ ((out t).result ≡ 0) → out t ≡ ran_out (out t).result machine registers marks memory steps
    go true d =
        let h = packed-refused (start_run chosen P B).answer (start-zero chosen P B) d in
        ap (shown_run machine steps) (whole-refused P B h)
        ∙ ap (λ (t : Bool). ran_out (packed (start_run chosen P B).answer) (cond t (put_machine (machine_of machine) machine) machine) registers marks memory
        (cond t (put_numbers (0 ∷ []) steps) steps)) h
    go false d = refl
