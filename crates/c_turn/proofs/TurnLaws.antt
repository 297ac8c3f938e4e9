-- What each return of these functions has to show.
use Rattle.numbers.proofs.Kit.{◌≡◌, refl, sym, ap, ap₂, ◌∙◌, subst, Bool, true, false, cond, List, [], ◌∷◌, Option, none, some, ℕ, length, eq-eqb}
use Rattle.machine.specs.declared.Machine.{Machine}
use Rattle.machine.specs.Answers.{done}
use Rattle.machine.specs.Geometry.{bench_of}
use Rattle.machine.specs.Setting.{chosen}
use Rattle.machine.specs.Step.{step_by}
use Rattle.run.specs.declared.Plan.{Plan}
use Rattle.run.specs.declared.Run.{Run}
use Rattle.run.specs.declared.Handed.{Handed}
use Rattle.run.specs.declared.Taken.{Taken}
use Rattle.run.specs.Words.{Op}
use Rattle.run.specs.Encoding.{own, handed_for}
use Rattle.run.specs.Turn.{word_handed_out, moved, Running, running, turn, TurnOutcome, turn_outcome, turns, taken_as}
use Rattle.run.proofs.HandedLaws.{turn_with}
use Rattle.run.specs.Whole.{WholeOutcome, whole}
use Rattle.unit_ranges.specs.Ranges.{seals_in}
use Rattle.c_blocks.specs.Blocks.{machine_bytes, machine_of, put_machine, SameMachine, put_numbers, packed, Bytes}
use Rattle.c_blocks.proofs.BlockLaws.{step_kept, put_machine-same}
use Rattle.c_run_blocks.specs.RunBlocks.{run_fit, run_of, put_run, RunKept}
use Rattle.c_run_blocks.proofs.RunBlockLaws.{put_run-same}
use Rattle.c_turn.specs.TurnCalls.{turn_blocks, held_running, turned_out, shown_turn, host_turn, shown_turns, host_turns, ran_out, shown_run, host_run}

-- ---- turns

module _ (run machine : List ℕ) where
  pub blocks-fit : run_fit run ≡ true → length machine ≡ machine_bytes → turn_blocks run machine ≡ true
  blocks-fit h k = rw (h, eq-eqb (length machine) machine_bytes k)

-- a turn keeps all of a run but its place, and of the machine all that no step changes
turn-kept : (r : Running) → SameMachine (turn chosen r).after.bench.machine r.bench.machine × RunKept (turn chosen r).after.run r.run
turn-kept r = go (word_handed_out chosen r.run)
  where
    stays : (R : Run) → RunKept R R
    stays R = record { plan = refl; rlen = refl; mlen = refl; rule = refl; elen = refl }

    goes : (t : Bool) → RunKept (cond t (moved chosen r.run) r.run) r.run
    goes true = record { plan = refl; rlen = refl; mlen = refl; rule = refl; elen = refl }
    goes false = stays r.run

    go : (o : Option Op) → SameMachine (turn_with chosen r o).after.bench.machine r.bench.machine × RunKept (turn_with chosen r o).after.run r.run
    go none = (record { rlen = refl; mlen = refl; rule = refl; elen = refl }, stays r.run)
    go (some o) =
        let h : Handed = handed_for r.run.plan o in
        (step_kept chosen h.word (own h) r.bench, goes (done (step_by chosen h.word (own h) r.bench).answer))

module _ (run machine registers marks memory : List ℕ) where
  -- the run and the machine that were read of the blocks
  held : (R : Run) (m : Machine) → R ≡ run_of run → m ≡ machine_of machine
      → running R (bench_of m (seals_in machine) registers marks memory) ≡ held_running run machine registers marks memory
  held R m eR em = ap₂ (λ (R : Run) (m : Machine). running R (bench_of m (seals_in machine) registers marks memory)) eR em

  turn_is : turn_blocks run machine ≡ true
      → shown_turn run machine (turn_outcome chosen (held_running run machine registers marks memory)) ≡ host_turn run machine registers marks memory
  unfolding host_turn
  turn_is h = rw h

  -- the numbers that the turn has left are written over the blocks
  pub turn-shown : (R : Run) (m : Machine) (o : TurnOutcome) (N M : List ℕ) (r : ℕ) → turn_blocks run machine ≡ true
      → R ≡ run_of run → m ≡ machine_of machine → o ≡ turn_outcome chosen (running R (bench_of m (seals_in machine) registers marks memory))
      → N ≡ put_run o.after.run run → M ≡ put_machine o.after.bench.machine machine → r ≡ packed o.answer
      → turned_out r N M o.after.bench.registers o.after.bench.marks o.after.bench.memory ≡ host_turn run machine registers marks memory
  turn-shown R m o N M r h eR em e en ex er =
      rw (er, en, ex) (ap (shown_turn run machine) (e ∙ ap (turn_outcome chosen) (held R m eR em)) ∙ turn_is h)

  -- a run and a machine that stay lie in the blocks as they are
  pub run-stays : (R : Run) → Bytes run → run_fit run ≡ true → R ≡ run_of run → run ≡ put_run R run
  run-stays R small fit e = sym (ap (λ (R : Run). put_run R run) e ∙ put_run-same run small fit)

  pub machine-stays : (m : Machine) → Bytes machine → m ≡ machine_of machine → machine ≡ put_machine m machine
  machine-stays m small e = sym (ap (λ (m : Machine). put_machine m machine) e ∙ put_machine-same machine small)

  -- and but for the place, mtype and the sizes they are those of the blocks
  pub turn-keeps : (R : Run) (m : Machine) (o : TurnOutcome) → R ≡ run_of run → m ≡ machine_of machine
      → o ≡ turn_outcome chosen (running R (bench_of m (seals_in machine) registers marks memory)) → SameMachine o.after.bench.machine (machine_of machine) × RunKept o.after.run (run_of run)
  turn-keeps R m o eR em e =
      subst (λ (r : Running). SameMachine r.bench.machine (machine_of machine) × RunKept r.run (run_of run)) (sym (ap (λ (o : TurnOutcome). o.after) (e ∙ ap (turn_outcome chosen) (held R m eR em))))
      (turn-kept (held_running run machine registers marks memory))

  module _ (limit : ℕ) where
    turns-is : turn_blocks run machine ≡ true
        → shown_turns run machine (turns chosen (held_running run machine registers marks memory) limit) ≡ host_turns limit run machine registers marks memory
    unfolding host_turns
    turns-is h = rw h

    pub turns-shown : (R : Run) (m : Machine) (s : Taken) (N M G K Q : List ℕ) → turn_blocks run machine ≡ true
        → R ≡ run_of run → m ≡ machine_of machine → taken_as s (seals_in machine) G K Q ≡ turns chosen (running R (bench_of m (seals_in machine) registers marks memory)) limit
        → N ≡ put_run s.run run → M ≡ put_machine s.machine machine
        → turned_out s.count N M G K Q ≡ host_turns limit run machine registers marks memory
    turns-shown R m s N M G K Q h eR em e en ex =
        rw (en, ex) (ap (shown_turns run machine) (e ∙ ap (λ (r : Running). turns chosen r limit) (held R m eR em)) ∙ turns-is h)

-- ---- a whole run

module _ (P : Plan) (machine registers marks memory steps : List ℕ) where
  run_is : length machine ≡ machine_bytes → length steps ≡ 8
      → shown_run machine steps (whole chosen P (bench_of (machine_of machine) (seals_in machine) registers marks memory)) ≡ host_run P machine registers marks memory steps
  unfolding host_run
  run_is h k = rw (eq-eqb (length machine) machine_bytes h, eq-eqb (length steps) 8 k)

  -- what the run has answered and left, and the blocks written exactly where it is done
  pub run-shown : (t : Bool) (m : Machine) (o : WholeOutcome) (M S : List ℕ) (r : ℕ) → length machine ≡ machine_bytes → length steps ≡ 8
      → m ≡ machine_of machine → o ≡ whole chosen P (bench_of m (seals_in machine) registers marks memory)
      → done o.answer ≡ t → M ≡ cond t (put_machine o.bench.machine machine) machine → S ≡ cond t (put_numbers (o.count ∷ []) steps) steps
      → r ≡ packed o.answer → ran_out r M o.bench.registers o.bench.marks o.bench.memory S ≡ host_run P machine registers marks memory steps
  run-shown t m o M S r h k em e et ex es er =
      rw (er, ex, es, sym et)
      (ap (shown_run machine steps) (e ∙ ap (λ (m : Machine). whole chosen P (bench_of m (seals_in machine) registers marks memory)) em) ∙ run_is h k)
