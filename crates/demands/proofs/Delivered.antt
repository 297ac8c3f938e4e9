-- What a call of bodlarina_run delivers.
use Rattle.numbers.proofs.Kit.{◌≡◌, refl, sym, ap, ◌∙◌, subst, Bool, true, false, cond, ◌&&◌, List, [], ◌∷◌, ℕ, ◌<◌, le_refl, eqb, length, replicate}
use Rattle.numbers.proofs.Kit.{length-replicate, eqb-true, eqb-false, ne_eqb, Err}
use Rattle.machine.specs.declared.Refusal.TheVariants.{BadArguments}
use Rattle.machine.specs.Tests.{every}
use Rattle.machine.specs.Answers.{reply}
use Rattle.machine.specs.Setting.{chosen}
use Rattle.machine.specs.Operation.{element}
use Rattle.run.specs.declared.Plan.{Plan}
use Rattle.run.specs.Words.{steps}
use Rattle.run.specs.Plan.{OutsideKept, shape, wide, c_at, product_of}
use Rattle.run.specs.Statement.{MemoryBytes}
use Rattle.run.specs.Whole.{whole}
use Rattle.c_blocks.specs.Blocks.{Bytes, machine_bytes, packed}
use Rattle.c_run_blocks.specs.RunBlocks.{run_bytes}
use Rattle.c_turn.specs.TurnCalls.{count_bytes, HostRan, ran_out, shown_run, host_run}
use Rattle.c_turn.proofs.Refusal.{run-refusal}
use Rattle.theorem_calls.specs.Calls.{Buffers, buffers, Call, Called, after_run, called}
use Rattle.theorem_calls.specs.Composed.{bench_in, PlanWords, job_in, after_turn_calls, counting}
use Rattle.theorem_calls.proofs.Runs.{start-calls-are-right, turn-calls-are-right, run-is-turn-calls}
use Rattle.demands.specs.Demand3.{RunCallDelivers, RunCallsDeliver}

-- the buffers with another run's block
abbrev with_run : List ℕ → Buffers → Buffers
with_run run b = buffers b.machine b.registers b.marks b.scalars b.memory run b.step b.steps b.file

module _ (P : Plan) (b : Buffers) (p : PlanWords P) (small : Bytes b.machine) (mem : MemoryBytes b.memory)
    (lr : length b.run ≡ run_bytes) (lc : length b.steps ≡ count_bytes) where
  abbrev o : Called
  o = called (Call.run P) b

  abbrev s : ℕ
  s = steps (shape (job_in P b))

  same : o.result ≡ (called (Call.run_start P) b).result
  same = (run-is-turn-calls P b p small mem lr lc).0

  after_is : o.result ≡ 0 → o.after ≡ counting s (after_turn_calls P b s) b
  after_is = (run-is-turn-calls P b p small mem lr lc).1

  refused : ¬ (o.result ≡ 0) → o.after ≡ b
  refused h = ap (λ (x : HostRan). (after_run b x).after) (run-refusal P b.machine b.registers b.marks b.memory b.steps h)

  kept : OutsideKept (job_in P b) o.after.memory
  kept = go (eqb o.result 0) refl
    where
      go : (t : Bool) → eqb o.result 0 ≡ t → OutsideKept (job_in P b) o.after.memory
      go true e =
          let z = eqb-true o.result 0 e in
          subst (OutsideKept (job_in P b)) (sym (ap (λ (a : Buffers). a.memory) (after_is z))) (turn-calls-are-right P b p small mem (sym same ∙ z) s).kept
      go false e = subst (OutsideKept (job_in P b)) (sym (ap (λ (a : Buffers). a.memory) (refused (eqb-false o.result 0 e)))) (record { same_length = refl; outside = λ q h. refl })

  delivers : RunCallDelivers P b o
  delivers =
      let a = ((start-calls-are-right P b mem).0 lr).answered in
      record {
        answered = (a.0, same ∙ a.1, a.2);
        refused = refused;
        counted = λ z. ap (λ (x : Buffers). x.steps) (after_is z);
        product = λ z i j l m.
            ap (λ (x : Buffers). element x.memory (c_at P) (wide P) i j) (after_is z)
            ∙ (turn-calls-are-right P b p small mem (sym same ∙ z) s).product (le_refl s) i j l m;
        kept = kept;
      }

-- the run's block is not lent to it: whatever it is, the call is that with a block of the right length
whatever-run : (P : Plan) (b : Buffers) → RunCallDelivers P (with_run (replicate run_bytes 0) b) (called (Call.run P) (with_run (replicate run_bytes 0) b)) → RunCallDelivers P b (called (Call.run P) b)
whatever-run P b d = record {
  answered = d.answered;
  refused = λ h. ap (λ (x : HostRan). (after_run b x).after) (run-refusal P b.machine b.registers b.marks b.memory b.steps h);
  counted = d.counted;
  product = d.product;
  kept = d.kept;
}

-- a count's block of another length
other-count : (P : Plan) (b : Buffers) → eqb (length b.steps) count_bytes ≡ false → called (Call.run P) b ≡ record { result = 8; after = b }
unfolding host_run
other-count P b e =
    ap (λ (t : Bool). after_run b (cond t (shown_run b.machine b.steps (whole chosen P (bench_in b))) (ran_out (packed (reply (Err BadArguments))) b.machine b.registers b.marks b.memory b.steps)))
    (go (eqb (length b.machine) machine_bytes) (eqb (length b.steps) count_bytes) e)
  where
    go : (t u : Bool) → u ≡ false → every (t ∷ u ∷ []) ≡ false
    go true u e = ap (λ (x : Bool). x && true) e
    go false u e = refl

pub run-calls-deliver : RunCallsDeliver
run-calls-deliver P b p small mem =
    (λ lc. whatever-run P b (delivers P (with_run (replicate run_bytes 0) b) p small mem (length-replicate {A = ℕ} run_bytes 0) lc), λ n. other-count P b (ne_eqb (length b.steps) count_bytes n))
