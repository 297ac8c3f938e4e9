-- Demand 3 over calls: bodlarina_run_start, bodlarina_run_turn and bodlarina_run_next; and bodlarina_run as such calls.
use Rattle.numbers.proofs.Kit.{◌≡◌, refl, sym, ap, ap₂, ◌∙◌, subst, Bool, true, false, cond, false≢true, List, [], ◌∷◌, Option, none, some, ℕ, suc, arith}
use Rattle.numbers.proofs.Kit.{eqb, length, eqb-true, eq-eqb, ne_eqb, Err}
use Rattle.machine.specs.declared.Refusal.TheVariants.{OutsideMemory, BadArguments, Overlap}
use Rattle.machine.specs.Tests.{every}
use Rattle.machine.specs.declared.Reply.{Reply}
use Rattle.machine.specs.Answers.{reply, number, done, verdict, ◌otherwise◌, Answer, Done}
use Rattle.machine.specs.Geometry.{sealed, Bench}
use Rattle.machine.specs.Setting.{chosen}
use Rattle.machine.specs.Faults.{sound_bench}
use Rattle.machine.specs.Operation.{element}
use Rattle.machine.proofs.TestLaws.{every-each, each-every}
use Rattle.run.specs.declared.Plan.{Plan}
use Rattle.run.specs.declared.Run.{Run}
use Rattle.run.specs.declared.Handed.{Handed}
use Rattle.run.specs.Words.{Op, steps}
use Rattle.run.specs.Plan.{OutsideKept, shape, wide, c_at}
use Rattle.run.specs.Start.{planned, lying, separate, fresh_run, no_run, RunStart, start_run}
use Rattle.run.specs.Encoding.{handed_for, word_of}
use Rattle.run.specs.Turn.{word_handed_out, steps_in, Ask, ask, asked, Running, running, turn, after_turns}
use Rattle.run.specs.Statement.{Numbers, Asks, Right, started_run}
use Rattle.run.specs.Whole.{WholeOutcome, whole}
use Rattle.run.proofs.HandedLaws.{ask_with, turn_with}
use Rattle.run.proofs.RefusalLaws.{number-done, start-zero, ask-zero}
use Rattle.run.proofs.Demand1.{run-start-changes-nothing}
use Rattle.run.proofs.Demand3.{demand-3-ours}
use Rattle.run.proofs.Whole.{whole-delivers}
use Rattle.run_turn.proofs.TurnLaws.{turn-zero}
use Rattle.c_blocks.specs.Blocks.{Bytes, machine_bytes, put_machine, put_numbers, packed}
use Rattle.c_run_blocks.specs.RunBlocks.{run_bytes, run_fit, run_of, put_run}
use Rattle.c_blocks.proofs.BlockLaws.{put_machine-same}
use Rattle.c_run_blocks.proofs.RunBlockLaws.{RunWords, run_of-put_run, run_fit-put_run}
use Rattle.c_run.specs.RunCalls.{run_started_out, shown_run_start, host_run_start, next_out, shown_next, host_next, host_run_steps}
use Rattle.c_turn.specs.TurnCalls.{turn_blocks, ran_out, shown_run, host_run}
use Rattle.c_turn.proofs.TurnLaws.{blocks-fit}
use Rattle.theorem_calls.specs.Calls.{Buffers, buffers, Call, Called, after_run_start, after_next, after_run, called}
use Rattle.theorem_calls.specs.Composed.{after_calls, turn_calls, bench_in, PlanWords, StartCall, StartCallsAreRight, with, job_in, after_turn_calls, handing, TurnCalls, TurnCallsAreRight, counting, RunIsTurnCalls}
use Rattle.theorem_calls.proofs.Seal.{holds-none}
use Rattle.theorem_calls.proofs.Written.{put_run-over}
use Rattle.theorem_calls.proofs.Numbers.{machine-words, fresh-words, Wordy, turns-wordy}
use Rattle.unit_sealing.proofs.AddedRange.{turns-seals}
use Rattle.theorem_calls.proofs.Turns.{zero-is-done, left, running_in, holds, on}

-- ---- bodlarina_run_start

module _ (P : Plan) (b : Buffers) where
  abbrev B : Bench
  B = bench_in b

  abbrev s : RunStart
  s = start_run chosen P B

  abbrev tests : List Bool
  tests = eqb (length b.machine) machine_bytes ∷ eqb (length b.run) run_bytes ∷ []

  abbrev start_on : Bool → Called
  start_on t =
      after_run_start b (cond t (shown_run_start b.machine b.run s)
      (run_started_out (packed (reply (Err BadArguments))) b.machine b.registers b.marks b.memory b.run))

  start-call : (t : Bool) → every tests ≡ t → called (Call.run_start P) b ≡ start_on t
  unfolding host_run_start
  start-call t h = ap start_on h

  -- the buffers with another run's block
  abbrev having : List ℕ → Buffers
  having R = buffers b.machine b.registers b.marks b.scalars b.memory R b.step b.steps b.file

  -- a start changes neither machine nor memory
  lent_same : (start_on true).after ≡ having (start_on true).after.run
  lent_same =
      ap (λ (C : Bench). buffers b.machine C.registers C.marks b.scalars C.memory (start_on true).after.run b.step b.steps b.file)
      (run-start-changes-nothing chosen P B)

  -- its answers name no row and column
  start_plain : packed s.answer ≡ s.answer.number
  unfolding start_run
  start_plain =
      go (sound_bench B) (planned B.machine.elen P) (lying P B.memory) (separate (sealed B.seals) P)
    where
      out : (t u v w : Bool) → Answer
      out t u v w = verdict ((t otherwise BadArguments) ∷ (u otherwise BadArguments) ∷ (v otherwise OutsideMemory) ∷ (w otherwise Overlap) ∷ [])

      go : (t u v w : Bool) → packed (reply (out t u v w)) ≡ number (out t u v w)
      go true true true true = refl
      go true true true false = refl
      go true true false w = refl
      go true false v w = refl
      go false u v w = refl

pub start-calls-are-right : StartCallsAreRight
start-calls-are-right P b bytes = (
  λ lr. go lr (eqb (length b.machine) machine_bytes) refl,
  λ n. start-call P b false (other-run (eqb (length b.machine) machine_bytes) (ne_eqb (length b.run) run_bytes n)),
)
  where
    other-run : (t : Bool) → eqb (length b.run) run_bytes ≡ false → every (t ∷ eqb (length b.run) run_bytes ∷ []) ≡ false
    other-run true e = rw e
    other-run false e = refl

    go : length b.run ≡ run_bytes → (t : Bool) → eqb (length b.machine) machine_bytes ≡ t → StartCall P b (called (Call.run_start P) b)
    go lr true lm =
        let call : called (Call.run_start P) b ≡ start_on P b true = start-call P b true (each-every (tests P b) (lm, (eq-eqb (length b.run) run_bytes lr, tt))) in
        record {
          answered = ((s P b).answer, ap (λ (o : Called). o.result) call ∙ start_plain P b, (demand-3-ours P (bench_in b) bytes).answered);
          unchanged = subst (λ (o : Called). o.after ≡ having P b o.after.run) (sym call) (lent_same P b);
          refused = λ n.
              let d : done (s P b).answer ≡ false =
              sym (zero-is-done (s P b).answer (start-zero chosen P (bench_in b))) ∙ ne_eqb (packed (s P b).answer) 0 (λ e. n (ap (λ (o : Called). o.result) call ∙ e)) in
              ap (λ (o : Called). o.after) call ∙ lent_same P b ∙ ap (λ (t : Bool). having P b (cond t (put_run (s P b).run b.run) b.run)) d;
        }
    -- a machine's block of another length holds a state at fault
    go lr false lm =
        let call : called (Call.run_start P) b ≡ start_on P b false = start-call P b false (rw lm) in
        let right = (demand-3-ours P (bench_in b) bytes).answered in
        let at-fault : ¬ Numbers P (bench_in b) = λ n. false≢true (sym (holds-none b lm) ∙ n.no-fault) in
        record {
          answered = ((s P b).answer, ap (λ (o : Called). o.result) call ∙ sym (right.gives-8 at-fault), right);
          unchanged = subst (λ (o : Called). o.after ≡ having P b o.after.run) (sym call) refl;
          refused = λ n. ap (λ (o : Called). o.after) call;
        }

-- ---- bodlarina_run_next

abbrev next_on : Buffers → Ask → Called
next_on b a = after_next b (shown_next b.run b.step (asked a))

next-call : (b : Buffers) → every (run_fit b.run ∷ eqb (length b.step) 24 ∷ []) ≡ true → called Call.run_next b ≡ next_on b (ask chosen (run_of b.run))
unfolding host_next
next-call b h =
    ap (λ (t : Bool). after_next b (cond t (shown_next b.run b.step (asked (ask chosen (run_of b.run)))) (next_out (packed (reply (Err BadArguments))) b.run b.step))) h

shown-done : (b : Buffers) (a : Ask) (h : Handed) (R : Run) → a.answer ≡ reply Done → Asks a 0 (some h) R → next_on b a ≡ left 0 (handing h (put_run R b.run) b)
shown-done b a h R d k =
    ap₂ (λ (v : Reply) (g : Option Handed). next_on b (record { answer = v; handed = g; run = a.run })) d k.hands_out
    ∙ ap (λ (S : Run). left 0 (handing h (put_run S b.run) b)) k.leaves

shown-refused : (b : Buffers) (a : Ask) → a.answer ≡ reply (Err BadArguments) → next_on b a ≡ left 8 b
shown-refused b a e = ap (λ (v : Reply). next_on b (record { answer = v; handed = a.handed; run = a.run })) e

-- ---- answers of asking and of turns

some-none : (h : Handed) → some h ≡ none → ⊥
some-none h e = let z : ◌≡◌ {A = ℕ} 0 1 = cc in omega arith

-- nothing is handed out
ask-none : (R : Run) → (ask chosen R).handed ≡ none → (ask chosen R).answer ≡ reply (Err BadArguments)
ask-none R = go (word_handed_out chosen R)
  where
    go : (o : Option Op) → (ask_with chosen R o).handed ≡ none → (ask_with chosen R o).answer ≡ reply (Err BadArguments)
    go none e = refl
    go (some o) e = absurd (some-none (handed_for R.plan o) e)

turn-none : (r : Running) → (turn chosen r).handed ≡ none → (turn chosen r).answer ≡ reply (Err BadArguments)
turn-none r = go (word_handed_out chosen r.run)
  where
    go : (o : Option Op) → (turn_with chosen r o).handed ≡ none → (turn_with chosen r o).answer ≡ reply (Err BadArguments)
    go none e = refl
    go (some o) e = absurd (some-none (handed_for r.run.plan o) e)

-- ---- an accepted start

record Accepted (P : Plan) (b : Buffers) : Type 0 where
  machine-long : length b.machine ≡ machine_bytes
  run_long : length b.run ≡ run_bytes
  done : done (s P b).answer ≡ true
  leaves : (called (Call.run_start P) b).after ≡ having P b (put_run (s P b).run b.run)

accepted : (P : Plan) (b : Buffers) → (called (Call.run_start P) b).result ≡ 0 → Accepted P b
accepted P b e = go (every (tests P b)) refl
  where
    go : (t : Bool) → every (tests P b) ≡ t → Accepted P b
    go true h =
        let l = every-each (tests P b) h in
        let call : called (Call.run_start P) b ≡ start_on P b true = start-call P b true h in
        let d : done (s P b).answer ≡ true =
        sym (zero-is-done (s P b).answer (start-zero chosen P (bench_in b))) ∙ eq-eqb (packed (s P b).answer) 0 (sym (ap (λ (o : Called). o.result) call) ∙ e) in
        record {
          machine-long = eqb-true (length b.machine) machine_bytes l.0;
          run_long = eqb-true (length b.run) run_bytes l.1.0;
          done = d;
          leaves =
              ap (λ (o : Called). o.after) call ∙ lent_same P b
              ∙ ap (λ (t : Bool). having P b (cond t (put_run (s P b).run b.run) b.run)) d;
        }
    go false h = let z : ◌≡◌ {A = ℕ} 8 0 = sym (ap (λ (o : Called). o.result) (start-call P b false h)) ∙ e in absurd (omega arith)

module _ (P : Plan) (b : Buffers) (p : PlanWords P) (small : Bytes b.machine) (A : Accepted P b) where
  -- the run that was started, and the buffers with it
  abbrev R₀ : Run
  R₀ = (s P b).run

  abbrev b₀ : Buffers
  b₀ = having P b (put_run R₀ b.run)

  abbrev r₀ : Running
  r₀ = started_run chosen P (bench_in b)

  fresh : R₀ ≡ fresh_run (bench_in b).machine P
  unfolding start_run
  fresh = ap (λ (t : Bool). cond t (fresh_run (bench_in b).machine P) (no_run P)) A.done

  words : RunWords R₀
  words = subst RunWords (sym fresh) (fresh-words (bench_in b).machine P (machine-words b.machine small) p)

  read_back : run_of (put_run R₀ b.run) ≡ R₀
  read_back = run_of-put_run R₀ b.run words A.run_long

  held : running_in b₀ ≡ r₀
  held = ap₂ running read_back (sym (run-start-changes-nothing chosen P (bench_in b)))

  fit₀ : turn_blocks b₀.run b₀.machine ≡ true
  fit₀ = blocks-fit b₀.run b₀.machine (run_fit-put_run R₀ b.run words A.run_long) A.machine-long

  wordy₀ : Wordy (running_in b₀)
  wordy₀ = record { run = subst RunWords (sym read_back) words; machine = machine-words b.machine small }

  same₀ : with (running_in b₀) b₀ ≡ b₀
  same₀ =
      ap₂ (λ (m R : List ℕ). buffers m b.registers b.marks b.scalars b.memory R b.step b.steps b.file)
      (put_machine-same b.machine small) (ap (λ (R : Run). put_run R b₀.run) read_back ∙ put_run-over R₀ R₀ b.run A.run_long)

  over₀ : (r : Running) → with r b₀ ≡ with r b
  over₀ r =
      ap (λ (R : List ℕ). buffers (put_machine r.bench.machine b.machine) r.bench.registers r.bench.marks b.scalars r.bench.memory R b.step b.steps b.file)
      (put_run-over r.run R₀ b.run A.run_long)

  -- after t turns, and t calls
  abbrev r : ℕ → Running
  r t = after_turns chosen r₀ t

  wordy : (t : ℕ) → Wordy (r t)
  wordy t = subst (λ (q : Running). Wordy (after_turns chosen q t)) held (turns-wordy (running_in b₀) wordy₀ t)

  holds₀ : (t : ℕ) → after_turn_calls P b t ≡ with (r t) b₀
  holds₀ t =
      ap (after_calls (turn_calls t)) A.leaves ∙ holds b₀ fit₀ wordy₀ same₀ t
      ∙ ap (λ (q : Running). with (after_turns chosen q t) b₀) held

  holding : (t : ℕ) → after_turn_calls P b t ≡ with (r t) b
  holding t = holds₀ t ∙ over₀ (r t)

  turning : (t : ℕ) → called Call.run_turn (after_turn_calls P b t) ≡ left (packed (turn chosen (r t)).answer) (with (turn chosen (r t)).after b)
  turning t =
      ap (called Call.run_turn) (holds₀ t) ∙ on b₀ fit₀ (r t) (wordy t) (ap (λ (q : Running). (after_turns chosen q t).bench.seals) (sym held) ∙ turns-seals chosen (running_in b₀) t)
      ∙ ap (left (packed (turn chosen (r t)).answer)) (over₀ (turn chosen (r t)).after)

  -- ---- asking

  asking : (t : ℕ) → length b.step ≡ 24
      → called Call.run_next (with (r t) b) ≡ next_on (with (r t) b) (ask chosen (r t).run)
  asking t l =
      let R : List ℕ = put_run (r t).run b.run in
      next-call (with (r t) b) (each-every (run_fit R ∷ eqb (length b.step) 24 ∷ []) (run_fit-put_run (r t).run b.run (wordy t).run A.run_long, (eq-eqb (length b.step) 24 l, tt)))
      ∙ ap (λ (S : Run). next_on (with (r t) b) (ask chosen S)) (run_of-put_run (r t).run b.run (wordy t).run A.run_long)

  -- what was asked for is written over the blocks
  asked-done : (t : ℕ) (h : Handed) → length b.step ≡ 24 → Asks (ask chosen (r t).run) 0 (some h) (r (suc t)).run
      → called Call.run_next (with (r t) b) ≡ left 0 (handing h (with (r (suc t)) b).run (with (r t) b))
  asked-done t h l k =
      asking t l ∙ shown-done (with (r t) b) (ask chosen (r t).run) h (r (suc t)).run (ask-zero chosen (r t).run (number-done (ask chosen (r t).run).answer k.answers)) k
      ∙ ap (λ (R : List ℕ). left 0 (handing h R (with (r t) b))) (put_run-over (r (suc t)).run (r t).run b.run A.run_long)

  telling : (t : ℕ) → host_run_steps (put_run (r t).run b.run) ≡ steps_in chosen (r t).run
  unfolding host_run_steps
  telling t =
      ap₂ (λ (t : Bool) (S : Run). cond t (steps_in chosen S) 0) (run_fit-put_run (r t).run b.run (wordy t).run A.run_long)
      (run_of-put_run (r t).run b.run (wordy t).run A.run_long)

  right : (t : ℕ) → Right chosen (job_in P b) r₀ t → TurnCalls P b t
  right t T = record {
    holds = holding t;
    next-done = λ l.
        ap (λ (o : Called). o.result) (turning t)
        ∙ ap packed (turn-zero (r t) (number-done (turn chosen (r t)).answer (T.next-done l).answers));
    past_end = λ l. (
      ap (λ (o : Called). o.result) (turning t) ∙ ap packed (turn-none (r t) (T.past_end l).hands_out),
      ap (λ (o : Called). o.after) (turning t) ∙ ap (λ (q : Running). with q b) (T.past_end l).leaves ∙ sym (holding t),
    );
    asks = λ e l.
        subst (λ (c : Buffers). ((called Call.run_next c).result ≡ 0) × ((called Call.run_next c).after ≡ handing (word_of (job_in P b) t) (after_turn_calls P b (suc t)).run c)) (sym (holding t))
        (subst (λ (d : Buffers). ((called Call.run_next (with (r t) b)).result ≡ 0) × ((called Call.run_next (with (r t) b)).after ≡ handing (word_of (job_in P b) t) d.run (with (r t) b))) (sym (holding (suc t)))
        (let k = asked-done t (word_of (job_in P b) t) e (T.asks l) in (ap (λ (o : Called). o.result) k, ap (λ (o : Called). o.after) k)));
    asks-past-end = λ e l.
        subst (λ (c : Buffers). ((called Call.run_next c).result ≡ 8) × ((called Call.run_next c).after ≡ c)) (sym (holding t))
        (let k = asking t e ∙ shown-refused (with (r t) b) (ask chosen (r t).run) (ask-none (r t).run (T.asks-past-end l).hands_out) in (ap (λ (o : Called). o.result) k, ap (λ (o : Called). o.after) k));
    tells = ap (λ (c : Buffers). host_run_steps c.run) (holding t) ∙ telling t ∙ T.tells;
    kept = subst (λ (c : Buffers). OutsideKept (job_in P b) c.memory) (sym (holding t)) T.kept;
    product = λ l i j g h. ap (λ (c : Buffers). element c.memory (c_at P) (wide P) i j) (holding t) ∙ T.product l i j g h;
  }

pub turn-calls-are-right : TurnCallsAreRight
turn-calls-are-right P b p small bytes e t =
    let A : Accepted P b = accepted P b e in
    right P b p small A t ((demand-3-ours P (bench_in b) bytes).turns (ap (λ (v : Reply). v.number) (start-zero chosen P (bench_in b) A.done)) t)

-- ---- bodlarina_run

module _ (P : Plan) (b : Buffers) where
  abbrev w : WholeOutcome
  w = whole chosen P (bench_in b)

  abbrev run_on : Bool → Called
  run_on t =
      after_run b (cond t (shown_run b.machine b.steps w)
      (ran_out (packed (reply (Err BadArguments))) b.machine b.registers b.marks b.memory b.steps))

  run_call : (t : Bool) → every (eqb (length b.machine) machine_bytes ∷ eqb (length b.steps) 8 ∷ []) ≡ t → called (Call.run P) b ≡ run_on t
  unfolding host_run
  run_call t h = ap run_on h

  run_fits : length b.steps ≡ 8 → eqb (length b.machine) machine_bytes ≡ true → called (Call.run P) b ≡ run_on true
  run_fits ls h = run_call true (each-every (eqb (length b.machine) machine_bytes ∷ eqb (length b.steps) 8 ∷ []) (h, (eq-eqb (length b.steps) 8 ls, tt)))

  same-result : length b.run ≡ run_bytes → length b.steps ≡ 8 → (called (Call.run P) b).result ≡ (called (Call.run_start P) b).result
  same-result lr ls = go (eqb (length b.machine) machine_bytes) refl
    where
      go : (t : Bool) → eqb (length b.machine) machine_bytes ≡ t → (called (Call.run P) b).result ≡ (called (Call.run_start P) b).result
      go true h =
          ap (λ (o : Called). o.result) (run_fits ls h)
          ∙ sym (ap (λ (o : Called). o.result) (start-call P b true (each-every (tests P b) (h, (eq-eqb (length b.run) run_bytes lr, tt)))))
      go false h =
          ap (λ (o : Called). o.result) (run_call false (ap (λ (t : Bool). every (t ∷ eqb (length b.steps) 8 ∷ [])) h))
          ∙ sym (ap (λ (o : Called). o.result) (start-call P b false (ap (λ (t : Bool). every (t ∷ eqb (length b.run) run_bytes ∷ [])) h)))

pub run-is-turn-calls : RunIsTurnCalls
run-is-turn-calls P b p small bytes lr ls = (
  same-result P b lr ls,
  λ e.
      let A : Accepted P b = accepted P b (sym (same-result P b lr ls) ∙ e) in
      let n : ℕ = steps (shape (job_in P b)) in
      let counted : (w P b).count ≡ n = (whole-delivers P (bench_in b) bytes).counted (ap (λ (v : Reply). v.number) (start-zero chosen P (bench_in b) A.done)) in
      ap (λ (o : Called). o.after) (run_fits P b ls (eq-eqb (length b.machine) machine_bytes A.machine-long))
      ∙ ap₂ (λ (t : Bool) (k : ℕ). (after_run b (ran_out 0 (cond t (put_machine (w P b).bench.machine b.machine) b.machine)
      (w P b).bench.registers (w P b).bench.marks (w P b).bench.memory (cond t (put_numbers (k ∷ []) b.steps) b.steps))).after) A.done counted
      ∙ ap (λ (c : Buffers). counting n c b) (sym (holding P b p small A n)),
)
