-- A turn by the cases of what is asked for; what turns leave once one is refused; states that are not at fault.
use Rattle.numbers.proofs.Kit.{◌≡◌, refl, sym, ap, ap₂, ◌∙◌, Bool, true, false, cond, Option, none, some, ℕ, zero, suc, ◌+◌, ◌-◌, ◌≤◌, add-zero, add_assoc}
use Rattle.numbers.proofs.Kit.{arith, add-one, Ok, Err}
use Rattle.machine.specs.declared.Refusal.TheVariants.{BadArguments}
use Rattle.machine.specs.declared.Reply.{Reply}
use Rattle.std.specs.Result.{is_err}
use Rattle.machine.specs.Answers.{Answer, reply, done, is_done, Done}
use Rattle.machine.specs.Geometry.{Bench, bench_of}
use Rattle.machine.specs.Setting.{chosen}
use Rattle.machine.specs.Faults.{sound_bench}
use Rattle.machine.specs.Step.{Outcome, step}
use Rattle.machine.proofs.SizeLaws.{chosen-grants}
use Rattle.machine.proofs.TestLaws.{false-true}
use Rattle.machine.proofs.CodeLaws.{refused-not-done, step-zero}
use Rattle.machine.proofs.NoFault.{step-sound}
use Rattle.unit_execute.proofs.OutcomeLaws.{step-fault}
use Rattle.run.specs.declared.Run.{Run}
use Rattle.run.specs.declared.Handed.{Handed}
use Rattle.run.specs.Words.{Op}
use Rattle.run.specs.Encoding.{own, handed_for}
use Rattle.run.specs.Turn.{sound_run, word_handed_out, moved, Running, running, turn, TurnOutcome, turn_outcome, TurnsOutcome, turns, after_turns}
use Rattle.run.proofs.HandedLaws.{turn_with}
use Rattle.run.proofs.RefusalLaws.{turn-refused}
use Rattle.run_place.proofs.RunPlaceLaws.{moved-sound}

-- ---- an answer, by the test of the code

pub answer-refused : (a : Answer) {t : Bool} → t ≡ is_err a → t ≡ true → is_done a ≡ false
answer-refused (Ok u) e h = absurd (false-true (sym e ∙ h))
answer-refused (Err r) e h = refused-not-done r

pub answer-done : (a : Answer) {t : Bool} → t ≡ is_err a → t ≡ false → is_done a ≡ true
answer-done (Ok u) e h = refl
answer-done (Err r) e h = absurd (false-true (sym h ∙ e))

-- ---- one turn

-- what a turn answers and leaves
abbrev pub leaving : Reply → Running → TurnOutcome
leaving a r = record { answer = a; after = r }

-- a state that is not at fault stays so
pub turn-sound : (r : Running) → sound_bench r.bench ≡ true → sound_bench (turn chosen r).after.bench ≡ true
turn-sound r s = go (word_handed_out chosen r.run)
  where
    go : (o : Option Op) → sound_bench (turn_with chosen r o).after.bench ≡ true
    go none = s
    go (some o) = let h : Handed = handed_for r.run.plan o in step-sound chosen chosen-grants h.word (own h) r.bench s

-- and so does a run that a start can have made
pub turn-run : (r : Running) → sound_run chosen r.run ≡ true → sound_run chosen (turn chosen r).after.run ≡ true
turn-run r ok = go (word_handed_out chosen r.run)
  where
    either : (t : Bool) → sound_run chosen (cond t (moved chosen r.run) r.run) ≡ true
    either true = moved-sound r.run ok
    either false = ok

    go : (o : Option Op) → sound_run chosen (turn_with chosen r o).after.run ≡ true
    go none = ok
    go (some o) = let h : Handed = handed_for r.run.plan o in either (done (step h.word (own h) r.bench).answer)

-- a turn that is refused, whose slices the code keeps beside the run and the machine as they were
pub turn-kept : (r : Running) (t : TurnOutcome) → t ≡ turn_outcome chosen r → done t.answer ≡ false
    → leaving t.answer (running r.run (bench_of r.bench.machine r.bench.seals t.after.bench.registers t.after.bench.marks t.after.bench.memory)) ≡ turn_outcome chosen r
turn-kept r t h d =
    let k : t.after ≡ r = ap (λ (o : TurnOutcome). o.after) h ∙ turn-refused chosen r (sym (ap (λ (o : TurnOutcome). done o.answer) h) ∙ d) in
    ap (λ (x : Running). leaving t.answer (running r.run (bench_of r.bench.machine r.bench.seals x.bench.registers x.bench.marks x.bench.memory))) k
    ∙ ap (leaving t.answer) (sym k) ∙ h

-- in a state at fault every turn is refused, whether or not a step is handed out
pub turn-fault : (R : Run) (B : Bench) → sound_bench B ≡ false → leaving (reply (Err BadArguments)) (running R B) ≡ turn_outcome chosen (running R B)
turn-fault R B f = go (word_handed_out chosen R)
  where
    step-refused : (h : Handed) (R' : Run) → let out : Outcome = step h.word (own h) B in
        leaving (reply (Err BadArguments)) (running R B) ≡ leaving out.answer (running (cond (done out.answer) R' R) out.bench)
    step-refused h R' = ap (λ (out : Outcome). leaving out.answer (running (cond (done out.answer) R' R) out.bench)) (sym (step-fault h.word (own h) B f))

    go : (o : Option Op) → leaving (reply (Err BadArguments)) (running R B) ≡ leaving (turn_with chosen (running R B) o).answer (turn_with chosen (running R B) o).after
    go none = refl
    go (some o) = step-refused (handed_for R.plan o) (moved chosen R)

-- a turn that is answered 0 is answered as `Done` is
pub turn-zero : (r : Running) → done (turn chosen r).answer ≡ true → (turn chosen r).answer ≡ reply Done
turn-zero r = go (word_handed_out chosen r.run)
  where
    go : (o : Option Op) → done (turn_with chosen r o).answer ≡ true → (turn_with chosen r o).answer ≡ reply Done
    go none d = absurd (false-true d)
    go (some o) d = let h : Handed = handed_for r.run.plan o in step-zero chosen h.word (own h) r.bench d

-- ---- several turns

-- what turns answer and leave
abbrev pub taking : ℕ → Running → TurnsOutcome
taking n r = record { count = n; after = r }

-- one turn more
abbrev further : TurnsOutcome → TurnsOutcome
further t = taking (t.count + cond (done (turn chosen t.after).answer) 1 0) (turn chosen t.after).after

further-refused : (t : TurnsOutcome) → done (turn chosen t.after).answer ≡ false → t ≡ further t
further-refused t d =
    ap₂ taking (sym (add-zero t.count) ∙ ap (λ (b : Bool). t.count + cond b 1 0) (sym d)) (sym (turn-refused chosen t.after d))

-- once a turn is refused, so are all that follow
pub turns-stop : (r : Running) (i n : ℕ) → i ≤ n → done (turn chosen (after_turns chosen r i)).answer ≡ false → turns chosen r i ≡ turns chosen r n
turns-stop r i n l d = go (n - i) n (omega arith)
  where
    go : (k n : ℕ) → n ≡ i + k → turns chosen r i ≡ turns chosen r n
    go zero n e = let z : i ≡ n = omega arith in ap (turns chosen r) z
    go (suc k) zero e = absurd (omega arith)
    go (suc k) (suc n) e = further-refused (turns chosen r i) d ∙ ap further (go k n (omega arith))

-- a turn after n that were answered 0, from what it answers and leaves
pub turns_more : (r s : Running) (n : ℕ) → taking n s ≡ turns chosen r n → (t : TurnOutcome) → t ≡ turn_outcome chosen s → done t.answer ≡ true
    → taking (n + 1) t.after ≡ turns chosen r (n + 1)
turns_more r s n e t h d =
    ap₂ taking (ap (λ (b : Bool). n + cond b 1 0) (sym d ∙ ap (λ (o : TurnOutcome). done o.answer) h)) (ap (λ (o : TurnOutcome). o.after) h)
    ∙ ap further e ∙ ap (turns chosen r) (sym (add-one n))

-- turns, and then more of them
abbrev pub joined : TurnsOutcome → ℕ → TurnsOutcome
joined t c = taking (t.count + (turns chosen t.after c).count) (turns chosen t.after c).after

pub turns-join : (r : Running) (n c : ℕ) → turns chosen r (n + c) ≡ joined (turns chosen r n) c
turns-join r n zero = ap (turns chosen r) (add-zero n) ∙ ap (λ (x : ℕ). taking x (turns chosen r n).after) (sym (add-zero (turns chosen r n).count))
turns-join r n (suc c) =
    let z : n + suc c ≡ suc (n + c) = omega arith in
    let s = turns chosen r n in
    let u = turns chosen s.after c in
    ap (turns chosen r) z ∙ ap further (turns-join r n c)
    ∙ ap (λ (x : ℕ). taking x (turn chosen u.after).after) (add_assoc s.count u.count (cond (done (turn chosen u.after).answer) 1 0))

-- and one that is refused, whose slices the code keeps beside the run and the machine as they were
pub turns-refused : (r s : Running) (n limit : ℕ) → n ≤ limit → taking n s ≡ turns chosen r n → (t : TurnOutcome) → t ≡ turn_outcome chosen s → done t.answer ≡ false
    → taking n (running s.run (bench_of s.bench.machine s.bench.seals t.after.bench.registers t.after.bench.marks t.after.bench.memory)) ≡ turns chosen r limit
turns-refused r s n limit l e t h d =
    let f : done (turn chosen s).answer ≡ false = sym (ap (λ (o : TurnOutcome). done o.answer) h) ∙ d in
    let k : t.after ≡ s = ap (λ (o : TurnOutcome). o.after) h ∙ turn-refused chosen s f in
    ap (λ (x : Running). taking n (running s.run (bench_of s.bench.machine s.bench.seals x.bench.registers x.bench.marks x.bench.memory))) k
    ∙ e ∙ turns-stop r n limit l (ap (λ (o : TurnsOutcome). done (turn chosen o.after).answer) (sym e) ∙ f)

-- in a state at fault all are
pub turns-fault : (R : Run) (B : Bench) (n : ℕ) → sound_bench B ≡ false → taking 0 (running R B) ≡ turns chosen (running R B) n
turns-fault R B n f = turns-stop (running R B) 0 n (omega arith) (ap (λ (o : TurnOutcome). done o.answer) (sym (turn-fault R B f)))
