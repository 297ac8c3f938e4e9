-- What the calls of a whole run return is what its statement says; it takes no more turns than there are steps.
use Rattle.numbers.proofs.Kit.{◌≡◌, sym, ap, ap₂, ◌∙◌, subst, true, false, ℕ, ◌≤◌, ◌<◌, ◌^◌, arith, eqb-true}
use Rattle.numbers.specs.Blocks.{count}
use Rattle.machine.specs.declared.Reply.{Reply}
use Rattle.machine.specs.Answers.{reply, number, done, is_done}
use Rattle.machine.specs.Geometry.{Bench}
use Rattle.machine.specs.Setting.{chosen}
use Rattle.machine.proofs.TestLaws.{false-true}
use Rattle.run.specs.declared.Plan.{Plan}
use Rattle.run.specs.Start.{RunStarted}
use Rattle.run.specs.Words.{Shape, steps}
use Rattle.run.specs.Plan.{shape}
use Rattle.run.specs.Start.{RunStart, start_run, run_started_as}
use Rattle.run.specs.Turn.{running, TurnsOutcome, turn, after_turns, turns}
use Rattle.run.specs.Statement.{MemoryBytes, RunFromStart, job_of, started_run}
use Rattle.run.specs.Whole.{WholeOutcome, whole, Delivers}
use Rattle.run.proofs.RefusalLaws.{number-done, number-refused}
use Rattle.run.proofs.Demand1.{whole-refusal-changes-nothing}
use Rattle.run.proofs.Demand3.{demand-3-ours}
use Rattle.run.proofs.Whole.{whole-delivers}
use Rattle.run_place.proofs.CountLaws.{count-least, few-outer}
use Rattle.run_turn.proofs.TurnLaws.{turns-stop}

-- ---- how many steps there are

-- with sizes up to 1,024
pub few-steps : (S : Shape) → S.m ≤ 1024 → S.k ≤ 1024 → S.n ≤ 1024 → steps S < 2 ^ 64
few-steps S hm hk hn =
    let cm = count-least S.tm S.m in
    let ck = count-least S.tk S.k in
    let cn = count-least S.tn S.n in
    omega (arith, few-outer (count S.tm S.m) (count S.tn S.n) (count S.tk S.k) (omega arith) (omega arith) (omega arith))

-- ---- a refused start

module _ (P : Plan) (B : Bench) where
  abbrev all : ℕ
  all = steps (shape (job_of chosen P B))

  pub whole-refused : done (start_run chosen P B).answer ≡ false → whole chosen P B ≡ record { answer = (start_run chosen P B).answer; count = 0; bench = B }
  whole-refused h =
      let r = whole-refusal-changes-nothing chosen P B (λ z. false-true (sym h ∙ number-done (start_run chosen P B).answer z)) in
      ap₂ (λ (n : ℕ) (C : Bench). record { answer = (start_run chosen P B).answer; count = n; bench = C }) r.0 r.1

  -- ---- an accepted one

  module _ (bytes : MemoryBytes B.memory) where
    the-demand : RunFromStart chosen P B
    the-demand = demand-3-ours P B bytes

    -- no more turns are answered 0 than there are steps, however many are taken
    whole-done : (start_run chosen P B).answer.number ≡ 0 → (n : ℕ) → all ≤ n → turns chosen (started_run chosen P B) n ≡ turns chosen (started_run chosen P B) all
    whole-done e n l =
        let p = ((the-demand.turns e all).past_end (omega arith)).answers in
        sym (turns-stop (started_run chosen P B) all n l (number-refused (turn chosen (after_turns chosen (started_run chosen P B) all)).answer (λ z. let f : 8 ≡ 0 = sym p ∙ z in omega arith)))

    -- ---- from what the calls return

    abbrev Finishes : WholeOutcome → Type 0
    Finishes o = (o ≡ whole chosen P B) × Delivers P B o

    finishes : (o : WholeOutcome) → o ≡ whole chosen P B → Finishes o
    finishes o e = (e, subst (Delivers P B) (sym e) (whole-delivers P B bytes))

    answer-is : (s : RunStarted) → run_started_as s B ≡ start_run chosen P B → reply s.answer ≡ (start_run chosen P B).answer
    answer-is s e = ap (λ (r : RunStart). r.answer) e

    pub finishes-refused : (s : RunStarted) → run_started_as s B ≡ start_run chosen P B → is_done s.answer ≡ false
        → Finishes (record { answer = reply s.answer; count = 0; bench = B })
    finishes-refused s e d =
        let a = answer-is s e in
        finishes _ (ap (λ (a : Reply). record { answer = a; count = 0; bench = B }) a ∙ sym (whole-refused (sym (ap done a) ∙ d)))

    pub finishes-done : (s : RunStarted) → run_started_as s B ≡ start_run chosen P B → is_done s.answer ≡ true
        → (t : TurnsOutcome) → t ≡ turns chosen (running s.run B) 0xffff_ffff_ffff_ffff
        → Finishes (record { answer = reply s.answer; count = t.count; bench = t.after.bench })
    finishes-done s e d t h =
        let a = answer-is s e in
        let ok : (start_run chosen P B).answer.number ≡ 0 = ap (λ (a : Reply). a.number) (sym a) ∙ eqb-true (number s.answer) 0 d in
        let n = (the-demand.answered.only_then ok).0 in
        let few = few-steps (shape (job_of chosen P B)) n.m-fits n.k-fits n.n-fits in
        finishes _
        (ap₂ (λ (a : Reply) (t : TurnsOutcome). record { answer = a; count = t.count; bench = t.after.bench }) a
        (h ∙ ap (λ (r : RunStart). turns chosen (running r.run r.bench) 0xffff_ffff_ffff_ffff) e ∙ whole-done ok 0xffff_ffff_ffff_ffff (omega arith)))
