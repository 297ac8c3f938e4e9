-- A step of a word is its meaning.
use Rattle.numbers.proofs.Kit.{◌≡◌, refl, sym, ap, ap₂, ◌∙◌, Bool, true, false, cond, List, Option, none, some, Option·some-injective, Option·none-ne-some}
use Rattle.numbers.proofs.Kit.{ℕ, Err}
use Rattle.numbers.specs.Blocks.{Choice}
use Rattle.machine.specs.declared.Refusal.TheVariants.{BadArguments}
use Rattle.machine.specs.declared.Reply.{Reply}
use Rattle.machine.specs.Answers.{reply, done, is_done, verdict, Answer}
use Rattle.machine.specs.Geometry.{Parameters, parameters, Bench}
use Rattle.machine.specs.Vectors.{Vectors, vectors_fit, idle}
use Rattle.machine.specs.Listing.{decode}
use Rattle.machine.specs.Meanings.{vectors_after}
use Rattle.machine.specs.Step.{Outcome, VectorOutcome, beside, checks_in, meant_in, given_in, carried_in, refused_in, outcome_in, vectors_in, outcome, step_by, step_with}
use Rattle.machine.proofs.TestLaws.{false-true}
use Rattle.machine.proofs.Refused.{step-refusal-changes-nothing}
use Rattle.theorem_refusals.proofs.Exact.{step-answers-exactly}
use Rattle.run.proofs.RefusalLaws.{number-done}
use Rattle.run.specs.declared.Run.{Run}
use Rattle.run.specs.declared.Handed.{Handed}
use Rattle.run.specs.Words.{Op}
use Rattle.run.specs.Encoding.{own, handed_for}
use Rattle.run.specs.Turn.{word_handed_out, moved, Running, running, Turn}
use Rattle.run.proofs.HandedLaws.{ask_with, turn_with}
use Rattle.demands.specs.Demand2.{IsItsMeaning, StepIsItsMeaning, TurnIsItsStep}

module _ (grant : Choice) (word : ℕ) (xs : List ℕ) (W : Vectors) (B : Bench) where
  abbrev M : Parameters
  M = parameters grant B.machine

  abbrev meaning : VectorOutcome
  meaning = beside (vectors_after M (meant_in W M (decode word) xs B) (given_in W M (decode word) xs B) W.file) (carried_in W M (decode word) xs B)

  carried : (step_with grant word xs W B).answer.number ≡ 0 → step_with grant word xs W B ≡ meaning
  unfolding step_with
  carried = go (vectors_fit W) (is_done v) refl
    where
      v : Answer
      v = verdict (checks_in W M (decode word) xs B)

      out : Bool → Bool → VectorOutcome
      out s t =
          cond s (beside (cond t (vectors_after M (meant_in W M (decode word) xs B) (given_in W M (decode word) xs B) W.file) W.file) (cond t (carried_in W M (decode word) xs B) (refused_in W M (decode word) xs B v)))
          (beside W.file (refused_in W M (decode word) xs B (Err BadArguments)))

      go : (s t : Bool) → is_done v ≡ t → (out s t).answer.number ≡ 0 → out s t ≡ meaning
      go true true e h = refl
      go true false e h = absurd (false-true (sym e ∙ number-done (reply v) h))
      go false t e h = absurd (false-true (number-done (reply (Err BadArguments)) h))

  refused : ¬ ((step_with grant word xs W B).answer.number ≡ 0)
      → step_with grant word xs W B ≡ record { answer = (step_with grant word xs W B).answer; bench = B; scalars = xs; vectors = W.file }
  refused h =
      let k = step-refusal-changes-nothing grant word xs W B h in
      let a = (step_with grant word xs W B).answer in
      ap₂ (λ (C : Bench) (ys : List ℕ). record { answer = a; bench = C; scalars = ys; vectors = (step_with grant word xs W B).vectors }) k.0 k.1
      ∙ ap (λ (file : List ℕ). record { answer = a; bench = B; scalars = xs; vectors = file }) k.2

pub step-is-its-meaning : StepIsItsMeaning
step-is-its-meaning grant word xs W B = record { answer = step-answers-exactly grant word xs W B; done = carried grant word xs W B; refused = refused grant word xs W B }

-- ---- a turn

idle-fits : vectors_fit idle ≡ true
unfolding vectors_fit idle
idle-fits = refl

-- a step that is lent no vector file is one with the idle file
own-step : (grant : Choice) (word : ℕ) (xs : List ℕ) (B : Bench)
    → ((step_by grant word xs B).answer ≡ (step_with grant word xs idle B).answer) × ((step_by grant word xs B).bench ≡ (step_with grant word xs idle B).bench)
unfolding step_by outcome step_with
own-step grant word xs B =
    let M = parameters grant B.machine in
    let out : Bool → VectorOutcome = λ t. cond t (beside (vectors_in idle M (decode word) xs B) (outcome_in idle M (decode word) xs B)) (beside idle.file (refused_in idle M (decode word) xs B (Err BadArguments))) in
    (ap (λ (t : Bool). (out t).answer) (sym idle-fits), ap (λ (t : Bool). (out t).bench) (sym idle-fits))

pub turn-is-its-step : TurnIsItsStep
turn-is-its-step grant r h = go (word_handed_out grant r.run)
  where
    out : VectorOutcome
    out = step_with grant h.word (own h) idle r.bench

    same : (k : Handed) → k ≡ h → (R : Run)
        → ◌≡◌ {A = Turn} (let o : Outcome = step_by grant k.word (own k) r.bench in record { answer = o.answer; handed = some k; after = running (cond (done o.answer) R r.run) o.bench })
        (record { answer = out.answer; handed = some h; after = running (cond (done out.answer) R r.run) out.bench })
    same k e R =
        let s = own-step grant h.word (own h) r.bench in
        ap (λ (x : Handed). let o : Outcome = step_by grant x.word (own x) r.bench in record { answer = o.answer; handed = some x; after = running (cond (done o.answer) R r.run) o.bench }) e
        ∙ ap₂ (λ (a : Reply) (C : Bench). record { answer = a; handed = some h; after = running (cond (done a) R r.run) C }) s.0 s.1

    go : (o : Option Op) → (ask_with grant r.run o).handed ≡ some h
        → turn_with grant r o ≡ record { answer = out.answer; handed = some h; after = running (cond (done out.answer) (ask_with grant r.run o).run r.run) out.bench }
    go none e = absurd (Option·none-ne-some h e)
    go (some o) e = same (handed_for r.run.plan o) (Option·some-injective (handed_for r.run.plan o) h e) (moved grant r.run)
