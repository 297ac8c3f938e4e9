-- Demand 1: a refusal changes nothing lent or held, for every state and every word; and so of a start.
use Rattle.numbers.proofs.Kit.{◌≡◌, refl, ap, ◌∙◌, Bool, true, false, cond, List, ℕ, length, replicate, eqb-true, Err}
use Rattle.numbers.specs.Blocks.{Choice}
use Rattle.machine.specs.declared.Refusal.TheVariants.{BadArguments}
use Rattle.machine.specs.declared.Reply.{Reply}
use Rattle.machine.specs.Answers.{reply, is_done, verdict, Answer}
use Rattle.machine.specs.Geometry.{Parameters, parameters, Bench}
use Rattle.machine.specs.Listing.{decode}
use Rattle.machine.specs.Starting.{StartOutcome, start_checks, started_as, start_machine, fresh_machine, no_machine}
use Rattle.machine.specs.Sealing.{add_seal, seal_checks, with_seal}
use Rattle.machine.specs.Step
use Rattle.machine.specs.Step.{Outcome, VectorOutcome, beside, outcome, step_by, step_with, step_checks, checks_in, meant_in, given_in}
use Rattle.machine.specs.Meanings.{vectors_after}
use Rattle.machine.specs.Vectors.{vectors_fit}
use Rattle.machine.specs.Theorems.{RefusalChangesNothing, StartRefusalChangesNothing, SealRefusalChangesNothing}

pub step-refusal-changes-nothing : RefusalChangesNothing
unfolding step_with
step-refusal-changes-nothing grant word xs W B h = go (vectors_fit W) (is_done (verdict (checks_in W M (decode word) xs B))) h
  where
    M : Parameters
    M = parameters grant B.machine

    out : Bool → Bool → VectorOutcome
    out t u = cond t
        (beside (cond u (vectors_after M (meant_in W M (decode word) xs B) (given_in W M (decode word) xs B) W.file) W.file)
        (cond u (Step.carried_in W M (decode word) xs B) (Step.refused_in W M (decode word) xs B (verdict (checks_in W M (decode word) xs B)))))
        (beside W.file (Step.refused_in W M (decode word) xs B (Err BadArguments)))

    go : (t u : Bool) → ¬ ((out t u).answer.number ≡ 0) → ((out t u).bench ≡ B) × ((out t u).scalars ≡ xs) × ((out t u).vectors ≡ W.file)
    go true true d = absurd (d refl)
    go true false d = (refl, refl, refl)
    go false u d = (refl, refl, refl)

-- of a step that is lent no vector file
pub refusal-changes-nothing : (grant : Choice) (word : ℕ) (xs : List ℕ) (B : Bench) → ¬ ((step_by grant word xs B).answer.number ≡ 0)
    → ((step_by grant word xs B).bench ≡ B) × ((step_by grant word xs B).scalars ≡ xs)
unfolding step_by outcome
refusal-changes-nothing grant word xs B h = go (is_done (verdict (step_checks (parameters grant B.machine) (decode word) xs B))) h
  where
    out : Bool → Outcome
    out t = cond t (Step.carried_out (parameters grant B.machine) (decode word) xs B)
        (Step.refused (parameters grant B.machine) (decode word) xs B (verdict (step_checks (parameters grant B.machine) (decode word) xs B)))

    go : (t : Bool) → ¬ ((out t).answer.number ≡ 0) → ((out t).bench ≡ B) × ((out t).scalars ≡ xs)
    go true d = absurd (d refl)
    go false d = (refl, refl)

pub start-refusal-changes-nothing : StartRefusalChangesNothing
unfolding start_machine
start-refusal-changes-nothing rlen mlen elen rule seals registers marks = go (verdict (start_checks rlen mlen elen rule seals registers marks))
  where
    out : Answer → StartOutcome
    out a = cond (is_done a) (started_as (record { answer = a; machine = fresh_machine rlen mlen elen rule }) seals registers (replicate (length marks) 0))
        (started_as (record { answer = a; machine = no_machine }) seals registers marks)

    by : (a : Answer) (t : Bool) → is_done a ≡ t → ¬ ((reply a).number ≡ 0)
        → ((cond t (started_as (record { answer = a; machine = fresh_machine rlen mlen elen rule }) seals registers (replicate (length marks) 0))
        (started_as (record { answer = a; machine = no_machine }) seals registers marks)).registers ≡ registers)
        × ((cond t (started_as (record { answer = a; machine = fresh_machine rlen mlen elen rule }) seals registers (replicate (length marks) 0))
        (started_as (record { answer = a; machine = no_machine }) seals registers marks)).marks ≡ marks)
    by a true e d = absurd (d (eqb-true (reply a).number 0 e))
    by a false e d = (refl, refl)

    answers : (a : Answer) (t : Bool) → (cond t (started_as (record { answer = a; machine = fresh_machine rlen mlen elen rule }) seals registers (replicate (length marks) 0))
        (started_as (record { answer = a; machine = no_machine }) seals registers marks)).answer ≡ reply a
    answers a true = refl
    answers a false = refl

    go : (a : Answer) → ¬ ((out a).answer.number ≡ 0) → ((out a).registers ≡ registers) × ((out a).marks ≡ marks)
    go a d = by a (is_done a) refl (λ e. d (ap (λ (r : Reply). r.number) (answers a (is_done a)) ∙ e))

pub seal-refusal-changes-nothing : SealRefusalChangesNothing
unfolding add_seal
seal-refusal-changes-nothing start size B d = go (is_done (verdict (seal_checks start size B))) refl
  where
    go : (t : Bool) → is_done (verdict (seal_checks start size B)) ≡ t → cond t (with_seal start size B) B ≡ B
    go true e = absurd (d (eqb-true (reply (verdict (seal_checks start size B))).number 0 e))
    go false e = refl
