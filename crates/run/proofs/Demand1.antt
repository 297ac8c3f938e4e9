-- Demand 1 where product runs are made.
use Rattle.numbers.proofs.Kit.{◌≡◌, refl, ap, ◌∙◌, Bool, true, false, cond, Option, none, some, zero, suc, ◌+◌, arith}
use Rattle.machine.specs.Answers.{done}
use Rattle.run.specs.Words.{Op, steps}
use Rattle.run.specs.Plan.{shape}
use Rattle.run.specs.Start.{start_run}
use Rattle.run.specs.Turn.{word_handed_out, Running, turn, after_turns, answered_done}
use Rattle.run.specs.Statement.{job_of}
use Rattle.run.specs.Theorems.{RunStartChangesNothing, AskRefusalChangesNothing, TurnRefusalChangesNothing, NoTurnChangesNothing, WholeRefusalChangesNothing}
use Rattle.run.proofs.HandedLaws.{ask_with}
use Rattle.run.proofs.RefusalLaws.{number-refused, turn-refused, started-idle}

pub run-start-changes-nothing : RunStartChangesNothing
unfolding start_run
run-start-changes-nothing grant P B = refl

pub ask-refusal-changes-nothing : AskRefusalChangesNothing
ask-refusal-changes-nothing grant R = go (word_handed_out grant R)
  where
    go : (o : Option Op) → ¬ ((ask_with grant R o).answer.number ≡ 0) → ((ask_with grant R o).handed ≡ none) × ((ask_with grant R o).run ≡ R)
    go none d = (refl, refl)
    go (some o) d = absurd (d refl)

pub turn-refusal-changes-nothing : TurnRefusalChangesNothing
turn-refusal-changes-nothing grant r d = turn-refused grant r (number-refused (turn grant r).answer d)

pub no-turn-changes-nothing : NoTurnChangesNothing
no-turn-changes-nothing grant r zero = λ e. refl
no-turn-changes-nothing grant r (suc n) = go (done (turn grant (after_turns grant r n)).answer) refl (no-turn-changes-nothing grant r n)
  where
    go : (t : Bool) → done (turn grant (after_turns grant r n)).answer ≡ t → (answered_done grant r n ≡ 0 → after_turns grant r n ≡ r)
        → answered_done grant r n + cond t 1 0 ≡ 0 → (turn grant (after_turns grant r n)).after ≡ r
    go true d ih e = absurd (omega arith)
    go false d ih e = turn-refused grant (after_turns grant r n) d ∙ ih (omega arith)

pub whole-refusal-changes-nothing : WholeRefusalChangesNothing
unfolding start_run
whole-refusal-changes-nothing grant P B d =
    let i = started-idle grant P B d (steps (shape (job_of grant P B))) in
    (i.no-count, ap (λ (r : Running). r.bench) i.unchanged)
