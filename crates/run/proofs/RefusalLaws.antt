-- Refusals of a run: a turn that is refused changes nothing, and the run of a refused start hands out nothing.
use Rattle.numbers.proofs.Kit.{◌≡◌, refl, sym, ap, ap₂, ◌∙◌, subst, Bool, true, false, cond, Option, none, some, ℕ, zero, suc, ◌+◌, add-zero, eqb, eq-eqb}
use Rattle.numbers.proofs.Kit.{ne_eqb, Err}
use Rattle.numbers.specs.Blocks.{Choice}
use Rattle.machine.specs.declared.Refusal.TheVariants.{BadArguments}
use Rattle.machine.specs.declared.Reply.{Reply}
use Rattle.machine.specs.Answers.{reply, verdict, done, Done}
use Rattle.machine.specs.Geometry.{Bench, permitted}
use Rattle.machine.specs.Step.{Outcome, step_by}
use Rattle.machine.proofs.TestLaws.{false-true}
use Rattle.machine.proofs.CodeLaws.{only-done}
use Rattle.machine.proofs.Refused.{refusal-changes-nothing}
use Rattle.run.specs.declared.Plan.{Plan}
use Rattle.run.specs.declared.Run.{Run}
use Rattle.run.specs.declared.Handed.{Handed}
use Rattle.run.specs.Words.{Op}
use Rattle.run.specs.Encoding.{own, handed_for}
use Rattle.run.specs.Start.{run_start_checks, start_run, fresh_run, no_run}
use Rattle.run.specs.Turn.{sound_run, word_handed_out, steps_in, moved, Ask, ask, Running, running, Turn, turn, after_turns, answered_done}
use Rattle.run.specs.Statement.{Idle, started_run}
use Rattle.run.proofs.HandedLaws.{ask_with, turn_with}

-- ---- answers by their numbers

pub number-done : (a : Reply) → a.number ≡ 0 → done a ≡ true
number-done a e = eq-eqb a.number 0 e

pub number-refused : (a : Reply) → ¬ (a.number ≡ 0) → done a ≡ false
number-refused a d = ne_eqb a.number 0 d

-- a start whose number is 0 answers `Done`
pub start-zero : (grant : Choice) (P : Plan) (B : Bench) → done (start_run grant P B).answer ≡ true → (start_run grant P B).answer ≡ reply Done
unfolding start_run
start-zero grant P B e = ap reply (only-done (verdict (run_start_checks grant P B)) e)

-- and so does asking
pub ask-zero : (grant : Choice) (R : Run) → done (ask grant R).answer ≡ true → (ask grant R).answer ≡ reply Done
ask-zero grant R = go (word_handed_out grant R)
  where
    go : (o : Option Op) → done (ask_with grant R o).answer ≡ true → (ask_with grant R o).answer ≡ reply Done
    go none e = absurd (false-true e)
    go (some o) e = refl

-- ---- a refused turn

pub turn-refused : (grant : Choice) (r : Running) → done (turn grant r).answer ≡ false → (turn grant r).after ≡ r
turn-refused grant r = go (word_handed_out grant r.run)
  where
    stays : (h : Handed) (R : Run) → let out : Outcome = step_by grant h.word (own h) r.bench in
        done out.answer ≡ false → running (cond (done out.answer) R r.run) out.bench ≡ r
    stays h R d =
        ap₂ (λ (t : Bool) (B : Bench). running (cond t R r.run) B) d
        (refusal-changes-nothing grant h.word (own h) r.bench (λ e. false-true (sym d ∙ ap (λ (n : ℕ). eqb n 0) e))).0

    go : (o : Option Op) → done (turn_with grant r o).answer ≡ false → (turn_with grant r o).after ≡ r
    go none d = refl
    go (some o) d = stays (handed_for r.run.plan o) (moved grant r.run) d

-- ---- a refused start

module _ (grant : Choice) (P : Plan) (B : Bench) where
  -- a run that hands out nothing
  abbrev nothing : Running
  nothing = running (no_run P) B

  hands_none : word_handed_out grant (no_run P) ≡ none
  unfolding sound_run permitted
  hands_none = refl

  tells_none : steps_in grant (no_run P) ≡ 0
  unfolding sound_run permitted
  tells_none = refl

  abbrev refused : Running → Turn
  refused r = record { answer = reply (Err BadArguments); handed = none; after = r }

  no-turn : turn grant nothing ≡ refused nothing
  no-turn = ap (turn_with grant nothing) hands_none

  stands : (t : ℕ) → after_turns grant nothing t ≡ nothing
  stands zero = refl
  stands (suc t) = ap (λ (r : Running). (turn grant r).after) (stands t) ∙ ap (λ (u : Turn). u.after) no-turn

  no-count : (t : ℕ) → answered_done grant nothing t ≡ 0
  no-count zero = refl
  no-count (suc t) =
      ap₂ (λ (n : ℕ) (u : Turn). n + cond (done u.answer) 1 0) (no-count t) (ap (turn grant) (stands t) ∙ no-turn)
      ∙ add-zero 0

  idle : (t : ℕ) → Idle grant nothing t
  idle t =
      let u = ap (turn grant) (stands t) ∙ no-turn in
      let a = ap (λ (r : Running). ask grant r.run) (stands t) ∙ ap (ask_with grant (no_run P)) hands_none in
      record {
        unchanged = stands t;
        no-turn = record { answers = ap (λ (u : Turn). u.answer.number) u; hands_out = ap (λ (u : Turn). u.handed) u; leaves = ap (λ (u : Turn). u.after) u };
        no_step = record { answers = ap (λ (a : Ask). a.answer.number) a; hands_out = ap (λ (a : Ask). a.handed) a; leaves = ap (λ (a : Ask). a.run) a };
        no-count = no-count t;
        tells_none = ap (λ (r : Running). steps_in grant r.run) (stands t) ∙ tells_none;
      }

  pub run-refused : done (start_run grant P B).answer ≡ false → started_run grant P B ≡ nothing
  unfolding start_run
  run-refused h = ap (λ (t : Bool). running (cond t (fresh_run B.machine P) (no_run P)) B) h

  pub started-idle : ¬ ((start_run grant P B).answer.number ≡ 0) → (t : ℕ) → Idle grant (started_run grant P B) t
  started-idle d t = subst (λ (r : Running). Idle grant r t) (sym (run-refused (number-refused (start_run grant P B).answer d))) (idle t)
