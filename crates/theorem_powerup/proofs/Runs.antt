-- Request Nine, of product runs: what is asked for and carried out in a turn depends on the run and on what a step depends on.
use Rattle.numbers.proofs.Kit.{◌≡◌, refl, ap, ap₂, ◌∙◌, subst, Bool, cond, List, [], ◌∷◌, Option, none, some, ℕ, zero, suc, ◌+◌}
use Rattle.numbers.specs.Blocks.{Choice}
use Rattle.machine.specs.declared.Refusal.TheVariants.{BadArguments, OutsideMemory, Overlap}
use Rattle.machine.specs.declared.Machine.{Machine}
use Rattle.machine.specs.declared.Reply.{Reply}
use Rattle.machine.specs.Answers.{reply, done, ◌otherwise◌, verdict, is_done, Answer}
use Rattle.machine.specs.Geometry.{sealed, Bench, parameters}
use Rattle.machine.specs.Faults.{sound}
use Rattle.run.specs.declared.Plan.{Plan}
use Rattle.run.specs.declared.Run.{Run}
use Rattle.run.specs.declared.Handed.{Handed}
use Rattle.run.specs.Words.{Op, steps}
use Rattle.run.specs.Plan.{shape}
use Rattle.run.specs.Start.{start_run, run_start_checks, planned, lying, separate, fresh_run, no_run}
use Rattle.run.specs.Encoding.{own, handed_for}
use Rattle.run.specs.Turn.{word_handed_out, moved, Running, running, turn, after_turns, answered_done}
use Rattle.run.specs.Statement.{started_run, job_of}
use Rattle.run.proofs.HandedLaws.{turn_with}
use Rattle.theorem_powerup.specs.Steps.{AlikeBenches}
use Rattle.theorem_powerup.specs.Runs.{SameRunStart, SameRunning, SameTurn, RunStartIgnoresUnmarked, TurnsIgnoreUnmarked, WholeIgnoresUnmarked}
use Rattle.theorem_powerup.proofs.Steps.{step-by-ignores-unmarked, sound-bench-same, lent_is}

-- ---- the start

verdict-same : (grant : Choice) (P : Plan) (B B' : Bench) → AlikeBenches B B' → verdict (run_start_checks grant P B) ≡ verdict (run_start_checks grant P B')
verdict-same grant P B B' t =
    ap (λ (s : Bool). verdict ((s otherwise BadArguments) ∷ (planned B.machine.elen P otherwise BadArguments) ∷ (lying P B.memory otherwise OutsideMemory) ∷ (separate (sealed B.seals) P otherwise Overlap) ∷ []))
    (sound-bench-same B B'.registers t.alike.agree.same_length)
    ∙ ap (λ (C : Bench). verdict (run_start_checks grant P C)) (lent_is B B' t)

pub run-start-ignores-unmarked : RunStartIgnoresUnmarked
unfolding start_run
run-start-ignores-unmarked grant P B B' t = record {
  same_answer = ap reply (verdict-same grant P B B' t);
  same-run = ap₂ (λ (a : Answer) (m : Machine). cond (is_done a) (fresh_run m P) (no_run P)) (verdict-same grant P B B' t) t.alike.same-machine;
  alike-after = t;
}

-- ---- a turn

with-same : (grant : Choice) (R : Run) (B B' : Bench) → AlikeBenches B B' → (o : Option Op) → SameTurn (turn_with grant (running R B) o) (turn_with grant (running R B') o)
with-same grant R B B' t none = record { same_answer = refl; same-handed = refl; same_after = record { same-run = refl; alike-benches = t } }
with-same grant R B B' t (some o) =
    let h : Handed = handed_for R.plan o in
    let s = step-by-ignores-unmarked grant h.word (own h) B B' t in
    record {
      same_answer = s.same_answer;
      same-handed = refl;
      same_after = record { same-run = ap (λ (a : Reply). cond (done a) (moved grant R) R) s.same_answer; alike-benches = s.alike-after };
    }

turn-same : (grant : Choice) (r r' : Running) → SameRunning r r' → SameTurn (turn grant r) (turn grant r')
turn-same grant r r' s =
    subst (λ (R : Run). SameTurn (turn grant r) (turn grant (running R r'.bench))) s.same-run
    (with-same grant r.run r.bench r'.bench s.alike-benches (word_handed_out grant r.run))

-- ---- any number of turns

module _ (grant : Choice) (r r' : Running) (s : SameRunning r r') where
  after_same : (t : ℕ) → SameRunning (after_turns grant r t) (after_turns grant r' t)
  after_same zero = s
  after_same (suc t) = (turn-same grant (after_turns grant r t) (after_turns grant r' t) (after_same t)).same_after

  count_same : (t : ℕ) → answered_done grant r t ≡ answered_done grant r' t
  count_same zero = refl
  count_same (suc t) =
      ap₂ (λ (n : ℕ) (a : Reply). n + cond (done a) 1 0) (count_same t)
      (turn-same grant (after_turns grant r t) (after_turns grant r' t) (after_same t)).same_answer

pub turns-ignore-unmarked : TurnsIgnoreUnmarked
turns-ignore-unmarked grant r r' s n = (
  record { same_count = count_same grant r r' s n; same_after = after_same grant r r' s n },
  turn-same grant (after_turns grant r n) (after_turns grant r' n) (after_same grant r r' s n),
)

-- ---- a whole run

pub whole-ignores-unmarked : WholeIgnoresUnmarked
whole-ignores-unmarked grant P B B' t = record {
  same_answer = o.same_answer;
  same_count = count_same grant (started_run grant P B) (started_run grant P B') s n ∙ ap (answered_done grant (started_run grant P B')) e;
  alike-after = subst (λ (n' : ℕ). AlikeBenches (after_turns grant (started_run grant P B) n).bench (after_turns grant (started_run grant P B') n').bench) e
      (after_same grant (started_run grant P B) (started_run grant P B') s n).alike-benches;
}
  where
    o : SameRunStart (start_run grant P B) (start_run grant P B')
    o = run-start-ignores-unmarked grant P B B' t

    s : SameRunning (started_run grant P B) (started_run grant P B')
    s = record { same-run = o.same-run; alike-benches = o.alike-after }

    n : ℕ
    n = steps (shape (job_of grant P B))

    e : n ≡ steps (shape (job_of grant P B'))
    e = ap₂ (λ (m : Machine) (mem : List ℕ). steps (shape (record { parameters = parameters grant m; plan = P; memory = mem }))) t.alike.same-machine t.same_memory
