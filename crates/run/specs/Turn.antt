-- A turn: a step is asked for and, if one is handed out, carried out with the run's own scalars.
use Rattle.std.specs.Prelude.{◌∷◌, ◌+◌}
use Rattle.numbers.specs.Kit.{Bool, true, cond, List, [], Option, none, some, Option·getD, ℕ, zero, suc, Result, Ok, Err}
use Rattle.machine.specs.declared.Machine.{Machine}
use Rattle.machine.specs.declared.Refusal.{Refusal}
use Rattle.machine.specs.declared.Refusal.TheVariants.{BadArguments}
use Rattle.machine.specs.declared.Reply.{Reply}
use Rattle.machine.specs.Answers.{reply, done, Done}
use Rattle.numbers.specs.Blocks.{Choice, chunks}
use Rattle.machine.specs.Tests.{every, is_in}
use Rattle.machine.specs.Geometry.{Parameters, parameters_of, permitted}
use Rattle.machine.specs.Starting.{is_rule}
use Rattle.machine.specs.Setting.{max_m, max_k, max_n}
use Rattle.machine.specs.Geometry.{Range, Bench, bench_of}
use Rattle.machine.specs.Step.{Outcome, step_by}
use Rattle.run.specs.declared.Place.{Place}
use Rattle.run.specs.declared.Place.TheVariants.{AtType, AtM, AtN, AtClear, AtK, AtA, AtB, AtMultiply, AtStore, AtEnd}
use Rattle.run.specs.declared.Run.{Run}
use Rattle.run.specs.declared.Handed.{Handed}
use Rattle.run.specs.declared.Asked.{Asked}
use Rattle.run.specs.declared.Turned.{Turned}
use Rattle.run.specs.declared.Taken.{Taken}
use Rattle.run.specs.Words.{Op, Shape, steps}
use Rattle.run.specs.Places.{next, word_at}
use Rattle.run.specs.Encoding.{own, plain, handed_for}
use Rattle.run.specs.Plan.{type_of}
use Rattle.run.specs.Start.{planned}

-- ---- asking for a step

-- the blocks that a run goes by: those of the machine that it was started on, by its rule
abbrev pub run_parameters : Choice → Run → Parameters
run_parameters grant R = parameters_of (grant R.rule) R.rlen R.mlen R.elen

abbrev pub run_shape : Choice → Run → Shape
run_shape grant R = record {
  grant = grant R.rule;
  tm = max_m (run_parameters grant R) (type_of R.plan);
  tk = max_k (run_parameters grant R) (type_of R.plan);
  tn = max_n (run_parameters grant R) (type_of R.plan);
  m = R.plan.m;
  k = R.plan.k;
  n = R.plan.n;
}

-- a block of rows starts at row i; one of columns at column j; one of terms at term s
abbrev pub starts_m : Shape → ℕ → Bool
starts_m S i = is_in i (chunks S.grant S.tm S.m 0)

abbrev pub starts_n : Shape → ℕ → Bool
starts_n S j = is_in j (chunks S.grant S.tn S.n 0)

abbrev pub starts_k : Shape → ℕ → Bool
starts_k S s = is_in s (chunks S.grant S.tk S.k 0)

-- blocks start at the place's row, column and term: "Blocks rise .. and each asked size is the rest", so these are the places that a
-- run comes to
abbrev pub begins : Shape → Place → Bool
begins S AtType = true
begins S (AtM i) = starts_m S i
begins S (AtN i j) = every (starts_m S i ∷ starts_n S j ∷ [])
begins S (AtClear i j) = every (starts_m S i ∷ starts_n S j ∷ [])
begins S (AtK i j s) = every (starts_m S i ∷ starts_n S j ∷ starts_k S s ∷ [])
begins S (AtA i j s) = every (starts_m S i ∷ starts_n S j ∷ starts_k S s ∷ [])
begins S (AtB i j s) = every (starts_m S i ∷ starts_n S j ∷ starts_k S s ∷ [])
begins S (AtMultiply i j s) = every (starts_m S i ∷ starts_n S j ∷ starts_k S s ∷ [])
begins S (AtStore i j) = every (starts_m S i ∷ starts_n S j ∷ [])
begins S AtEnd = true

-- numbers that a run can hold, at a place that a start and its turns can have made; one that holds others hands out nothing
unfoldable pub sound_run : Choice → Run → Bool
sound_run grant R = every (
    permitted R.rlen R.mlen R.elen
    ∷ is_rule R.rule
    ∷ planned R.elen R.plan
    ∷ begins (run_shape grant R) R.place ∷ [])

-- the next word: none past the last, and none of a run that no start and turns can have made
abbrev pub word_handed_out : Choice → Run → Option Op
word_handed_out grant R = cond (sound_run grant R) (word_at (run_shape grant R) R.place) none

-- "there are 1 + M(1 + N(3 + 4K)) steps", wherever the run has come to; none of a run that no start and turns can have made
abbrev pub steps_in : Choice → Run → ℕ
steps_in grant R = cond (sound_run grant R) (steps (run_shape grant R)) 0

-- the run once a step is handed out
abbrev pub moved : Choice → Run → Run
moved grant R = record { plan = R.plan; rlen = R.rlen; mlen = R.mlen; rule = R.rule; elen = R.elen; place = next (run_shape grant R) R.place }

-- what asking gives: 0, a step and the run at the next place; or, past the last, 8 and the run as it was
pub record Ask : Type 0 where
  pub answer : Reply
  pub handed : Option Handed
  pub run : Run

-- "Steps are handed out one at a time .. asking past the last gives 8."
abbrev pub ask : Choice → Run → Ask
ask grant R = elim (word_handed_out grant R) [
  | none ↦ record { answer = reply (Err BadArguments); handed = none; run = R }
  | some o ↦ record { answer = reply Done; handed = some (handed_for R.plan o); run = moved grant R }
]

-- what the function `next`, asked of run R, returns: the answer, the step or all zeros where there is none, and the run
pub record AskOutcome : Type 0 where
  pub answer : Reply
  pub handed : Handed
  pub run : Run

abbrev pub asked : Ask → AskOutcome
asked a = record { answer = a.answer; handed = Option·getD a.handed (plain 0); run = a.run }

abbrev pub asked_as : Run → Result Asked Refusal → AskOutcome
asked_as R (Ok a) = record { answer = reply Done; handed = a.handed; run = a.run }
asked_as R (Err r) = record { answer = reply (Err r); handed = plain 0; run = R }

-- ---- a turn

-- "Each turn gets the machine, the memory and the place in the run as the start or the turn before left them"
pub record Running : Type 0 where
  pub run : Run
  pub bench : Bench

abbrev pub running : Run → Bench → Running
running R B = record { run = R; bench = B }

pub record Turn : Type 0 where
  pub answer : Reply
  pub handed : Option Handed
  pub after : Running

-- "In a turn a step is asked for and, if one is handed out, carried out with the run's own scalars." A step that is refused leaves
-- the place where it was too: "A refusal changes nothing lent or held."
abbrev pub turn : Choice → Running → Turn
turn grant r =
    let a : Ask = ask grant r.run in
    elim a.handed [
      | none ↦ record { answer = a.answer; handed = none; after = r }
      | some h ↦ let out : Outcome = step_by grant h.word (own h) r.bench in
          record { answer = out.answer; handed = some h; after = running (cond (done out.answer) a.run r.run) out.bench }
    ]

-- after t turns
abbrev pub after_turns : Choice → Running → ℕ → Running
after_turns grant r zero = r
after_turns grant r (suc t) = (turn grant (after_turns grant r t)).after

-- "The count .. is the number of turns answered 0."
abbrev pub answered_done : Choice → Running → ℕ → ℕ
answered_done grant r zero = 0
answered_done grant r (suc t) = answered_done grant r t + cond (done (turn grant (after_turns grant r t)).answer) 1 0

-- ---- what the functions `turn` and `turns`, of run R and machine m, return and leave

pub record TurnOutcome : Type 0 where
  pub answer : Reply
  pub after : Running

abbrev pub turn_outcome : Choice → Running → TurnOutcome
turn_outcome grant r = record { answer = (turn grant r).answer; after = (turn grant r).after }

abbrev pub turned_as : Run → Machine → Result Turned Refusal → List Range → (registers marks memory : List ℕ) → TurnOutcome
turned_as R m (Ok t) seals registers marks memory = record { answer = reply Done; after = running t.run (bench_of t.machine seals registers marks memory) }
turned_as R m (Err r) seals registers marks memory = record { answer = reply (Err r); after = running R (bench_of m seals registers marks memory) }

pub record TurnsOutcome : Type 0 where
  pub count : ℕ
  pub after : Running

-- n times a turn: how many of them were answered 0, and what the last one left
abbrev pub turns : Choice → Running → ℕ → TurnsOutcome
turns grant r n = record { count = answered_done grant r n; after = after_turns grant r n }

abbrev pub taken_as : Taken → List Range → (registers marks memory : List ℕ) → TurnsOutcome
taken_as r seals registers marks memory = record { count = r.count; after = running r.run (bench_of r.machine seals registers marks memory) }
