-- What is done with a started machine, one act after another: words, product runs, asking for a run's steps, and sealing further ranges.
use Rattle.std.specs.Prelude.{◌∷◌}
use Rattle.numbers.specs.Kit.{cond, List, [], Option, none, ℕ}
use Rattle.numbers.specs.Blocks.{Choice}
use Rattle.machine.specs.declared.Reply.{Reply}
use Rattle.machine.specs.Answers.{reply, done, Done}
use Rattle.machine.specs.Geometry.{Bench, bench_of}
use Rattle.machine.specs.Vectors.{Vectors, vectors_of}
use Rattle.machine.specs.Sealing.{SealOutcome, add_seal}
use Rattle.machine.specs.Step.{VectorOutcome, step_with}
use Rattle.run.specs.declared.Plan.{Plan}
use Rattle.run.specs.declared.Run.{Run}
use Rattle.run.specs.declared.Handed.{Handed}
use Rattle.run.specs.Start.{RunStart, start_run}
use Rattle.run.specs.Turn.{Ask, ask, Turn, turn, running, TurnsOutcome, turns}
use Rattle.run.specs.Whole.{WholeOutcome, whole}

-- other scalars, another vector file and memory are lent; a word is stepped; a product run is started; its next step is asked for; it
-- takes a turn, or n turns; a whole product run is made; a range is sealed
pub data Act : Type 0 where
  lend : (scalars : List ℕ) → Vectors → (memory : List ℕ) → Act
  step : (word : ℕ) → Act
  run_start : Plan → Act
  run_next : Act
  run_turn : Act
  run_turns : (n : ℕ) → Act
  run : Plan → Act
  seal : (start size : ℕ) → Act

-- the machine with its memory, the scalars, the vector file, which no run uses, and the run that was started last; a refused start leaves it
pub record Session : Type 0 where
  pub bench : Bench
  pub scalars : List ℕ
  pub lent : Vectors
  pub run : Run

abbrev pub session : Bench → List ℕ → Vectors → Run → Session
session B xs W R = record { bench = B; scalars = xs; lent = W; run = R }

-- what an act answers, the step it hands out and the turns it counts, and what it leaves
pub record Acted : Type 0 where
  pub answer : Reply
  pub handed : Option Handed
  pub count : ℕ
  pub after : Session

abbrev pub acted : Reply → Option Handed → ℕ → Session → Acted
acted answer handed count after = record { answer = answer; handed = handed; count = count; after = after }

module _ (grant : Choice) where
  -- turns in number are counted, not answered
  abbrev pub act : Act → Session → Acted
  act (Act.lend xs W memory) S = acted (reply Done) none 0 (session (bench_of S.bench.machine S.bench.seals S.bench.registers S.bench.marks memory) xs W S.run)
  act (Act.step word) S =
      let o : VectorOutcome = step_with grant word S.scalars S.lent S.bench in
      acted o.answer none 0 (session o.bench o.scalars (vectors_of o.vectors S.lent.group) S.run)
  act (Act.run_start P) S =
      let o : RunStart = start_run grant P S.bench in acted o.answer none 0 (session o.bench S.scalars S.lent (cond (done o.answer) o.run S.run))
  act Act.run_next S =
      let o : Ask = ask grant S.run in acted o.answer o.handed 0 (session S.bench S.scalars S.lent o.run)
  act Act.run_turn S =
      let o : Turn = turn grant (running S.run S.bench) in acted o.answer o.handed 0 (session o.after.bench S.scalars S.lent o.after.run)
  act (Act.run_turns n) S =
      let o : TurnsOutcome = turns grant (running S.run S.bench) n in acted (reply Done) none o.count (session o.after.bench S.scalars S.lent o.after.run)
  act (Act.run P) S =
      let o : WholeOutcome = whole grant P S.bench in acted o.answer none o.count (session o.bench S.scalars S.lent S.run)
  act (Act.seal start size) S =
      let o : SealOutcome = add_seal start size S.bench in acted o.answer none 0 (session o.bench S.scalars S.lent S.run)

-- after a list of acts, refused ones included
abbrev pub after_acts : Choice → List Act → Session → Session
after_acts grant [] S = S
after_acts grant (a ∷ acts) S = after_acts grant acts (act grant a S).after

-- the memory that is lent after an act, and after a list of acts: the one that was lent last
abbrev pub lent_by : Act → List ℕ → List ℕ
lent_by (Act.lend scalars W memory) lent = memory
lent_by (Act.step word) lent = lent
lent_by (Act.run_start P) lent = lent
lent_by Act.run_next lent = lent
lent_by Act.run_turn lent = lent
lent_by (Act.run_turns n) lent = lent
lent_by (Act.run P) lent = lent
lent_by (Act.seal start size) lent = lent

abbrev pub lent_last : List Act → List ℕ → List ℕ
lent_last [] lent = lent
lent_last (a ∷ acts) lent = lent_last acts (lent_by a lent)
