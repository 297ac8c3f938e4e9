-- What is proved of the ranges that a machine holds, and of one that is added while a run is being made. The proofs stand in proofs/.
use Rattle.std.specs.Prelude.{◌≡◌, ◌⊎◌, ◌∷◌, ◌++◌, ◌≤◌}
use Rattle.numbers.specs.Kit.{cond, List, [], ℕ}
use Rattle.numbers.specs.Blocks.{Choice}
use Rattle.machine.specs.Geometry.{Range, range, bench_of}
use Rattle.machine.specs.Answers.{done}
use Rattle.machine.specs.Sealing.{add_seal}
use Rattle.run.specs.Acts.{Act, Session, act, after_acts}
use Rattle.run.specs.Turn.{Running, running, turn, after_turns}

-- ---- which ranges a machine holds

-- the range that an act adds: that of a sealing which is answered 0
abbrev pub added_by : Choice → Act → Session → List Range
added_by grant (Act.lend scalars W memory) S = []
added_by grant (Act.step word) S = []
added_by grant (Act.run_start P) S = []
added_by grant Act.run_next S = []
added_by grant Act.run_turn S = []
added_by grant (Act.run_turns n) S = []
added_by grant (Act.run P) S = []
added_by grant (Act.seal from size) S = cond (done (act grant (Act.seal from size) S).answer) (range from size ∷ []) []

abbrev pub added_over : Choice → List Act → Session → List Range
added_over grant [] S = []
added_over grant (a ∷ acts) S = added_by grant a S ++ added_over grant acts (act grant a S).after

-- 02, Twelve: "a range may be added between steps but never taken off", "in order of entry": after any acts the machine holds the ranges of
-- before and, behind them, those that were accepted since, and no other
abbrev pub RangesAreExact : Type 0
RangesAreExact = (grant : Choice) (acts : List Act) (S : Session)
    → (after_acts grant acts S).bench.seals ≡ S.bench.seals ++ added_over grant acts S

-- ---- a range that is added during a run

-- a run on a machine that holds these ranges
abbrev pub under : List Range → Running → Running
under seals r =
    running r.run (bench_of r.bench.machine seals r.bench.registers r.bench.marks r.bench.memory)

-- 02, Twelve: "Demand 3 speaks of runs in which none is added." A range that is added can have a later turn refused with 7, and changes nothing
-- else. After t turns the run is where it would be without the range after so many of them; the next turn hands out the same step, and is
-- answered as without the range, or gets 7 and leaves everything; so many are all t, or it gets 7
pub record RefusesOnly (grant : Choice) (seals : List Range) (r s : Running) (t : ℕ) : Type 0 where
  pub turns : ℕ
  pub no_more : turns ≤ t
  pub as-without : after_turns grant s t ≡ under seals (after_turns grant r turns)
  pub same_step : (turn grant (after_turns grant s t)).handed ≡ (turn grant (after_turns grant r turns)).handed
  pub same-or-seven : ((turn grant (after_turns grant s t)).answer ≡ (turn grant (after_turns grant r turns)).answer)
      ⊎ (((turn grant (after_turns grant s t)).answer.number ≡ 7) × ((turn grant (after_turns grant s t)).after ≡ after_turns grant s t))
  pub all-or-seven : (turns ≡ t) ⊎ ((turn grant (after_turns grant s t)).answer.number ≡ 7)

-- for every choice of sizes, run, state and memory, and every range that is added
abbrev pub AddedRangeRefusesOnly : Type 0
AddedRangeRefusesOnly = (grant : Choice) (r : Running) (start size : ℕ)
    → let o = add_seal start size r.bench in
    o.answer.number ≡ 0 → (t : ℕ) → RefusesOnly grant o.bench.seals r (running r.run o.bench) t
