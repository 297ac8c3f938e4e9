-- Request Nine, of product runs: the start of a plan, turns, and a whole run on two machines that differ at most in unmarked register
-- bytes. Asking for a step (`ask`) is given the run and no machine, so equal runs are asked alike.
use Rattle.std.specs.Prelude.{◌≡◌}
use Rattle.numbers.specs.Kit.{ℕ}
use Rattle.numbers.specs.Blocks.{Choice}
use Rattle.machine.specs.Geometry.{Bench}
use Rattle.run.specs.declared.Plan.{Plan}
use Rattle.run.specs.Start.{RunStart, start_run}
use Rattle.run.specs.Turn.{Running, Turn, turn, after_turns, TurnsOutcome, turns}
use Rattle.run.specs.Whole.{WholeOutcome, whole}
use Rattle.theorem_powerup.specs.Steps.{AlikeBenches}

-- ---- the start

-- equal answers, with equal runs
pub record SameRunStart (s s' : RunStart) : Type 0 where
  pub same_answer : s.answer ≡ s'.answer
  pub same-run : s.run ≡ s'.run
  pub alike-after : AlikeBenches s.bench s'.bench

abbrev pub RunStartIgnoresUnmarked : Type 0
RunStartIgnoresUnmarked = (grant : Choice) (P : Plan) (B B' : Bench) → AlikeBenches B B'
    → SameRunStart (start_run grant P B) (start_run grant P B')

-- ---- turns, refused ones and those past the end included

-- equal runs, on machines that differ at most in unmarked register bytes
pub record SameRunning (r r' : Running) : Type 0 where
  pub same-run : r.run ≡ r'.run
  pub alike-benches : AlikeBenches r.bench r'.bench

-- equal answers and steps handed out
pub record SameTurn (t t' : Turn) : Type 0 where
  pub same_answer : t.answer ≡ t'.answer
  pub same-handed : t.handed ≡ t'.handed
  pub same_after : SameRunning t.after t'.after

-- equal numbers of turns answered 0
pub record SameTurns (o o' : TurnsOutcome) : Type 0 where
  pub same_count : o.count ≡ o'.count
  pub same_after : SameRunning o.after o'.after

-- n turns, and the turn after them, of any run, also one that no start made
abbrev pub TurnsIgnoreUnmarked : Type 0
TurnsIgnoreUnmarked = (grant : Choice) (r r' : Running) → SameRunning r r'
    → (n : ℕ) → SameTurns (turns grant r n) (turns grant r' n) × SameTurn (turn grant (after_turns grant r n)) (turn grant (after_turns grant r' n))

-- ---- a whole run

-- equal answers and counts
pub record SameWhole (o o' : WholeOutcome) : Type 0 where
  pub same_answer : o.answer ≡ o'.answer
  pub same_count : o.count ≡ o'.count
  pub alike-after : AlikeBenches o.bench o'.bench

abbrev pub WholeIgnoresUnmarked : Type 0
WholeIgnoresUnmarked = (grant : Choice) (P : Plan) (B B' : Bench) → AlikeBenches B B' → SameWhole (whole grant P B) (whole grant P B')
