-- Demands 1 and 2 where product runs are made. The proofs stand in proofs/.
use Rattle.std.specs.Prelude.{◌≡◌}
use Rattle.numbers.specs.Kit.{true, List, none, ℕ, get_or}
use Rattle.numbers.specs.Blocks.{Choice}
use Rattle.machine.specs.Geometry.{Range, sealed, Bench, bench_of}
use Rattle.machine.specs.Starting.{ranges, start_machine}
use Rattle.machine.specs.Vectors.{Vectors}
use Rattle.machine.specs.Theorems.{started_bench, Extends, Unharmed}
use Rattle.run.specs.declared.Plan.{Plan}
use Rattle.run.specs.declared.Run.{Run}
use Rattle.run.specs.Start.{start_run}
use Rattle.run.specs.Turn.{ask, Running, turn, turns}
use Rattle.run.specs.Whole.{whole}
use Rattle.run.specs.Acts.{Act, Session, session, after_acts, lent_last}

-- ---- demand 1: "A refusal changes nothing lent or held." For every choice of sizes, run, machine, state and memory; also for runs that
-- no start made

-- a start changes neither machine nor memory, accepted or refused
abbrev pub RunStartChangesNothing : Type 0
RunStartChangesNothing = (grant : Choice) (P : Plan) (B : Bench) → (start_run grant P B).bench ≡ B

-- asking that is not answered 0 hands out nothing and leaves the run
abbrev pub AskRefusalChangesNothing : Type 0
AskRefusalChangesNothing = (grant : Choice) (R : Run) → ¬ ((ask grant R).answer.number ≡ 0)
    → ((ask grant R).handed ≡ none) × ((ask grant R).run ≡ R)

-- a turn that is not answered 0 leaves the run, the machine, its registers and marks, and the memory
abbrev pub TurnRefusalChangesNothing : Type 0
TurnRefusalChangesNothing = (grant : Choice) (r : Running) → ¬ ((turn grant r).answer.number ≡ 0) → (turn grant r).after ≡ r

-- and so do n turns of which none is answered 0
abbrev pub NoTurnChangesNothing : Type 0
NoTurnChangesNothing = (grant : Choice) (r : Running) (n : ℕ) → (turns grant r n).count ≡ 0 → (turns grant r n).after ≡ r

-- a whole run that is not answered 0 takes no turn that is done, and changes nothing
abbrev pub WholeRefusalChangesNothing : Type 0
WholeRefusalChangesNothing = (grant : Choice) (P : Plan) (B : Bench) → ¬ ((whole grant P B).answer.number ≡ 0)
    → ((whole grant P B).count ≡ 0) × ((whole grant P B).bench ≡ B)

-- ---- demand 2: no sealed byte changes, over any list of words, run starts, asking, turns, whole runs and ranges added

-- 02, Twelve: "a byte changes at no step after its sealing". From any moment on: the ranges stay, and the bytes that are sealed at that
-- moment are, after any acts, those of the memory that was lent last
abbrev pub SealHoldsOverActs : Type 0
SealHoldsOverActs = (grant : Choice) (acts : List Act) (S : Session)
    → Unharmed grant (bench_of S.bench.machine S.bench.seals S.bench.registers S.bench.marks (lent_last acts S.bench.memory))
    (after_acts grant acts S).bench

-- a bench that holds these ranges, those it was given first, and whose bytes in them are those of this memory
pub record SealKept (seals : List Range) (memory : List ℕ) (B : Bench) : Type 0 where
  pub ranges-stay : Extends seals B.seals
  pub same_bytes : (q : ℕ) → sealed seals q ≡ true → get_or B.memory q 0 ≡ get_or memory q 0

-- and from a started machine, with any scalars and vector file and whatever run was there before: the ranges that it was started with
abbrev pub SealHoldsOverActsFromStart : Type 0
SealHoldsOverActsFromStart = (grant : Choice) (rlen mlen elen rule : ℕ) (seals registers marks memory scalars : List ℕ) (W : Vectors) (R : Run)
    → (start_machine rlen mlen elen rule seals registers marks).answer.number ≡ 0 → (acts : List Act)
    → SealKept (ranges seals) (lent_last acts memory)
    (after_acts grant acts (session (started_bench rlen mlen elen rule seals registers marks memory) scalars W R)).bench
