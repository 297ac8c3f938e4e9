-- Demand 3: the tiled product run, as one statement over any number of turns from its start.
use Rattle.std.specs.Prelude.{◌≡◌, ◌∷◌, ◌<◌}
use Rattle.numbers.specs.Kit.{[], ℕ, length}
use Rattle.machine.specs.declared.Reply.{Reply}
use Rattle.machine.specs.Operation.{element}
use Rattle.run.specs.declared.Plan.{Plan}
use Rattle.run.specs.Words.{steps}
use Rattle.run.specs.Plan.{OutsideKept, shape, wide, c_at, product_of}
use Rattle.run.specs.Statement.{Answered, MemoryBytes, OurRunsAreRight, RunsAreRight}
use Rattle.run.specs.Whole.{WholeDelivers}
use Rattle.c_blocks.specs.Blocks.{Bytes, put_numbers}
use Rattle.c_turn.specs.TurnCalls.{count_bytes}
use Rattle.theorem_calls.specs.Calls.{Buffers, Call, Called, called}
use Rattle.theorem_calls.specs.Composed.{bench_in, PlanWords, job_in, StartCallsAreRight, TurnCallsAreRight, TurnsAreTurnCalls, RunIsTurnCalls}

-- ---- over the C functions

-- a whole run in one call of bodlarina_run, as the customer is told of it (run/specs/Whole.antt: Delivers): when the result is 0, 8, 6 and 9; with 0
-- the number of steps is in the count's block and C is the product, of the memory at the call; and always the memory outside C is as it was
pub record RunCallDelivers (P : Plan) (b : Buffers) (o : Called) : Type 0 where
  pub answered : (a : Reply) × (o.result ≡ a.number) × Answered P (bench_in b) a
  pub refused : ¬ (o.result ≡ 0) → o.after ≡ b
  pub counted : o.result ≡ 0 → o.after.steps ≡ put_numbers (steps (shape (job_in P b)) ∷ []) b.steps
  pub product : o.result ≡ 0 → (i j : ℕ) → i < P.m → j < P.n → element o.after.memory (c_at P) (wide P) i j ≡ product_of (job_in P b) i j
  pub kept : OutsideKept (job_in P b) o.after.memory

-- for every machine's block of bytes (one of another length holds a state at fault); a count's block of another length gets 8, and nothing changes
abbrev pub RunCallsDeliver : Type 0
RunCallsDeliver = (P : Plan) (b : Buffers) → PlanWords P → Bytes b.machine → MemoryBytes b.memory
    → (length b.steps ≡ count_bytes → RunCallDelivers P b (called (Call.run P) b))
    × (¬ (length b.steps ≡ count_bytes) → called (Call.run P) b ≡ record { result = 8; after = b })

-- what bodlarina_run_start returns; from 0 on, what any number of calls of bodlarina_run_turn returns and leaves, and what bodlarina_run_next hands
-- out after them; bodlarina_run_turns as so many of these; bodlarina_run as a start and all of them
pub record RunCallsAreRight : Type 0 where
  pub start : StartCallsAreRight
  pub turns : TurnCallsAreRight
  pub many : TurnsAreTurnCalls
  pub whole : RunIsTurnCalls
  pub delivers : RunCallsDeliver

-- ---- the demand

pub record Demand3 : Type 0 where
  -- run/specs/Statement.antt: Demand3, for every plan, machine and state, and every memory of bytes
  pub runs : OurRunsAreRight
  -- 02, Eight: for every choice of sizes that keeps the draft's three constraints
  pub every-choice : RunsAreRight
  -- a start and all its turns
  pub whole-runs : WholeDelivers
  pub in_c : RunCallsAreRight
