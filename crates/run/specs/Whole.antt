-- A whole product run: a start, and as many turns as there are steps; and what a customer is told of it.
use Rattle.std.specs.Prelude.{◌≡◌, ◌<◌}
use Rattle.numbers.specs.Kit.{Result, Ok, Err, List, ℕ}
use Rattle.numbers.specs.Blocks.{Choice}
use Rattle.machine.specs.declared.Machine.{Machine}
use Rattle.machine.specs.declared.Refusal.{Refusal}
use Rattle.machine.specs.declared.Reply.{Reply}
use Rattle.machine.specs.Answers.{Done, reply}
use Rattle.machine.specs.Geometry.{Range, Bench, bench_of}
use Rattle.machine.specs.Setting.{chosen}
use Rattle.machine.specs.Operation.{element}
use Rattle.run.specs.declared.Plan.{Plan}
use Rattle.run.specs.declared.Finished.{Finished}
use Rattle.run.specs.Words.{steps}
use Rattle.run.specs.Plan.{OutsideKept, shape, wide, c_at, product_of}
use Rattle.run.specs.Start.{start_run}
use Rattle.run.specs.Turn.{turns}
use Rattle.run.specs.Statement.{Answered, MemoryBytes, job_of, started_run}

pub record WholeOutcome : Type 0 where
  pub answer : Reply
  pub count : ℕ
  pub bench : Bench

-- a start, then as many turns as there are steps; the run of a refused start hands out nothing
abbrev pub whole : Choice → Plan → Bench → WholeOutcome
whole grant P B = record {
  answer = (start_run grant P B).answer;
  count = (turns grant (started_run grant P B) (steps (shape (job_of grant P B)))).count;
  bench = (turns grant (started_run grant P B) (steps (shape (job_of grant P B)))).after.bench;
}

-- what the function `whole`, of machine m, returned and left
abbrev pub finished_as : Machine → Result Finished Refusal → List Range → (registers marks memory : List ℕ) → WholeOutcome
finished_as m (Ok f) seals registers marks memory = record { answer = reply Done; count = f.count; bench = bench_of f.machine seals registers marks memory }
finished_as m (Err r) seals registers marks memory = record { answer = reply (Err r); count = 0; bench = bench_of m seals registers marks memory }

-- The customer's sentence, of a plan, the bench at entry, and what came back
pub record Delivers (P : Plan) (B : Bench) (o : WholeOutcome) : Type 0 where
  -- when the answer is 0, 8, 6 and 9
  pub answered : Answered P B o.answer
  -- "A refusal changes nothing lent or held."
  pub refused : ¬ (o.answer.number ≡ 0) → (o.count ≡ 0) × (o.bench ≡ B)
  -- "there are 1 + M(1 + N(3 + 4K)) steps"
  pub counted : o.answer.number ≡ 0 → o.count ≡ steps (shape (job_of chosen P B))
  -- "C(i, j) is the sum, for l from 0 to k - 1, of A(i, l) x B(l, j), reduced to f x SEW bits in two's complement", or of a float run "bit for bit,
  -- the plain sum from +0 in rising k", of the memory at entry
  pub product : o.answer.number ≡ 0 → (i j : ℕ) → i < P.m → j < P.n
      → element o.bench.memory (c_at P) (wide P) i j ≡ product_of (job_of chosen P B) i j
  -- "the memory outside C's elements is as at the start"
  pub kept : OutsideKept (job_of chosen P B) o.bench.memory

-- for every plan, machine and state, and every memory that is a slice of bytes
abbrev pub WholeDelivers : Type 0
WholeDelivers = (P : Plan) (B : Bench) → MemoryBytes B.memory → Delivers P B (whole chosen P B)
