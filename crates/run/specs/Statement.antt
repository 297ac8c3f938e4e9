-- Demand 3, the statement: when a start is accepted and what it answers otherwise, and what holds after any number of turns.
use Rattle.std.specs.Prelude.{◌≡◌, ◌⊎◌, ◌*◌, ◌^◌, ◌≤◌, ◌<◌, ◌+ℤ◌}
use Rattle.numbers.specs.Kit.{true, List, Option, none, some, ℕ, suc, min, length, get_or, ℤ, pos}
use Rattle.numbers.specs.Tile.{In}
use Rattle.numbers.specs.Blocks.{Choice, EachGrants}
use Rattle.machine.specs.declared.Reply.{Reply}
use Rattle.machine.specs.Geometry.{Range, sealed, parameters, Bench}
use Rattle.machine.specs.Setting.{smaller, halving, chosen}
use Rattle.machine.specs.Memory.{row_z}
use Rattle.machine.specs.Operation.{element}
use Rattle.machine.specs.Faults.{sound_bench}
use Rattle.run.specs.declared.Plan.{Plan}
use Rattle.run.specs.declared.Run.{Run}
use Rattle.run.specs.declared.Handed.{Handed}
use Rattle.run.specs.Words.{steps}
use Rattle.run.specs.Plan.{Job, OutsideKept, shape, narrow, wide, a_at, b_at, c_at, a_rows, a_columns, product_of}
use Rattle.run.specs.Start.{start_run}
use Rattle.run.specs.Encoding.{word_list, word_of}
use Rattle.run.specs.Turn.{steps_in, Ask, ask, Running, Turn, turn, after_turns, answered_done}

-- ---- when a start is accepted

-- 8: the state is not at fault (machine/specs/Faults.antt), SEW is 8, 16, 32 or 64, f is 1, 2 or 4, f x SEW is at most ELEN, no size is
-- above 1,024, and the kind is 0, 1 or 2, with SEW 32 and f = 1 where it is 2
pub record Numbers (P : Plan) (B : Bench) : Type 0 where
  pub no-fault : sound_bench B ≡ true
  pub sew-is : (P.sew ≡ 8) ⊎ ((P.sew ≡ 16) ⊎ ((P.sew ≡ 32) ⊎ (P.sew ≡ 64)))
  pub factor-is : (P.factor ≡ 1) ⊎ ((P.factor ≡ 2) ⊎ (P.factor ≡ 4))
  pub width_fits : P.factor * P.sew ≤ B.machine.elen
  pub m-fits : P.m ≤ 1024
  pub k-fits : P.k ≤ 1024
  pub n-fits : P.n ≤ 1024
  pub kind_fits : P.kind ≤ 2
  pub float_fits : P.kind ≡ 2 → (P.sew ≡ 32) × (P.factor ≡ 1)

-- a place in a memory of len bytes
abbrev pub Lies : ℕ → ℤ → Type 0
Lies len z = (p : ℕ) × (z ≡ pos p) × (p < len)

-- 6: every byte of every row of A, B and C lies in memory
pub record Inside (P : Plan) (mem : List ℕ) : Type 0 where
  pub a-lies : (i b : ℕ) → i < a_rows P → b < a_columns P * narrow P → Lies (length mem) (row_z P.a.address P.a.stride i +ℤ pos b)
  pub b-lies : (i b : ℕ) → i < P.k → b < P.n * narrow P → Lies (length mem) (row_z P.b.address P.b.stride i +ℤ pos b)
  pub c-lies : (i b : ℕ) → i < P.m → b < P.n * wide P → Lies (length mem) (row_z P.c.address P.c.stride i +ℤ pos b)

-- 9: no byte q lies in two rows of C, in a row of A or B and one of C, or in a row of C and a sealed range
pub record Separate (seals : List Range) (P : Plan) : Type 0 where
  pub rows : (i k q : ℕ) → i < k → k < P.m → In (c_at P i) (P.n * wide P) q → ¬ In (c_at P k) (P.n * wide P) q
  pub from-a : (i k q : ℕ) → i < a_rows P → k < P.m → In (a_at P i) (a_columns P * narrow P) q → ¬ In (c_at P k) (P.n * wide P) q
  pub from-b : (i k q : ℕ) → i < P.k → k < P.m → In (b_at P i) (P.n * narrow P) q → ¬ In (c_at P k) (P.n * wide P) q
  pub from-seal : (i q : ℕ) → i < P.m → In (c_at P i) (P.n * wide P) q → ¬ (sealed seals q ≡ true)

-- the answer to a start: "Answer 8 for .. then 6 for an element outside memory; then 9", and 0 exactly where all three hold
pub record Answered (P : Plan) (B : Bench) (a : Reply) : Type 0 where
  pub gives-0 : Numbers P B → Inside P B.memory → Separate B.seals P → a.number ≡ 0
  pub only_then : a.number ≡ 0 → Numbers P B × Inside P B.memory × Separate B.seals P
  pub gives-8 : ¬ Numbers P B → a.number ≡ 8
  pub gives-6 : Numbers P B → ¬ Inside P B.memory → a.number ≡ 6
  pub gives-9 : Numbers P B → Inside P B.memory → ¬ Separate B.seals P → a.number ≡ 9

-- ---- what asking and a turn answer, hand out and leave

pub record Asks (a : Ask) (n : ℕ) (handed : Option Handed) (after : Run) : Type 0 where
  pub answers : a.answer.number ≡ n
  pub hands_out : a.handed ≡ handed
  pub leaves : a.run ≡ after

pub record Turns (u : Turn) (n : ℕ) (handed : Option Handed) (after : Running) : Type 0 where
  pub answers : u.answer.number ≡ n
  pub hands_out : u.handed ≡ handed
  pub leaves : u.after ≡ after

-- ---- after t turns

abbrev pub job_of : Choice → Plan → Bench → Job
job_of grant P B = record { parameters = parameters grant B.machine; plan = P; memory = B.memory }

-- the run as it was started
abbrev pub started_run : Choice → Plan → Bench → Running
started_run grant P B = record { run = (start_run grant P B).run; bench = (start_run grant P B).bench }

pub record Right (grant : Choice) (J : Job) (r : Running) (t : ℕ) : Type 0 where
  -- "Turns 1 to s each hand out one step, the next of the words above in their order, and it is answered 0."
  pub next-done : t < steps (shape J) → Turns (turn grant (after_turns grant r t)) 0 (some (word_of J t)) (after_turns grant r (suc t))
  -- "Every later turn gives 8 and changes nothing."
  pub past_end : steps (shape J) ≤ t → Turns (turn grant (after_turns grant r t)) 8 none (after_turns grant r t)
  -- "Steps are handed out one at a time": asking hands out the step that the turn would, and moves the run as the turn would
  pub asks : t < steps (shape J) → Asks (ask grant (after_turns grant r t).run) 0 (some (word_of J t)) (after_turns grant r (suc t)).run
  -- "asking past the last gives 8"
  pub asks-past-end : steps (shape J) ≤ t → Asks (ask grant (after_turns grant r t).run) 8 none (after_turns grant r t).run
  -- "After each turn the memory outside C's elements is as at the start."
  pub kept : OutsideKept J (after_turns grant r t).bench.memory
  -- "After turn s and each later one, C(i, j) is the sum .."
  pub product : steps (shape J) ≤ t → (i j : ℕ) → i < J.plan.m → j < J.plan.n
      → element (after_turns grant r t).bench.memory (c_at J.plan) (wide J.plan) i j ≡ product_of J i j
  -- the number of turns answered 0
  pub count : answered_done grant r t ≡ min t (steps (shape J))
  -- the number of steps that the run tells of itself
  pub tells : steps_in grant (after_turns grant r t).run ≡ steps (shape J)

-- after a refused start: the turns have changed nothing, the next gives 8, hands out nothing and changes nothing, and so does asking
pub record Idle (grant : Choice) (r : Running) (t : ℕ) : Type 0 where
  pub unchanged : after_turns grant r t ≡ r
  pub no-turn : Turns (turn grant (after_turns grant r t)) 8 none r
  pub no_step : Asks (ask grant (after_turns grant r t).run) 8 none r.run
  pub no-count : answered_done grant r t ≡ 0
  pub tells_none : steps_in grant (after_turns grant r t).run ≡ 0

-- ---- demand 3, of a plan and a bench

pub record RunFromStart (grant : Choice) (P : Plan) (B : Bench) : Type 0 where
  -- when the start gives 0, 8, 6 and 9
  pub answered : Answered P B (start_run grant P B).answer
  -- "The start itself, accepted or refused, changes neither machine nor memory."
  pub unchanged : (start_run grant P B).bench ≡ B
  -- "there are 1 + M(1 + N(3 + 4K)) steps"
  pub as_many : (start_run grant P B).answer.number ≡ 0 → length (word_list (job_of grant P B)) ≡ steps (shape (job_of grant P B))
  -- from an accepted start on, after any number of turns
  pub turns : (start_run grant P B).answer.number ≡ 0 → (t : ℕ) → Right grant (job_of grant P B) (started_run grant P B) t
  -- and from a refused one on
  pub idle : ¬ ((start_run grant P B).answer.number ≡ 0) → (t : ℕ) → Idle grant (started_run grant P B) t

-- ---- demand 3

-- a slice of bytes
pub record MemoryBytes (mem : List ℕ) : Type 0 where
  pub below : (q : ℕ) → get_or mem q 0 < 256
  pub addressed : length mem ≤ 2 ^ 64

-- 02, Eight: "once over every choice that keeps the three constraints of source document 001": for every choice of sizes under them, one for
-- each rule, every plan, machine and state, and every memory that is a slice of bytes
abbrev pub RunsAreRight : Type 0
RunsAreRight = (grant : Choice) → EachGrants grant → (P : Plan) (B : Bench) → MemoryBytes B.memory → RunFromStart grant P B

-- "then name our two": for our choice of sizes; a machine of rule 0 goes by the smaller size, one of rule 1 by halving
abbrev pub OurRunsAreRight : Type 0
OurRunsAreRight = (P : Plan) (B : Bench) → MemoryBytes B.memory → RunFromStart chosen P B

abbrev pub SmallerRunsAreRight : Type 0
SmallerRunsAreRight = (P : Plan) (B : Bench) → B.machine.rule ≡ 0 → MemoryBytes B.memory
    → ((shape (job_of chosen P B)).grant ≡ smaller) × RunFromStart chosen P B

abbrev pub HalvingRunsAreRight : Type 0
HalvingRunsAreRight = (P : Plan) (B : Bench) → B.machine.rule ≡ 1 → MemoryBytes B.memory
    → ((shape (job_of chosen P B)).grant ≡ halving) × RunFromStart chosen P B
