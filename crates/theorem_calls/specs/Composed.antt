-- What holds over lists of calls of the C functions (include/bodlarina.h): demand 3 from bodlarina_run_start on, bodlarina_run_turns as
-- that many calls of bodlarina_run_turn, bodlarina_run as a start and all its turns, and demand 2. The proofs stand in proofs/.
use Rattle.std.specs.Prelude.{◌≡◌, ◌∷◌, ◌++◌, ◌+◌, ◌%◌, ◌^◌, ◌≤◌, ◌<◌}
use Rattle.numbers.specs.Kit.{true, cond, List, [], ℕ, suc, eqb, length, get_or, replicate}
use Rattle.machine.specs.declared.Reply.{Reply}
use Rattle.machine.specs.Geometry.{Range, range, sealed, Bench, bench_of}
use Rattle.machine.specs.Starting.{ranges}
use Rattle.machine.specs.Sealing.{add_seal}
use Rattle.machine.specs.Theorems.{Extends}
use Rattle.machine.specs.Setting.{chosen}
use Rattle.machine.specs.Operation.{element}
use Rattle.run.specs.declared.Plan.{Plan}
use Rattle.run.specs.declared.Handed.{Handed}
use Rattle.run.specs.Words.{steps}
use Rattle.run.specs.Plan.{Job, OutsideKept, shape, wide, c_at, product_of}
use Rattle.run.specs.Encoding.{word_of}
use Rattle.run.specs.Turn.{Running, after_turns}
use Rattle.run.specs.Statement as Demand
use Rattle.run.specs.Statement.{Answered, job_of, started_run}
use Rattle.run.specs.Theorems.{SealKept}
use Rattle.unit_ranges.specs.Ranges.{seals_in}
use Rattle.numbers_format.specs.Numbers as Images
use Rattle.image.specs.Reading.{read_image}
use Rattle.c_blocks.specs.Blocks.{Bytes, machine_bytes, machine_of, put_machine, put_numbers}
use Rattle.c_run_blocks.specs.RunBlocks.{run_bytes, put_run, plan_numbers, step_bytes, put_handed}
use Rattle.c_run.specs.RunCalls.{host_run_steps}
use Rattle.c_turn.specs.TurnCalls.{count_bytes}
use Rattle.theorem_calls.specs.Calls.{Buffers, buffers, Call, Called, called, calls}

-- ---- one call after another

-- the buffers after a list of calls, refused ones included
abbrev pub after_calls : List Call → Buffers → Buffers
after_calls [] b = b
after_calls (c ∷ cs) b = after_calls cs (called c b).after

-- t calls of bodlarina_run_turn
abbrev pub turn_calls : ℕ → List Call
turn_calls t = replicate t Call.run_turn

-- how many of the calls returned 0
abbrev pub zeros : List Called → ℕ
zeros [] = 0
zeros (o ∷ os) = cond (eqb o.result 0) 1 0 + zeros os

-- the machine in the buffers, with its ranges, registers, marks and memory
abbrev pub bench_in : Buffers → Bench
bench_in b = bench_of (machine_of b.machine) (seals_in b.machine) b.registers b.marks b.memory

-- ---- bodlarina_run_start

-- a plan's twelve numbers are uint64_t
abbrev pub PlanWords : Plan → Type 0
PlanWords P = (j : ℕ) → get_or (plan_numbers P ++ (P.kind ∷ [])) j 0 < 2 ^ 64

-- what a call of bodlarina_run_start returns and leaves: the number of an answer that is 0, 8, 6 or 9 exactly where demand 3 says so; and
-- no byte of any buffer but the run's block changes
pub record StartCall (P : Plan) (b : Buffers) (o : Called) : Type 0 where
  pub answered : (a : Reply) × (o.result ≡ a.number) × Answered P (bench_in b) a
  pub unchanged : o.after ≡ buffers b.machine b.registers b.marks b.scalars b.memory o.after.run b.step b.steps b.file
  -- "A refusal changes nothing lent or held.": the run's block too keeps what it held
  pub refused : ¬ (o.result ≡ 0) → o.after ≡ b

-- for every plan, every machine's block (one of another length holds a state at fault), and every memory that is a slice of bytes; a run's block of
-- another length gets 8, and nothing changes
abbrev pub StartCallsAreRight : Type 0
StartCallsAreRight = (P : Plan) (b : Buffers) → Demand.MemoryBytes b.memory
    → (length b.run ≡ run_bytes → StartCall P b (called (Call.run_start P) b))
    × (¬ (length b.run ≡ run_bytes) → called (Call.run_start P) b ≡ record { result = 8; after = b })

-- ---- demand 3: bodlarina_run_turn, from an accepted bodlarina_run_start on

-- the buffers with a run, a machine and what it is lent: the numbers of both are written over their blocks, the others stay
abbrev pub with : Running → Buffers → Buffers
with r b =
    buffers (put_machine r.bench.machine b.machine) r.bench.registers r.bench.marks b.scalars r.bench.memory
    (put_run r.run b.run) b.step b.steps b.file

-- the job of a plan on the buffers at the call of bodlarina_run_start
abbrev pub job_in : Plan → Buffers → Job
job_in P b = job_of chosen P (bench_in b)

-- the buffers after bodlarina_run_start on b and t calls of bodlarina_run_turn after it
abbrev pub after_turn_calls : Plan → Buffers → ℕ → Buffers
after_turn_calls P b t = after_calls (Call.run_start P ∷ turn_calls t) b

-- the buffers with a step in the step's block, and these bytes in the run's block
abbrev pub handing : Handed → List ℕ → Buffers → Buffers
handing h run b =
    buffers b.machine b.registers b.marks b.scalars b.memory run (put_handed h b.step) b.steps b.file

pub record TurnCalls (P : Plan) (b : Buffers) (t : ℕ) : Type 0 where
  -- the buffers hold the run, the machine, the registers, the marks and the memory that t turns of demand 3 leave
  pub holds : after_turn_calls P b t ≡ with (after_turns chosen (started_run chosen P (bench_in b)) t) b
  -- "Turns 1 to s each hand out one step .. and it is answered 0."
  pub next-done : t < steps (shape (job_in P b)) → (called Call.run_turn (after_turn_calls P b t)).result ≡ 0
  -- "Every later turn gives 8 and changes nothing": no byte of any buffer
  pub past_end : steps (shape (job_in P b)) ≤ t
      → ((called Call.run_turn (after_turn_calls P b t)).result ≡ 8) × ((called Call.run_turn (after_turn_calls P b t)).after ≡ after_turn_calls P b t)
  -- "Steps are handed out one at a time": asking by bodlarina_run_next (its step's block 24 bytes) gives 0 and the next step, and moves the
  -- run as the turn would
  pub asks : length b.step ≡ step_bytes → t < steps (shape (job_in P b))
      → ((called Call.run_next (after_turn_calls P b t)).result ≡ 0)
      × ((called Call.run_next (after_turn_calls P b t)).after ≡ handing (word_of (job_in P b) t) (after_turn_calls P b (suc t)).run (after_turn_calls P b t))
  -- "asking past the last gives 8": and changes no byte
  pub asks-past-end : length b.step ≡ step_bytes → steps (shape (job_in P b)) ≤ t
      → ((called Call.run_next (after_turn_calls P b t)).result ≡ 8) × ((called Call.run_next (after_turn_calls P b t)).after ≡ after_turn_calls P b t)
  -- "there are 1 + M(1 + N(3 + 4K)) steps": what bodlarina_run_steps returns, wherever the run has come to
  pub tells : host_run_steps (after_turn_calls P b t).run ≡ steps (shape (job_in P b))
  -- "After each turn the memory outside C's elements is as at the start."
  pub kept : OutsideKept (job_in P b) (after_turn_calls P b t).memory
  -- "After turn s and each later one, C(i, j) is the sum ..", over the memory at the start
  pub product : steps (shape (job_in P b)) ≤ t → (i j : ℕ) → i < P.m → j < P.n
      → element (after_turn_calls P b t).memory (c_at P) (wide P) i j ≡ product_of (job_in P b) i j

-- for every plan that is accepted, every machine's block of bytes, and every memory that is a slice of bytes; whatever the other buffers hold
abbrev pub TurnCallsAreRight : Type 0
TurnCallsAreRight = (P : Plan) (b : Buffers) → PlanWords P → Bytes b.machine → Demand.MemoryBytes b.memory
    → (called (Call.run_start P) b).result ≡ 0 → (t : ℕ) → TurnCalls P b t

-- ---- bodlarina_run_turns

-- It leaves exactly the buffers that so many calls of bodlarina_run_turn leave, and returns how many of these return 0: for every run's
-- block and machine's block of bytes, forged ones too
abbrev pub TurnsAreTurnCalls : Type 0
TurnsAreTurnCalls = (limit : ℕ) (b : Buffers) → Bytes b.run → Bytes b.machine
    → ((called (Call.run_turns limit) b).after ≡ after_calls (turn_calls limit) b)
    × ((called (Call.run_turns limit) b).result ≡ zeros (calls (turn_calls limit) b))

-- ---- bodlarina_run

-- the buffers of b with what bodlarina_run is lent of c, and a count in the count's block
abbrev pub counting : ℕ → Buffers → Buffers → Buffers
counting n c b =
    buffers c.machine c.registers c.marks b.scalars c.memory b.run b.step (put_numbers (n ∷ []) b.steps) b.file

-- It returns what bodlarina_run_start returns. Where that is 0 it leaves the machine's block, registers, marks and memory as this and s
-- calls of bodlarina_run_turn after it do, and s in its count's block, where s is the number of steps; the run's block isn't lent to it.
abbrev pub RunIsTurnCalls : Type 0
RunIsTurnCalls = (P : Plan) (b : Buffers) → PlanWords P → Bytes b.machine → Demand.MemoryBytes b.memory
    → length b.run ≡ run_bytes → length b.steps ≡ count_bytes
    → let s : ℕ = steps (shape (job_in P b)) in
    ((called (Call.run P) b).result ≡ (called (Call.run_start P) b).result)
    × ((called (Call.run P) b).result ≡ 0 → (called (Call.run P) b).after ≡ counting s (after_turn_calls P b s) b)

-- ---- demand 2: no sealed byte changes

-- byte q of memory is sealed, by the ranges in the machine's block
abbrev pub SealedIn : Buffers → ℕ → Type 0
SealedIn b q = sealed (seals_in b.machine) q ≡ true

-- bodlarina_start and bodlarina_image_read make another machine: where they are done it has the ranges in the block, and perhaps more behind them;
-- refused ones leave the machine's block. Of what the host writes between calls, which is never registers or marks (Calls.antt): the machine's
-- block and the sealed bytes of memory stay, the rest may change.
abbrev pub SparesSeal : Call → Buffers → Type 0
SparesSeal (Call.start rlen mlen elen rule seals) b =
    Extends (seals_in b.machine) (seals_in (called (Call.start rlen mlen elen rule seals) b).after.machine)
SparesSeal (Call.step word group) b = Unit {0}
SparesSeal (Call.seal from size) b = Unit {0}
SparesSeal (Call.run_start P) b = Unit {0}
SparesSeal Call.run_next b = Unit {0}
SparesSeal Call.run_turn b = Unit {0}
SparesSeal (Call.run_turns limit) b = Unit {0}
SparesSeal (Call.run P) b = Unit {0}
SparesSeal Call.image_size b = Unit {0}
SparesSeal (Call.image_write image) b = Unit {0}
SparesSeal (Call.image_read image) b = Extends (seals_in b.machine) (seals_in (called (Call.image_read image) b).after.machine)
SparesSeal (Call.write w) b = (w.machine ≡ b.machine) × ((q : ℕ) → SealedIn b q → get_or w.memory q 0 ≡ get_or b.memory q 0)

-- so of each call of a list, on the buffers that it gets
abbrev pub EachSparesSeal : List Call → Buffers → Type 0
EachSparesSeal [] b = Unit {0}
EachSparesSeal (c ∷ cs) b = SparesSeal c b × EachSparesSeal cs (called c b).after

-- 02, Twelve: "a byte changes at no step after its sealing". From any moment on, over any list of such calls, refused ones included: the ranges
-- in the machine's block stay, those added behind them, and no byte that is sealed at that moment changes
abbrev pub SealHoldsOverCalls : Type 0
SealHoldsOverCalls = (cs : List Call) (b : Buffers) → Bytes b.machine → EachSparesSeal cs b
    → SealKept (seals_in b.machine) b.memory (bench_in (after_calls cs b))

-- and from an accepted bodlarina_start on: the ranges that it was given
abbrev pub SealHoldsFromStartCall : Type 0
SealHoldsFromStartCall = (rlen mlen elen rule : ℕ) (seals : List ℕ) (b : Buffers)
    → let o : Called = called (Call.start rlen mlen elen rule seals) b in
    o.result ≡ 0 → (cs : List Call) → EachSparesSeal cs o.after
    → SealKept (ranges seals) b.memory (bench_in (after_calls cs o.after))

-- and from an accepted bodlarina_image_read on: the ranges of the machine whose image it is
abbrev pub SealHoldsFromReadCall : Type 0
SealHoldsFromReadCall = (image : List ℕ) (b : Buffers) → Images.ByteString image
    → let o : Called = called (Call.image_read image) b in
    o.result ≡ 0 → (cs : List Call) → EachSparesSeal cs o.after
    → SealKept (read_image image b.registers b.marks).seals b.memory (bench_in (after_calls cs o.after))

-- and from an accepted bodlarina_seal on: the ranges of before, and the one that it was given
abbrev pub SealHoldsFromSealCall : Type 0
SealHoldsFromSealCall = (from size : ℕ) (b : Buffers) → Bytes b.machine
    → let o : Called = called (Call.seal from size) b in
    o.result ≡ 0 → (cs : List Call) → EachSparesSeal cs o.after
    → SealKept (seals_in b.machine ++ (range from size ∷ [])) b.memory (bench_in (after_calls cs o.after))

-- ---- which ranges the machine's block holds

-- bodlarina_seal is the addition of the definitions, on every machine's block (one of another length holds a state at fault, and gets 8)
abbrev pub SealCallSeals : Type 0
SealCallSeals = (from size : ℕ) (b : Buffers) → let o : Called = called (Call.seal from size) b in
    (o.result ≡ (add_seal from size (bench_in b)).answer.number) × (bench_in o.after ≡ (add_seal from size (bench_in b)).bench)

-- an accepted bodlarina_start leaves exactly the ranges that it was given, and an accepted bodlarina_image_read those of the image's machine
abbrev pub StartCallHolds : Type 0
StartCallHolds = (rlen mlen elen rule : ℕ) (seals : List ℕ) (b : Buffers)
    → let o : Called = called (Call.start rlen mlen elen rule seals) b in
    o.result ≡ 0 → seals_in o.after.machine ≡ ranges seals

abbrev pub ReadCallHolds : Type 0
ReadCallHolds = (image : List ℕ) (b : Buffers) → Images.ByteString image
    → let o : Called = called (Call.image_read image) b in
    o.result ≡ 0 → seals_in o.after.machine ≡ (read_image image b.registers b.marks).seals

-- the range that a call adds: that of a bodlarina_seal which returns 0
abbrev pub added_by_call : Call → Buffers → List Range
added_by_call (Call.start rlen mlen elen rule seals) b = []
added_by_call (Call.step word group) b = []
added_by_call (Call.seal from size) b = cond (eqb (called (Call.seal from size) b).result 0) (range from size ∷ []) []
added_by_call (Call.run_start P) b = []
added_by_call Call.run_next b = []
added_by_call Call.run_turn b = []
added_by_call (Call.run_turns limit) b = []
added_by_call (Call.run P) b = []
added_by_call Call.image_size b = []
added_by_call (Call.image_write image) b = []
added_by_call (Call.image_read image) b = []
added_by_call (Call.write w) b = []

abbrev pub added_over_calls : List Call → Buffers → List Range
added_over_calls [] b = []
added_over_calls (c ∷ cs) b = added_by_call c b ++ added_over_calls cs (called c b).after

-- a call that makes no other machine: no bodlarina_start or bodlarina_image_read, but those that are refused; the host leaves the machine's block
abbrev pub KeepsMachine : Call → Buffers → Type 0
KeepsMachine (Call.start rlen mlen elen rule seals) b = ¬ ((called (Call.start rlen mlen elen rule seals) b).result ≡ 0)
KeepsMachine (Call.step word group) b = Unit {0}
KeepsMachine (Call.seal from size) b = Unit {0}
KeepsMachine (Call.run_start P) b = Unit {0}
KeepsMachine Call.run_next b = Unit {0}
KeepsMachine Call.run_turn b = Unit {0}
KeepsMachine (Call.run_turns limit) b = Unit {0}
KeepsMachine (Call.run P) b = Unit {0}
KeepsMachine Call.image_size b = Unit {0}
KeepsMachine (Call.image_write image) b = Unit {0}
KeepsMachine (Call.image_read image) b = ¬ ((called (Call.image_read image) b).result % 2 ^ 16 ≡ 0)
KeepsMachine (Call.write w) b = w.machine ≡ b.machine

abbrev pub EachKeepsMachine : List Call → Buffers → Type 0
EachKeepsMachine [] b = Unit {0}
EachKeepsMachine (c ∷ cs) b = KeepsMachine c b × EachKeepsMachine cs (called c b).after

-- over any list of such calls, refused ones included: the ranges of before and, behind them, those that were accepted since, and no other
abbrev pub RangesAreExactOverCalls : Type 0
RangesAreExactOverCalls = (cs : List Call) (b : Buffers) → EachKeepsMachine cs b
    → seals_in (after_calls cs b).machine ≡ seals_in b.machine ++ added_over_calls cs b
