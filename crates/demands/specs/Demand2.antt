-- Demand 2: each accepted word does exactly what the papers define, refusals are exact, and no sealed byte ever changes.
use Rattle.std.specs.Prelude.{◌≡◌, ◌∷◌, ◌++◌, ◌%◌, ◌^◌, ◌<◌}
use Rattle.numbers.specs.Kit.{cond, List, [], some, ℕ, length, get_or}
use Rattle.numbers.specs.Blocks.{Choice}
use Rattle.numbers_format.specs.Numbers as Images
use Rattle.machine.specs.Geometry.{Range, range, Parameters, parameters, State, state_of, Bench, bench_of}
use Rattle.machine.specs.Answers.{done}
use Rattle.machine.specs.Vectors.{Vectors, vectors_of, idle}
use Rattle.machine.specs.Starting.{ranges, start_machine}
use Rattle.machine.specs.Listing.{decode}
use Rattle.machine.specs.Meanings.{vectors_after}
use Rattle.machine.specs.Sealing.{add_seal}
use Rattle.machine.specs.Step.{VectorOutcome, beside, meant_in, given_in, carried_in, step_with, vector_step}
use Rattle.machine.specs.Theorems.{started_bench, StoresAreExact}
use Rattle.run.specs.declared.Handed.{Handed}
use Rattle.run.specs.Encoding.{own}
use Rattle.run.specs.Turn.{ask, Running, running, turn}
use Rattle.run.specs.Acts.{Act, Session, after_acts, lent_last}
use Rattle.run.specs.Theorems.{SealKept}
use Rattle.unit_ranges.specs.Ranges.{seals_in}
use Rattle.c_blocks.specs.Blocks.{Bytes, packed, scalar_bytes, values_of}
use Rattle.image.specs.Answers.{image_done}
use Rattle.image.specs.Reading.{ReadOutcome, read_image}
use Rattle.theorem_calls.specs.Calls.{Buffers, Call, Called, called}
use Rattle.theorem_calls.specs.Composed.{after_calls, bench_in, EachSparesSeal}
use Rattle.theorem_powerup.specs.PowerUp.{PowerUpNeverMatters}
use Rattle.theorem_powerup.specs.Steps.{WordsIgnoreUnmarked}
use Rattle.theorem_powerup_calls.specs.Calls.{PowerUpNeverMattersToHosts, PowerUpNeverMattersToReaders}
use Rattle.theorem_refusals.specs.Given.{GivenExactly}
use Rattle.theorem_refusals.specs.Faults.{FaultsAreThese}
use Rattle.theorem_refusals.specs.Starts.{StartAnswersExactly, AddAnswersExactly}
use Rattle.theorem_refusals.specs.Images.{SizeAnswersExactly, WriteAnswersExactly}
use Rattle.demands.specs.GivenInC.{StartCallAnswers, SealCallAnswers, SizeCallAnswers, WriteCallAnswers}

-- ---- a word

-- what a step of a word answers and leaves: the answer of the table, exactly; with 0 what the word means (`carried_in`: mtype and sizes, registers
-- and marks, memory, and rd, by `state_after`, `memory_after` and `result_of` of machine/specs/Operation.antt; `vectors_after`), with any other nothing
module _ (grant : Choice) (word : ℕ) (xs : List ℕ) (W : Vectors) (B : Bench) where
  pub record IsItsMeaning (o : VectorOutcome) : Type 0 where
    pub answer : GivenExactly grant word xs W B o.answer
    pub done : o.answer.number ≡ 0
        → let M : Parameters = parameters grant B.machine in
        o ≡ beside (vectors_after M (meant_in W M (decode word) xs B) (given_in W M (decode word) xs B) W.file) (carried_in W M (decode word) xs B)
    pub refused : ¬ (o.answer.number ≡ 0) → o ≡ record { answer = o.answer; bench = B; scalars = xs; vectors = W.file }

abbrev pub StepIsItsMeaning : Type 0
StepIsItsMeaning = (grant : Choice) (word : ℕ) (xs : List ℕ) (W : Vectors) (B : Bench) → IsItsMeaning grant word xs W B (step_with grant word xs W B)

-- 01: a step of a run is "carried out as any other word is": a turn that hands one out answers and leaves what a step of its word does, with the
-- run's own scalars; no word of a run is a move
abbrev pub TurnIsItsStep : Type 0
TurnIsItsStep = (grant : Choice) (r : Running) (h : Handed) → (ask grant r.run).handed ≡ some h
    → let o : VectorOutcome = step_with grant h.word (own h) idle r.bench in
    turn grant r ≡ record { answer = o.answer; handed = some h; after = running (cond (done o.answer) (ask grant r.run).run r.run) o.bench }

-- in C: what bodlarina_step returns and leaves is the step's, each scalar as a number of 64 bits
pub record StepCall (word group : ℕ) (b : Buffers) (o : VectorOutcome) (c : Called) : Type 0 where
  pub result : c.result ≡ packed o.answer
  pub bench : bench_in c.after ≡ o.bench
  pub scalars : (s : ℕ) → s < 32 → get_or (values_of c.after.scalars) s 0 ≡ get_or o.scalars s 0 % 2 ^ 64
  pub vectors : c.after.file ≡ o.vectors

-- on every machine's block of bytes (one of another length holds a state at fault); a scalars' block of another length gets 8, and nothing changes
abbrev pub StepCallSteps : Type 0
StepCallSteps = (word group : ℕ) (b : Buffers) → Bytes b.machine → Bytes b.scalars
    → (length b.scalars ≡ scalar_bytes → StepCall word group b (vector_step word (values_of b.scalars) (vectors_of b.file group) (bench_in b)) (called (Call.step word group) b))
    × (¬ (length b.scalars ≡ scalar_bytes) → called (Call.step word group) b ≡ record { result = 8; after = b })

-- ---- sealed bytes

-- a bench as the reading of an image leaves it, with a memory
abbrev pub read_bench : (image registers marks memory : List ℕ) → Bench
read_bench image registers marks memory =
    let o : ReadOutcome = read_image image registers marks in bench_of o.machine o.seals o.registers o.marks memory

-- a machine with these ranges, and any memory: one that was started, one that an image made, or one to which a range was added
pub data Made (seals : List Range) (B : Bench) : Type 0 where
  started : (rlen mlen elen rule : ℕ) (given registers marks : List ℕ) → (start_machine rlen mlen elen rule given registers marks).answer.number ≡ 0
      → B ≡ started_bench rlen mlen elen rule given registers marks B.memory → seals ≡ ranges given → Made seals B
  read : (image registers marks : List ℕ) → Images.ByteString image → (read_image image registers marks).answer ≡ image_done
      → B ≡ read_bench image registers marks B.memory → seals ≡ (read_image image registers marks).seals → Made seals B
  added : (start size : ℕ) (A : Bench) → (add_seal start size A).answer.number ≡ 0
      → B ≡ bench_of A.machine (add_seal start size A).bench.seals A.registers A.marks B.memory → seals ≡ A.seals ++ (range start size ∷ []) → Made seals B

-- whatever is done with it, for every choice of sizes: the ranges stay, and their bytes are those of the memory that was lent last
abbrev pub SealedBytesStay : Type 0
SealedBytesStay = (grant : Choice) (acts : List Act) (S : Session) (seals : List Range) → Made seals S.bench
    → SealKept seals (lent_last acts S.bench.memory) (after_acts grant acts S).bench

-- in C: the ranges that a machine's block holds after an accepted bodlarina_start, bodlarina_image_read or bodlarina_seal
pub data MadeInC (c : Call) (b : Buffers) (seals : List Range) : Type 0 where
  started : (rlen mlen elen rule : ℕ) (given : List ℕ) → c ≡ Call.start rlen mlen elen rule given → seals ≡ ranges given → MadeInC c b seals
  read : (image : List ℕ) → Images.ByteString image → c ≡ Call.image_read image → seals ≡ (read_image image b.registers b.marks).seals → MadeInC c b seals
  added : (from size : ℕ) → Bytes b.machine → c ≡ Call.seal from size → seals ≡ seals_in b.machine ++ (range from size ∷ []) → MadeInC c b seals

-- over any calls that leave these ranges (theorem_calls/specs/Composed.antt: SparesSeal: a start with other ranges, and a read of an image with others, do
-- not), between which the host writes what it likes but the machine's block and the sealed bytes
abbrev pub SealedBytesStayInC : Type 0
SealedBytesStayInC = (c : Call) (b : Buffers) (seals : List Range) → MadeInC c b seals
    → let o : Called = called c b in o.result ≡ 0 → (cs : List Call) → EachSparesSeal cs o.after
    → SealKept seals b.memory (bench_in (after_calls cs o.after))

-- ---- the demand

pub record Demand2 : Type 0 where
  pub words : StepIsItsMeaning
  pub turns : TurnIsItsStep
  pub words-in-c : StepCallSteps
  -- 02, Seven: each element of a store where it belongs, and no other byte
  pub stores : StoresAreExact
  -- "refusals are exact", and what is accepted is determined, of a start, of a range that is added, of an image that is sized and written; those of a
  -- word are above, and what is at fault for all of them
  pub faults : FaultsAreThese
  pub starts : StartAnswersExactly
  pub additions : AddAnswersExactly
  pub sizes : SizeAnswersExactly
  pub writings : WriteAnswersExactly
  pub starts-in-c : StartCallAnswers
  pub additions-in-c : SealCallAnswers
  pub sizes-in-c : SizeCallAnswers
  pub writings-in-c : WriteCallAnswers
  -- no reading depends on what registers held at power-up (02, Nine), of started machines and of those that an image made; that an element never
  -- written is not read at all is answer 5, above
  pub unwritten : PowerUpNeverMatters
  pub unwritten-words : WordsIgnoreUnmarked
  pub unwritten-in-c : PowerUpNeverMattersToHosts
  pub unwritten-readers-in-c : PowerUpNeverMattersToReaders
  pub sealed : SealedBytesStay
  pub sealed-in-c : SealedBytesStayInC
