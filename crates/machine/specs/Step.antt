-- A step: the word is decoded, the scalars are read, the checks are made in the order 8, then 10, 11, 1, 12, then 2 to 6, 13, 7, and the
-- effect follows.
use Rattle.std.specs.Prelude.{◌∷◌}
use Rattle.numbers.specs.Kit.{Result, Ok, Err, cond, List, ℕ}
use Rattle.numbers.specs.Blocks.{Choice}
use Rattle.machine.specs.declared.Machine.{Machine}
use Rattle.machine.specs.declared.Refusal.{Refusal}
use Rattle.machine.specs.declared.Refusal.TheVariants.{BadArguments}
use Rattle.machine.specs.declared.Instruction.{Instruction}
use Rattle.machine.specs.declared.Instruction.TheVariants.{Illegal, SetTypeImmediate, SetType, SetTileImmediate, SetTile, Load, Store, Multiply, Combine, Scale, ScaleImmediate, FloatMultiply, MoveOut, MoveIn}
use Rattle.machine.specs.declared.Reply.{Reply}
use Rattle.machine.specs.Answers.{reply, Check, ◌otherwise◌, verdict, is_done, Answer, Done}
use Rattle.machine.specs.Geometry.{Range, sealed, Parameters, parameters, State, state_of, machine_after, Bench, bench_of, with_scalar}
use Rattle.machine.specs.Setting.{chosen}
use Rattle.machine.specs.Listing.{decode}
use Rattle.machine.specs.Vectors.{Vectors, vectors_fit, idle}
use Rattle.machine.specs.Operation.{Operation, operation_in}
use Rattle.machine.specs.Meaning.{Meaning}
use Rattle.machine.specs.Meanings.{meaning}
use Rattle.machine.specs.Faults.{sound_bench, thirty_two}

-- rd, of an instruction that has one; else x0, which nothing writes
abbrev pub destination : Instruction → ℕ
destination (Illegal wrong) = 0
destination (SetTypeImmediate rd immediate) = rd
destination (SetType rd rs1) = rd
destination (SetTileImmediate dimension rd immediate) = rd
destination (SetTile dimension rd rs1) = rd
destination (Load form matrix width md rs1 rs2) = 0
destination (Store form matrix width ms3 rs1 rs2) = 0
destination (Multiply factor md ms1 ms2) = 0
destination (Combine sum factor md ms1) = 0
destination (Scale factor md ms1 rs2) = 0
destination (ScaleImmediate factor md ms1 immediate) = 0
destination (FloatMultiply md ms1 ms2) = 0
destination (MoveOut form vd ms1 rs2) = 0
destination (MoveIn form md vs1 rs2) = 0

-- what a step answers and leaves
pub record Outcome : Type 0 where
  pub answer : Reply
  pub bench : Bench
  pub scalars : List ℕ

-- and what it leaves of a vector file beside the bench
pub record VectorOutcome : Type 0 where
  pub answer : Reply
  pub bench : Bench
  pub scalars : List ℕ
  pub vectors : List ℕ

abbrev pub beside : List ℕ → Outcome → VectorOutcome
beside file o = record { answer = o.answer; bench = o.bench; scalars = o.scalars; vectors = file }

-- ---- carrying out an instruction

module _ (W : Vectors) (M : Parameters) (i : Instruction) (xs : List ℕ) (B : Bench) where
  abbrev pub given_in : State
  given_in = state_of B.machine B.registers B.marks

  abbrev pub meant_in : Operation
  meant_in = operation_in W M given_in xs i

  abbrev pub meaning_in : Meaning
  meaning_in = meaning M given_in meant_in

  -- "For a step the order is 8, then 1 to 7"; 02, One: 10, 11, 1, 12 "at the place where 1 stood"; 02, Seven: 13, "after 6 and before 7"
  abbrev pub checks_in : List Check
  checks_in =
      (sound_bench B otherwise BadArguments)
      ∷ (thirty_two xs otherwise BadArguments)
      ∷ meaning_in.checks (sealed B.seals) B.memory

  abbrev pub left_in : State
  left_in = meaning_in.state B.memory

  abbrev pub carried_in : Outcome
  carried_in = record {
    answer = reply Done;
    bench = bench_of (machine_after B.machine left_in) B.seals left_in.regs left_in.marks (meaning_in.memory B.memory);
    scalars = with_scalar xs (destination i) meaning_in.result;
  }

  -- "A refusal changes nothing lent or held."
  abbrev pub refused_in : Answer → Outcome
  refused_in a = record { answer = reply a; bench = B; scalars = xs }

  abbrev pub outcome_in : Outcome
  outcome_in = cond (is_done (verdict checks_in)) carried_in (refused_in (verdict checks_in))

  abbrev pub vectors_in : List ℕ
  vectors_in = cond (is_done (verdict checks_in)) (meaning_in.vectors W.file) W.file

  -- 02, Eleven: "a bad vector file or group size gets 8"
  abbrev pub stepped_in : VectorOutcome
  stepped_in = cond (vectors_fit W) (beside vectors_in outcome_in) (beside W.file (refused_in (Err BadArguments)))

-- a step under a choice of sizes for each rule
unfoldable pub step_with : Choice → ℕ → List ℕ → Vectors → Bench → VectorOutcome
step_with grant word xs W B = stepped_in W (parameters grant B.machine) (decode word) xs B

-- and under ours
abbrev pub vector_step : ℕ → List ℕ → Vectors → Bench → VectorOutcome
vector_step = step_with chosen

-- ---- a step that is lent no vector file: those of a product run, none of whose words is a move

module _ (M : Parameters) (i : Instruction) (xs : List ℕ) (B : Bench) where
  abbrev pub given : State
  given = given_in idle M i xs B

  abbrev pub meant : Operation
  meant = meant_in idle M i xs B

  abbrev pub step_checks : List Check
  step_checks = checks_in idle M i xs B

  abbrev pub left : State
  left = left_in idle M i xs B

  abbrev pub carried_out : Outcome
  carried_out = carried_in idle M i xs B

  abbrev pub refused : Answer → Outcome
  refused = refused_in idle M i xs B

  unfoldable pub outcome : Outcome
  outcome = outcome_in idle M i xs B

unfoldable pub step_by : Choice → ℕ → List ℕ → Bench → Outcome
step_by grant word xs B = outcome (parameters grant B.machine) (decode word) xs B

abbrev pub step : ℕ → List ℕ → Bench → Outcome
step = step_by chosen

-- what the function `step` returned and left
-- the answer of a step of machine m, and the machine after it, which a refusal leaves as it was
pub record Stepped : Type 0 where
  pub answer : Answer
  pub machine : Machine

abbrev pub stepped : Machine → Result Machine Refusal → Stepped
stepped m (Ok after) = record { answer = Done; machine = after }
stepped m (Err r) = record { answer = Err r; machine = m }

abbrev pub stepped_as : Stepped → List Range → (registers marks scalars memory : List ℕ) → Outcome
stepped_as r seals registers marks scalars memory = record {
  answer = reply r.answer;
  bench = bench_of r.machine seals registers marks memory;
  scalars = scalars;
}

abbrev pub vector_stepped_as : Stepped → List Range → (registers marks scalars memory file : List ℕ) → VectorOutcome
vector_stepped_as r seals registers marks scalars memory file = beside file (stepped_as r seals registers marks scalars memory)
