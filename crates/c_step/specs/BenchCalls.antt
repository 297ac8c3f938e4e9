-- What a start of a machine, a step and the sealing of a range by C answer and leave (include/bodlarina.h).
use Rattle.numbers.specs.Kit.{Err}
use Rattle.std.specs.Prelude.{cond, List, [], ◌∷◌, ℕ, length, eqb}
use Rattle.machine.specs.declared.Refusal.TheVariants.{BadArguments}
use Rattle.machine.specs.Tests.{every}
use Rattle.machine.specs.Answers.{reply, done}
use Rattle.machine.specs.Geometry.{bench_of}
use Rattle.machine.specs.Starting.{StartOutcome, start_machine}
use Rattle.machine.specs.Vectors.{vectors_of}
use Rattle.machine.specs.Step.{VectorOutcome}
use Rattle.unit_ranges.specs.Ranges.{seals_in, put_seals}
use Rattle.unit_sealing.specs.SealBlock.{BlockSealed, seal_block}
use Rattle.c_blocks.specs.Blocks.{machine_bytes, machine_of, put_machine, packed, scalar_bytes}
use Rattle.c_scalars.specs.ScalarBlock.{step_block}

-- ---- starting

-- what a call of bodlarina_start returns and leaves
pub record HostStarted : Type 0 where
  pub result : ℕ
  pub machine : List ℕ
  pub registers : List ℕ
  pub marks : List ℕ

abbrev pub started_out : ℕ → (machine registers marks : List ℕ) → HostStarted
started_out result machine registers marks = record { result = result; machine = machine; registers = registers; marks = marks }

-- a start as the host sees it; a refused one leaves the machine's block
abbrev pub shown_start : List ℕ → StartOutcome → HostStarted
shown_start machine o =
    started_out (packed o.answer) (cond (done o.answer) (put_seals o.seals (put_machine o.machine machine)) machine) o.registers o.marks

-- a block of the wrong length is refused with 8
unfoldable pub host_start : (rlen mlen elen rule : ℕ) → (seals machine registers marks : List ℕ) → HostStarted
host_start rlen mlen elen rule seals machine registers marks =
    cond (eqb (length machine) machine_bytes)
    (shown_start machine (start_machine rlen mlen elen rule seals registers marks))
    (started_out (packed (reply (Err BadArguments))) machine registers marks)

-- ---- a step

-- what a call of bodlarina_step returns and leaves
pub record HostStepped : Type 0 where
  pub result : ℕ
  pub machine : List ℕ
  pub registers : List ℕ
  pub marks : List ℕ
  pub scalars : List ℕ
  pub memory : List ℕ
  pub file : List ℕ

abbrev pub stepped_out : ℕ → (machine registers marks scalars memory file : List ℕ) → HostStepped
stepped_out result machine registers marks scalars memory file = record {
  result = result;
  machine = machine;
  registers = registers;
  marks = marks;
  scalars = scalars;
  memory = memory;
  file = file;
}

-- a step as the host sees it: what it leaves of the machine's numbers is written over the block
abbrev pub shown_step : List ℕ → VectorOutcome → HostStepped
shown_step machine o =
    stepped_out (packed o.answer) (put_machine o.bench.machine machine) o.bench.registers o.bench.marks o.scalars o.bench.memory o.vectors

-- 01, "Where each form goes": "An exported C function on numbers and byte slices for the bench host, over the same proved step."
unfoldable pub host_step : (word group : ℕ) → (machine registers marks scalars memory file : List ℕ) → HostStepped
host_step word group machine registers marks scalars memory file =
    cond (every (eqb (length machine) machine_bytes ∷ eqb (length scalars) scalar_bytes ∷ []))
    (shown_step machine (step_block word scalars (vectors_of file group) (bench_of (machine_of machine) (seals_in machine) registers marks memory)))
    (stepped_out (packed (reply (Err BadArguments))) machine registers marks scalars memory file)

-- ---- sealing a range

-- what a call of bodlarina_seal returns and leaves
pub record HostSealed : Type 0 where
  pub result : ℕ
  pub machine : List ℕ
  pub registers : List ℕ
  pub marks : List ℕ

abbrev pub sealed_out : ℕ → (machine registers marks : List ℕ) → HostSealed
sealed_out result machine registers marks = record { result = result; machine = machine; registers = registers; marks = marks }

abbrev pub shown_seal : (registers marks : List ℕ) → BlockSealed → HostSealed
shown_seal registers marks o = sealed_out (packed o.answer) o.block registers marks

-- 02, Twelve: "a range may be added between steps"
unfoldable pub host_seal : (start size : ℕ) → (machine registers marks : List ℕ) → HostSealed
host_seal start size machine registers marks =
    cond (eqb (length machine) machine_bytes)
    (shown_seal registers marks (seal_block start size (machine_of machine) machine registers marks))
    (sealed_out (packed (reply (Err BadArguments))) machine registers marks)
