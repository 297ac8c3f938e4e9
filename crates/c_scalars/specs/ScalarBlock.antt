-- A step with the scalars as the host passes them. 01: "the scalars as 256 bytes, low byte first"
use Rattle.numbers.specs.Kit.{List, ℕ}
use Rattle.machine.specs.Geometry.{Bench}
use Rattle.machine.specs.Vectors.{Vectors}
use Rattle.machine.specs.Step.{VectorOutcome, vector_step}
use Rattle.c_blocks.specs.Blocks.{values_of, put_values}

-- a step on the scalars' block: what it leaves of the scalars is written over the block
abbrev pub step_block : ℕ → List ℕ → Vectors → Bench → VectorOutcome
step_block word scalars W B =
    let o = vector_step word (values_of scalars) W B in
    record { answer = o.answer; bench = o.bench; scalars = put_values o.scalars scalars; vectors = o.vectors }
