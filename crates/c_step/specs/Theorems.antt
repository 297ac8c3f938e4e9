-- What is proved of these definitions. The proofs stand in proofs/.
use Rattle.std.specs.Prelude.{◌≡◌, List, ℕ, ◌/◌, ◌%◌, ◌^◌, length}
use Rattle.machine.specs.Geometry.{bench_of}
use Rattle.machine.specs.Vectors.{vectors_of}
use Rattle.machine.specs.Step.{vector_step}
use Rattle.unit_ranges.specs.Ranges.{seals_in}
use Rattle.c_blocks.specs.Blocks.{Bytes, machine_bytes, machine_of, scalar_bytes, values_of}
use Rattle.c_step.specs.BenchCalls.{started_out, host_start, stepped_out, host_step, sealed_out, host_seal}

-- "A refusal changes no byte of any buffer."
abbrev pub StartRefusalChangesNoByte : Type 0
StartRefusalChangesNoByte = (rlen mlen elen rule : ℕ) (seals machine registers marks : List ℕ)
    → let o = host_start rlen mlen elen rule seals machine registers marks in
    ¬ (o.result ≡ 0) → o ≡ started_out o.result machine registers marks

abbrev pub StepRefusalChangesNoByte : Type 0
StepRefusalChangesNoByte = (word group : ℕ) (machine registers marks scalars memory file : List ℕ) → Bytes machine → Bytes scalars
    → let o = host_step word group machine registers marks scalars memory file in
    ¬ (o.result ≡ 0) → o ≡ stepped_out o.result machine registers marks scalars memory file

abbrev pub SealRefusalChangesNoByte : Type 0
SealRefusalChangesNoByte = (start size : ℕ) (machine registers marks : List ℕ)
    → let o = host_seal start size machine registers marks in
    ¬ (o.result ≡ 0) → o ≡ sealed_out o.result machine registers marks

-- What the host takes out of a result: bits 15..0 are the number, bits 31..16 the row and bits 47..32 the column of the step's answer,
-- none of them cut. On blocks of other lengths the result is 8.
abbrev pub StepPacksWhole : Type 0
StepPacksWhole = (word group : ℕ) (machine registers marks scalars memory file : List ℕ) → length machine ≡ machine_bytes → length scalars ≡ scalar_bytes
    → let a = (vector_step word (values_of scalars) (vectors_of file group) (bench_of (machine_of machine) (seals_in machine) registers marks memory)).answer in
    let r = (host_step word group machine registers marks scalars memory file).result in
    (r % 2 ^ 16 ≡ a.number) × (r / 2 ^ 16 % 2 ^ 16 ≡ a.row) × (r / 2 ^ 32 ≡ a.column)
