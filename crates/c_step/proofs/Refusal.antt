-- A refusal changes no byte of any buffer.
use Rattle.numbers.proofs.Kit.{Err}
use mathlib.Core.Path.{◌≡◌, refl, ap}
use mathlib.Core.Bool.{Bool, true, false, cond}
use mathlib.Core.List.{List, [], ◌∷◌}
use Prim.Native.Nat.{ℕ}
use lib.ListN.{length, replicate}
use lib.Dec.{eqb, leb, ltb}
use Rattle.machine.specs.declared.Refusal.TheVariants.{BadArguments, TooManySeals}
use Rattle.machine.specs.Tests.{every}
use Rattle.machine.specs.Answers.{reply, done, is_done, verdict, Done, Answer}
use Rattle.machine.specs.Geometry.{Bench, bench_of}
use Rattle.machine.specs.Setting.{chosen}
use Rattle.machine.specs.Starting.{seal_ends, ranges, most_seals, startable, StartOutcome, started_as, start_machine, fresh_machine, no_machine}
use Rattle.machine.specs.Faults.{sound_bench}
use Rattle.machine.specs.Sealing.{add_seal, seal_checks, with_seal}
use Rattle.machine.specs.Listing.{decode}
use Rattle.machine.specs.Vectors.{Vectors, vectors_of}
use Rattle.machine.specs.Step.{VectorOutcome, vector_step}
use Rattle.machine.proofs.Stores.{accepted-with}
use Rattle.machine.proofs.Refused.{step-refusal-changes-nothing}
use Rattle.unit_ranges.specs.Ranges.{seals_in, put_seals}
use Rattle.unit_sealing.specs.SealBlock.{BlockSealed, seal_block}
use Rattle.c_blocks.specs.Blocks.{machine_bytes, machine_of, put_machine, packed, values_of, put_values}
use Rattle.c_scalars.specs.ScalarBlock.{step_block}
use Rattle.c_step.specs.BenchCalls.{HostStarted, started_out, shown_start, host_start, HostStepped, stepped_out, shown_step, host_step, HostSealed, sealed_out, shown_seal, host_seal}
use Rattle.c_step.specs.Theorems.{StartRefusalChangesNoByte, StepRefusalChangesNoByte, SealRefusalChangesNoByte}
use Rattle.c_blocks.proofs.BlockLaws.{put_machine-same, put_values-same}

pub start-refusal : StartRefusalChangesNoByte
unfolding host_start start_machine
start-refusal rlen mlen elen rule seals machine registers marks =
    go (eqb (length machine) machine_bytes) (startable rlen mlen elen rule seals registers marks) (leb (length (ranges seals)) most_seals)
  where
    answered : Bool → Bool → Answer
    answered u v = cond u (cond v Done (Err TooManySeals)) (Err BadArguments)

    started : Answer → StartOutcome
    started a =
        cond (is_done a)
        (started_as (record { answer = a; machine = fresh_machine rlen mlen elen rule }) seals registers (replicate (length marks) 0))
        (started_as (record { answer = a; machine = no_machine }) seals registers marks)

    out : Bool → Bool → Bool → HostStarted
    out t u v = cond t (shown_start machine (started (answered u v))) (started_out (packed (reply (Err BadArguments))) machine registers marks)

    go : (t u v : Bool) → ¬ ((out t u v).result ≡ 0) → out t u v ≡ started_out (out t u v).result machine registers marks
    go true true true d = absurd (d refl)
    go true true false d = refl
    go true false v d = refl
    go false u v d = refl

pub step-refusal : StepRefusalChangesNoByte
unfolding host_step
step-refusal word group machine registers marks scalars memory file small small' = go (every (eqb (length machine) machine_bytes ∷ eqb (length scalars) 256 ∷ []))
  where
    B : Bench
    B = bench_of (machine_of machine) (seals_in machine) registers marks memory

    W : Vectors
    W = vectors_of file group

    o : VectorOutcome
    o = vector_step word (values_of scalars) W B

    out : Bool → HostStepped
    out t = cond t (shown_step machine (step_block word scalars W B)) (stepped_out (packed (reply (Err BadArguments))) machine registers marks scalars memory file)

    shown : (b : Bench) (xs f : List ℕ) → b ≡ B → xs ≡ values_of scalars → f ≡ file
        → stepped_out (packed o.answer) (put_machine b.machine machine) b.registers b.marks (put_values xs scalars) b.memory f
        ≡ stepped_out (packed o.answer) machine registers marks scalars memory file
    shown b xs f eb ex ef =
        rw (eb, ex, ef, put_machine-same machine small, put_values-same scalars small')

    -- a step that is answered 0 is answered as `Done` is
    zero : o.answer.number ≡ 0 → o.answer ≡ reply Done
    zero e = ap (λ (o : VectorOutcome). o.answer) (accepted-with chosen word (decode word) (values_of scalars) W B refl e).leaves

    go : (t : Bool) → ¬ ((out t).result ≡ 0) → out t ≡ stepped_out (out t).result machine registers marks scalars memory file
    go true d =
        let k = step-refusal-changes-nothing chosen word (values_of scalars) W B (λ e. d (ap packed (zero e))) in
        shown o.bench o.scalars o.vectors k.0 k.1 k.2
    go false d = refl

pub seal-refusal : SealRefusalChangesNoByte
unfolding host_seal seal_block add_seal
seal-refusal start size machine registers marks = go (eqb (length machine) machine_bytes)
  where
    B : Bench
    B = bench_of (machine_of machine) (seals_in machine) registers marks []

    left : Answer → HostSealed
    left a = sealed_out (packed (reply a)) (cond (done (reply a)) (put_seals (cond (is_done a) (with_seal start size B) B).seals machine) machine) registers marks

    out : Bool → HostSealed
    out t = cond t (left (verdict (seal_checks start size B))) (sealed_out (packed (reply (Err BadArguments))) machine registers marks)

    refused : (s e f : Bool) → let a : Answer = cond s (cond e (cond f Done (Err TooManySeals)) (Err BadArguments)) (Err BadArguments) in
        ¬ ((left a).result ≡ 0) → left a ≡ sealed_out (left a).result machine registers marks
    refused true true true d = absurd (d refl)
    refused true true false d = refl
    refused true false f d = refl
    refused false e f d = refl

    go : (t : Bool) → ¬ ((out t).result ≡ 0) → out t ≡ sealed_out (out t).result machine registers marks
    go true d = refused (sound_bench B) (seal_ends start size) (ltb (length B.seals) most_seals) d
    go false d = refl
