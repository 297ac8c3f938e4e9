-- When bodlarina_start, bodlarina_seal, bodlarina_image_size and bodlarina_image_write give each of their answers, exactly, and what they leave
-- (include/bodlarina.h): as a start, an addition, a sizing and a writing do (theorem_refusals/specs/). A machine's block of another length holds a state at
-- fault. The proofs stand in proofs/.
use Rattle.std.specs.Prelude.{◌≡◌, ◌↔◌, ◌∷◌, ◌++◌, ◌/◌, ◌%◌, ◌^◌}
use Rattle.numbers.specs.Kit.{List, [], ℕ, length, drop}
use Rattle.machine.specs.Geometry.{Bench, range, bench_of}
use Rattle.machine.specs.Theorems.{started_bench}
use Rattle.unit_ranges.specs.Ranges.{seals_in}
use Rattle.c_blocks.specs.Blocks.{machine_bytes}
use Rattle.image.specs.Theorems.{image_in}
use Rattle.c_image.specs.ImageCalls.{HostWritten, host_image_size}
use Rattle.theorem_calls.specs.Calls.{Buffers, Call, Called, called}
use Rattle.theorem_calls.specs.Composed.{bench_in}
use Rattle.theorem_refusals.specs.Faults.{NotAtFault, Exactly}
use Rattle.theorem_refusals.specs.Starts.{Startable, HasNinth, Addable}
use Rattle.theorem_refusals.specs.Images.{NoRoomFor}
use Rattle.theorem_handover.specs.Handover.{written_into}

-- ---- bodlarina_start

-- 8 for a machine's block of another length too; where it is done the buffers hold the machine that was started
pub record StartCallGiven (rlen mlen elen rule : ℕ) (seals : List ℕ) (b : Buffers) (o : Called) : Type 0 where
  pub given : Exactly o.result 16 ((length b.machine ≡ machine_bytes) × Startable rlen mlen elen rule seals b.registers b.marks) (HasNinth seals)
  pub started : o.result ≡ 0 → bench_in o.after ≡ started_bench rlen mlen elen rule seals b.registers b.marks b.memory
  pub refused : ¬ (o.result ≡ 0) → o.after ≡ b

abbrev pub StartCallAnswers : Type 0
StartCallAnswers = (rlen mlen elen rule : ℕ) (seals : List ℕ) (b : Buffers)
    → StartCallGiven rlen mlen elen rule seals b (called (Call.start rlen mlen elen rule seals) b)

-- ---- bodlarina_seal

pub record SealCallGiven (from size : ℕ) (b : Buffers) (o : Called) : Type 0 where
  pub given : Exactly o.result 16 (Addable (range from size) (bench_in b)) (length (seals_in b.machine) ≡ 8)
  pub added : o.result ≡ 0
      → let B : Bench = bench_in b in bench_in o.after ≡ bench_of B.machine (B.seals ++ (range from size ∷ [])) B.registers B.marks B.memory
  pub refused : ¬ (o.result ≡ 0) → o.after ≡ b

abbrev pub SealCallAnswers : Type 0
SealCallAnswers = (from size : ℕ) (b : Buffers) → SealCallGiven from size b (called (Call.seal from size) b)

-- ---- bodlarina_image_size and bodlarina_image_write

-- bits 15..0 of a result are the answer, bits 63..16 the image's length, 0 if refused
pub record SizeCallGiven (b : Buffers) (result : ℕ) : Type 0 where
  pub eight : (result % 2 ^ 16 ≡ 8) ↔ ¬ NotAtFault (bench_in b)
  pub nought : (result % 2 ^ 16 ≡ 0) ↔ NotAtFault (bench_in b)
  pub sized : result % 2 ^ 16 ≡ 0 → result / 2 ^ 16 ≡ length (image_in (bench_in b))
  pub refused : ¬ (result % 2 ^ 16 ≡ 0) → result / 2 ^ 16 ≡ 0

abbrev pub SizeCallAnswers : Type 0
SizeCallAnswers = (b : Buffers) → SizeCallGiven b (host_image_size b.machine b.registers b.marks)

-- and the room past the image stays
pub record WriteCallGiven (room : List ℕ) (b : Buffers) (w : HostWritten) : Type 0 where
  pub given : Exactly (w.result % 2 ^ 16) 14 (NotAtFault (bench_in b)) (NoRoomFor room (bench_in b))
  pub written : w.result % 2 ^ 16 ≡ 0
      → let image : List ℕ = image_in (bench_in b) in (w.result / 2 ^ 16 ≡ length image) × (w.image ≡ image ++ drop (length image) room)
  pub refused : ¬ (w.result % 2 ^ 16 ≡ 0) → (w.result / 2 ^ 16 ≡ 0) × (w.image ≡ room)

abbrev pub WriteCallAnswers : Type 0
WriteCallAnswers = (room : List ℕ) (b : Buffers) → WriteCallGiven room b (written_into room b)
