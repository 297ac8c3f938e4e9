-- The answers of sizing and writing an image, and what they leave: 02, Six. The proofs stand in proofs/.
use Rattle.std.specs.Prelude.{◌≡◌, ◌↔◌, ◌++◌, ◌<◌}
use Rattle.numbers.specs.Kit.{List, ℕ, length, drop}
use Rattle.machine.specs.Geometry.{Bench}
use Rattle.image.specs.Answers.{ImageReply}
use Rattle.image.specs.Writing.{SizeOutcome, size_image, WriteOutcome, write_image}
use Rattle.image.specs.Theorems.{image_in}
use Rattle.theorem_refusals.specs.Faults.{NotAtFault, Exactly}

-- a number that names no place: 15 alone has one, "elsewhere 0"
abbrev pub placeless : ℕ → ImageReply
placeless n = record { number = n; place = 0 }

-- "14 if the image doesn't fit the lent room"
abbrev pub NoRoomFor : (room : List ℕ) → Bench → Type 0
NoRoomFor room B = length room < length (image_in B)

-- "Writing gives 8 first, then 14, returns the image's length (0 if refused) and leaves the room past the image as it was."
pub record WritesExactly (B : Bench) (room : List ℕ) (o : WriteOutcome) : Type 0 where
  pub given : Exactly o.answer.number 14 (NotAtFault B) (NoRoomFor room B)
  pub written : o.answer.number ≡ 0
      → o ≡ record { answer = placeless 0; size = length (image_in B); room = image_in B ++ drop (length (image_in B)) room }
  pub refused : ¬ (o.answer.number ≡ 0) → o ≡ record { answer = placeless o.answer.number; size = 0; room = room }

abbrev pub WriteAnswersExactly : Type 0
WriteAnswersExactly = (B : Bench) (room : List ℕ) → WritesExactly B room (write_image B.machine B.seals B.registers B.marks room)

-- the length of the image; 8 for a state at fault, and no other refusal
pub record SizesExactly (B : Bench) (o : SizeOutcome) : Type 0 where
  pub eight : (o.answer.number ≡ 8) ↔ ¬ NotAtFault B
  pub nought : (o.answer.number ≡ 0) ↔ NotAtFault B
  pub sized : o.answer.number ≡ 0 → o ≡ record { answer = placeless 0; size = length (image_in B) }
  pub refused : ¬ (o.answer.number ≡ 0) → o ≡ record { answer = placeless 8; size = 0 }

abbrev pub SizeAnswersExactly : Type 0
SizeAnswersExactly = (B : Bench) → SizesExactly B (size_image B.machine B.seals B.registers B.marks)
