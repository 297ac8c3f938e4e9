-- 02, Six: sizing and writing an image.
use Rattle.std.specs.Prelude.{◌++◌, Result, Ok, Err}
use Rattle.numbers.specs.Kit.{cond, List, ℕ, leb, length, drop}
use Rattle.machine.specs.declared.Machine.{Machine}
use Rattle.image.specs.declared.ImageError.{ImageError}
use Rattle.image.specs.declared.ImageError.TheVariants.{BadArguments, NoRoom}
use Rattle.image.specs.Answers.{ImageReply, image_done, image_reply}
use Rattle.image.specs.Images.{Seals, image_of, sound_with}

-- ---- sizing

pub record SizeOutcome : Type 0 where
  pub answer : ImageReply
  pub size : ℕ

-- what the function `image_size` returned; the size of a refusal is 0
abbrev pub size_reply : Result ℕ ImageError → SizeOutcome
size_reply (Ok size) = record { answer = image_done; size = size }
size_reply (Err e) = record { answer = image_reply e; size = 0 }

-- the length of the machine's image; 8 for a state at fault
unfoldable pub size_image : Machine → Seals → (registers marks : List ℕ) → SizeOutcome
size_image m seals registers marks = cond (sound_with m seals registers marks) (size_reply (Ok (length (image_of m seals registers marks)))) (size_reply (Err BadArguments))

-- ---- writing

pub record WriteOutcome : Type 0 where
  pub answer : ImageReply
  pub size : ℕ
  pub room : List ℕ

-- what the function `write_image` returned and left
abbrev pub write_reply : Result ℕ ImageError → List ℕ → WriteOutcome
write_reply (Ok size) room = record { answer = image_done; size = size; room = room }
write_reply (Err e) room = record { answer = image_reply e; size = 0; room = room }

-- "Writing gives 8 first, then 14, returns the image's length (0 if refused) and leaves the room past the image as it was."
unfoldable pub write_image : Machine → Seals → (registers marks room : List ℕ) → WriteOutcome
write_image m seals registers marks room =
    let image : List ℕ = image_of m seals registers marks in
    cond (sound_with m seals registers marks)
    (cond (leb (length image) (length room))
    (write_reply (Ok (length image)) (image ++ drop (length image) room))
    (write_reply (Err NoRoom) room))
    (write_reply (Err BadArguments) room)
