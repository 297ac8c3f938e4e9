-- The answers of sizing, writing and reading an image, and their numbers.
use Rattle.numbers.specs.Kit.{ℕ}
use Rattle.image.specs.declared.ImageError.{ImageError}
use Rattle.image.specs.declared.ImageError.TheVariants.{BadArguments, NoRoom, Damaged}

-- an answer's number, and the place that it names
pub record ImageReply : Type 0 where
  pub number : ℕ
  pub place : ℕ

-- 01, "Numbers of the answers": 0 and 8. 02, Six: "Refusals: 14 if the image doesn't fit the lent room, 15 with the place of the first byte at
-- which no accepted image can go on (.. elsewhere 0)."
abbrev pub image_done : ImageReply
image_done = record { number = 0; place = 0 }

abbrev pub image_reply : ImageError → ImageReply
image_reply BadArguments = record { number = 8; place = 0 }
image_reply NoRoom = record { number = 14; place = 0 }
image_reply (Damaged place) = record { number = 15; place = place }
