-- What is proved of these definitions. The proofs stand in proofs/.
use Rattle.std.specs.Prelude.{Err}
use Rattle.std.specs.Prelude.{◌≡◌, cond, List, ℕ, ◌/◌, ◌%◌, ◌^◌, eqb, length}
use Rattle.image.specs.declared.ImageError.TheVariants.{BadArguments}
use Rattle.image.specs.Answers.{ImageReply}
use Rattle.image.specs.Writing.{SizeOutcome, size_reply, size_image, WriteOutcome, write_reply, write_image}
use Rattle.unit_ranges.specs.Ranges.{seals_in}
use Rattle.image_read.specs.Blocks.{read_block}
use Rattle.c_blocks.specs.Blocks.{machine_bytes, machine_of}
use Rattle.c_image.specs.ImageCalls.{host_image_size, written_out, host_image_write, read_out, host_image_read}

-- "A refusal changes no byte of any buffer." A refusal of these: an answer, in bits 15..0, that is not 0
abbrev pub ImageWriteRefusalChangesNoByte : Type 0
ImageWriteRefusalChangesNoByte = (machine registers marks image : List ℕ)
    → let o = host_image_write machine registers marks image in
    ¬ (o.result % 2 ^ 16 ≡ 0) → o ≡ written_out o.result image

abbrev pub ImageReadRefusalChangesNoByte : Type 0
ImageReadRefusalChangesNoByte = (image machine registers marks : List ℕ)
    → let o = host_image_read image machine registers marks in
    ¬ (o.result % 2 ^ 16 ≡ 0) → o ≡ read_out o.result machine registers marks

-- What the host takes out of a result: bits 15..0 are the answer's number, bits 63..16 the length where the call is done, and else the place
-- that the answer names. Neither is cut: for every block, registers, marks and image.
abbrev pub PacksWhole : (result : ℕ) → ImageReply → (size : ℕ) → Type 0
PacksWhole result a size = (result % 2 ^ 16 ≡ a.number) × (result / 2 ^ 16 ≡ cond (eqb a.number 0) size a.place)

-- the length of the machine's image
abbrev pub ImageSizePacksWhole : Type 0
ImageSizePacksWhole = (machine registers marks : List ℕ)
    → let o : SizeOutcome = cond (eqb (length machine) machine_bytes) (size_image (machine_of machine) (seals_in machine) registers marks) (size_reply (Err BadArguments)) in
    PacksWhole (host_image_size machine registers marks) o.answer o.size

-- the length of what is written
abbrev pub ImageWritePacksWhole : Type 0
ImageWritePacksWhole = (machine registers marks image : List ℕ)
    → let o : WriteOutcome = cond (eqb (length machine) machine_bytes) (write_image (machine_of machine) (seals_in machine) registers marks image) (write_reply (Err BadArguments) image) in
    PacksWhole (host_image_write machine registers marks image).result o.answer o.size

-- the place of answer 15; a read that is done gives no length
abbrev pub ImageReadPacksWhole : Type 0
ImageReadPacksWhole = (image machine registers marks : List ℕ)
    → PacksWhole (host_image_read image machine registers marks).result (read_block image machine registers marks).answer 0
