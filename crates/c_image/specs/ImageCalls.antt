-- What each call on images answers and leaves (include/bodlarina.h).
use Rattle.std.specs.Prelude.{cond, List, ℕ, ◌+◌, ◌*◌, ◌%◌, ◌^◌, length, eqb}
use Rattle.image.specs.declared.ImageError.TheVariants.{BadArguments}
use Rattle.image.specs.Answers.{ImageReply, image_reply}
use Rattle.image.specs.Writing.{SizeOutcome, size_image, WriteOutcome, write_image}
use Rattle.unit_ranges.specs.Ranges.{seals_in}
use Rattle.image_read.specs.Blocks.{BlockOutcome, read_block}
use Rattle.c_blocks.specs.Blocks.{machine_bytes, machine_of, put_machine}

-- A result packs answer | value << 16: the value is a length where the call is done, and else the place that the answer names. The function
-- takes any u64, so the value is cut to its 48 bits. No call loses by it (Theorems.antt: ImageSizePacksWhole, ImageWritePacksWhole,
-- ImageReadPacksWhole).
unfoldable pub packed_reply : ImageReply → ℕ → ℕ
packed_reply a size = a.number + cond (eqb a.number 0) size a.place % 2 ^ 48 * 2 ^ 16

-- ---- sizing

-- a block of the wrong length is refused with 8
unfoldable pub host_image_size : (machine registers marks : List ℕ) → ℕ
host_image_size machine registers marks =
    let o : SizeOutcome = size_image (machine_of machine) (seals_in machine) registers marks in
    cond (eqb (length machine) machine_bytes) (packed_reply o.answer o.size) (packed_reply (image_reply BadArguments) 0)

-- ---- writing

-- what a call of bodlarina_image_write returns and leaves
pub record HostWritten : Type 0 where
  pub result : ℕ
  pub image : List ℕ

abbrev pub written_out : ℕ → List ℕ → HostWritten
written_out result image = record { result = result; image = image }

unfoldable pub host_image_write : (machine registers marks image : List ℕ) → HostWritten
host_image_write machine registers marks image =
    let o : WriteOutcome = write_image (machine_of machine) (seals_in machine) registers marks image in
    cond (eqb (length machine) machine_bytes) (written_out (packed_reply o.answer o.size) o.room) (written_out (packed_reply (image_reply BadArguments) 0) image)

-- ---- reading

-- what a call of bodlarina_image_read returns and leaves
pub record HostRead : Type 0 where
  pub result : ℕ
  pub machine : List ℕ
  pub registers : List ℕ
  pub marks : List ℕ

abbrev pub read_out : ℕ → (machine registers marks : List ℕ) → HostRead
read_out result machine registers marks = record { result = result; machine = machine; registers = registers; marks = marks }

-- a read as the host sees it: where it is done the machine's numbers are written over the block too
abbrev pub shown_read : BlockOutcome → HostRead
shown_read o =
    read_out (packed_reply o.answer 0) (cond (eqb o.answer.number 0) (put_machine o.machine o.block) o.block) o.registers o.marks

-- a block of the wrong length is refused as other buffers are: 15 first, then 8
unfoldable pub host_image_read : (image machine registers marks : List ℕ) → HostRead
host_image_read image machine registers marks = shown_read (read_block image machine registers marks)
