-- Reading an image into a machine's block, its registers and its marks.
use Rattle.std.specs.Prelude.{Result, Ok, Err}
use Rattle.numbers.specs.Kit.{cond, List, ℕ, eqb, length}
use Rattle.machine.specs.declared.Machine.{Machine}
use Rattle.machine.specs.Starting.{no_machine}
use Rattle.unit_ranges.specs.Ranges.{block_bytes, put_seals}
use Rattle.image.specs.declared.ImageError.{ImageError}
use Rattle.image.specs.declared.ImageError.TheVariants.{BadArguments}
use Rattle.image.specs.Answers.{ImageReply, image_done, image_reply}
use Rattle.image.specs.Reading.{Verdict, ReadOutcome, check_image, read_image}

pub record BlockOutcome : Type 0 where
  pub answer : ImageReply
  pub machine : Machine
  pub block : List ℕ
  pub registers : List ℕ
  pub marks : List ℕ

-- what the function `read_image` returned and left; a refusal has no machine
abbrev pub restored_as : Result Machine ImageError → (block registers marks : List ℕ) → BlockOutcome
restored_as (Ok machine) block registers marks =
    record { answer = image_done; machine = machine; block = block; registers = registers; marks = marks }
restored_as (Err e) block registers marks =
    record { answer = image_reply e; machine = no_machine; block = block; registers = registers; marks = marks }

-- 02, Six: "Reading gives 15 first, then 8 if the lent buffers aren't of its machine's size": the machine's block is a lent buffer too
abbrev pub block_refused : Verdict → ImageError
block_refused (Ok u) = BadArguments
block_refused (Err e) = e

-- a read as it leaves the block: the ranges where it is done. A refusal changes nothing
abbrev pub into_block : List ℕ → ReadOutcome → BlockOutcome
into_block block o = record {
  answer = o.answer;
  machine = o.machine;
  block = cond (eqb o.answer.number 0) (put_seals o.seals block) block;
  registers = o.registers;
  marks = o.marks;
}

unfoldable pub read_block : (image block registers marks : List ℕ) → BlockOutcome
read_block image block registers marks =
    cond (eqb (length block) block_bytes)
    (into_block block (read_image image registers marks))
    (restored_as (Err (block_refused (check_image image))) block registers marks)
