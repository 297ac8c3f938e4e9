-- 02, Six: reading an image.
use Rattle.std.specs.Prelude.{◌∷◌, Result, Ok, Err}
use Rattle.numbers.specs.Kit.{Bool, cond, List, [], ℕ, eqb, length}
use Rattle.numbers_format.specs.Parser.{Parsed, parse}
use Rattle.numbers_format.specs.Parser.Parsed.{whole, stopped}
use Rattle.machine.specs.declared.Machine.{Machine}
use Rattle.machine.specs.Tests.{every}
use Rattle.machine.specs.Geometry.{register_bytes}
use Rattle.machine.specs.Starting.{no_machine}
use Rattle.image.specs.declared.ImageError.{ImageError}
use Rattle.image.specs.declared.ImageError.TheVariants.{BadArguments, Damaged}
use Rattle.image.specs.Answers.{ImageReply, image_done, image_reply}
use Rattle.image.specs.Cells.{Cell, spread, over, marks_of}
use Rattle.image.specs.Images.{Seals, machine_from}
use Rattle.image.specs.ImageFormat.{Described, all_register_bytes, image_format}

-- whether an input is an image, or the place of its fault
abbrev pub Verdict : Type 0
Verdict = Result Unit ImageError

abbrev pub verdict_of : Parsed Described → Verdict
verdict_of (whole d) = Ok tt
verdict_of (stopped p) = Err (Damaged p)

unfoldable pub check_image : List ℕ → Verdict
check_image image = verdict_of (parse image_format image)

pub record ReadOutcome : Type 0 where
  pub answer : ImageReply
  pub machine : Machine
  pub seals : Seals
  pub registers : List ℕ
  pub marks : List ℕ

abbrev pub restored : Machine → Seals → (registers marks : List ℕ) → ReadOutcome
restored machine seals registers marks = record { answer = image_done; machine = machine; seals = seals; registers = registers; marks = marks }

abbrev pub not_restored : ImageError → (registers marks : List ℕ) → ReadOutcome
not_restored e registers marks = record { answer = image_reply e; machine = no_machine; seals = []; registers = registers; marks = marks }

-- the cells of the machine whose image it is
abbrev pub cells_in : Described → List Cell
cells_in d = spread (all_register_bytes d.header.mlen) d.body

-- the lent buffers are of its machine's size
abbrev pub fitted : Described → (registers marks : List ℕ) → Bool
fitted d registers marks =
    let size : ℕ = register_bytes (machine_from d.header).mlen in
    every (eqb (length registers) size ∷ eqb (length marks) size ∷ [])

-- "Reading leaves unmarked register bytes as lent and makes the machine whose image it is"; ".. gives 15 first, then 8 if the lent buffers
-- aren't of its machine's size." A refusal changes nothing.
abbrev pub read_as : Parsed Described → (registers marks : List ℕ) → ReadOutcome
read_as (stopped p) registers marks = not_restored (Damaged p) registers marks
read_as (whole d) registers marks =
    cond (fitted d registers marks)
    (restored (machine_from d.header) d.header.seals (over (cells_in d) registers) (marks_of (cells_in d)))
    (not_restored BadArguments registers marks)

unfoldable pub read_image : (image registers marks : List ℕ) → ReadOutcome
read_image image registers marks = read_as (parse image_format image) registers marks
