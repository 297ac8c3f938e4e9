-- What is proved of these definitions. The proofs stand in proofs/.
use Rattle.std.specs.Prelude.{Ok, ◌≡◌, ◌⊎◌, ◌++◌, ◌≤◌}
use Rattle.numbers.specs.Kit.{true, List, ℕ, length, take, drop, get_or}
use Rattle.numbers_format.specs.Numbers.{ByteString}
use Rattle.numbers_format.specs.Formats.{Ends, Accepted}
use Rattle.machine.specs.declared.Machine.{Machine}
use Rattle.machine.specs.Geometry.{register_bytes, sealed, Bench, bench_of}
use Rattle.machine.specs.Setting.{chosen}
use Rattle.machine.specs.Faults.{sound_bench}
use Rattle.machine.specs.Alike.{Alike}
use Rattle.machine.specs.Theorems.{Given, after_all}
use Rattle.image.specs.declared.ImageError.TheVariants.{BadArguments, Damaged}
use Rattle.image.specs.Answers.{image_done, image_reply}
use Rattle.image.specs.Cells.{Cell, runs, spread, Fit}
use Rattle.image.specs.Images.{Seals, image_of, sound_with, IsImage}
use Rattle.image.specs.ImageFormat.{image_format}
use Rattle.image.specs.Writing.{write_reply, write_image}
use Rattle.image.specs.Reading.{ReadOutcome, read_image}

-- ---- images

abbrev pub image_in : Bench → List ℕ
image_in B = image_of B.machine B.seals B.registers B.marks

-- "Two machines that differ only in unmarked bytes have the same image": at fault or not
abbrev pub AlikeHaveOneImage : Type 0
AlikeHaveOneImage = (B B' : Bench) → Alike B B' → image_in B ≡ image_in B'

-- "others never"
abbrev pub OthersNever : Type 0
OthersNever = (B B' : Bench) → sound_bench B ≡ true → sound_bench B' ≡ true → ByteString B.registers → ByteString B'.registers
    → image_in B ≡ image_in B' → Alike B B'

-- "A run is a maximal stretch of marked register bytes": the runs have each marked byte and no other, none is empty, and after the first
-- each has a gap before it
abbrev pub RunsAreMaximal : Type 0
RunsAreMaximal = (cs : List Cell) → (spread (length cs) (runs cs) ≡ cs) × Fit 0 (length cs) (runs cs)

-- the format accepts the images of machines that are not at fault, and nothing else
abbrev pub FormatIsImages : Type 0
FormatIsImages = (s : List ℕ) → (IsImage s → Accepted image_format s) × (Accepted image_format s → IsImage s)

-- ---- the answers of reading

-- buffers of the machine's size
abbrev pub Fits : Machine → (registers marks : List ℕ) → Type 0
Fits m registers marks = (length registers ≡ register_bytes m.mlen) × (length marks ≡ register_bytes m.mlen)

-- "15 with the place of the first byte at which no accepted image can go on (the length, if only cut short ..)"; "Reading gives 15 first, then 8
-- if the lent buffers aren't of its machine's size."
pub record ReadAnswers (s registers marks : List ℕ) : Type 0 where
  pub is-or-not : IsImage s ⊎ (¬ IsImage s)
  pub fifteen : ¬ IsImage s → (p : ℕ) × ((read_image s registers marks).answer ≡ image_reply (Damaged p)) × Ends IsImage s p
  pub eight : (i : IsImage s) → ¬ Fits i.machine registers marks → (read_image s registers marks).answer ≡ image_reply BadArguments
  pub nought : (i : IsImage s) → Fits i.machine registers marks → (read_image s registers marks).answer ≡ image_done

-- of every byte string and all buffers
abbrev pub ReadIsExact : Type 0
ReadIsExact = (s registers marks : List ℕ) → ByteString s → ReadAnswers s registers marks

-- ---- refusals

abbrev pub ReadRefusalChangesNothing : Type 0
ReadRefusalChangesNothing = (s registers marks : List ℕ) → let o = read_image s registers marks in ¬ (o.answer.number ≡ 0)
    → (o.registers ≡ registers) × (o.marks ≡ marks)

abbrev pub WriteRefusalChangesNothing : Type 0
WriteRefusalChangesNothing = (m : Machine) (seals : Seals) (registers marks room : List ℕ) → let o = write_image m seals registers marks room in ¬ (o.answer.number ≡ 0)
    → (o.size ≡ 0) × (o.room ≡ room)

-- ---- the machine that is read

-- "Reading leaves unmarked register bytes as lent and makes the machine whose image it is, from which demand 2 holds as from a started one":
-- it is not at fault
pub record MakesItsMachine (s lent : List ℕ) (o : ReadOutcome) : Type 0 where
  pub not-at-fault : sound_with o.machine o.seals o.registers o.marks ≡ true
  pub its-image : image_of o.machine o.seals o.registers o.marks ≡ s
  pub as_lent : (q : ℕ) → get_or o.marks q 0 ≡ 0 → get_or o.registers q 0 ≡ get_or lent q 0

abbrev pub ReadMakesItsMachine : Type 0
ReadMakesItsMachine = (s registers marks : List ℕ) → ByteString s → let o = read_image s registers marks in o.answer ≡ image_done
    → MakesItsMachine s registers o

-- and no word changes a byte of its sealed ranges, whatever memory it is lent
abbrev pub SealHoldsFromRead : Type 0
SealHoldsFromRead = (s registers marks memory : List ℕ) → ByteString s → let o = read_image s registers marks in o.answer ≡ image_done
    → (ws : List Given) (q : ℕ) → sealed o.seals q ≡ true
    → get_or (after_all chosen ws (bench_of o.machine o.seals o.registers o.marks memory)).memory q 0 ≡ get_or memory q 0

-- ---- there and back

-- a machine that was written, then read into any buffers of its size, differs from the first at most in unmarked register bytes
abbrev pub WrittenIsReadBack : Type 0
WrittenIsReadBack = (B : Bench) (room registers marks : List ℕ) → sound_bench B ≡ true → ByteString B.registers
    → length (image_in B) ≤ length room → Fits B.machine registers marks
    → let w = write_image B.machine B.seals B.registers B.marks room in
    let o = read_image (take w.size w.room) registers marks in
    (o.answer ≡ image_done) × Alike B (bench_of o.machine o.seals o.registers o.marks B.memory)

-- a machine that was read is written as the bytes that were read
abbrev pub ReadIsWrittenBack : Type 0
ReadIsWrittenBack = (s registers marks room : List ℕ) → ByteString s → let o = read_image s registers marks in o.answer ≡ image_done
    → length s ≤ length room
    → write_image o.machine o.seals o.registers o.marks room ≡ write_reply (Ok (length s)) (s ++ drop (length s) room)
