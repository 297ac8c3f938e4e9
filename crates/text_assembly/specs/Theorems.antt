-- What is proved of these definitions. The proofs stand in proofs/.
use Rattle.std.specs.Prelude.{◌≡◌, ◌^◌, ◌≤◌, ◌<◌}
use Rattle.numbers.specs.Kit.{Bool, true, false, List, Option, none, some, ℕ, length}
use Rattle.numbers.specs.Blocks.{Choice}
use Rattle.machine.specs.declared.Instruction.{Instruction}
use Rattle.machine.specs.declared.Instruction.TheVariants.{Illegal, SetTypeImmediate, SetType, SetTileImmediate, SetTile, Load, Store, Multiply, Combine, Scale, ScaleImmediate, FloatMultiply, MoveOut, MoveIn}
use Rattle.machine.specs.Geometry.{Bench}
use Rattle.machine.specs.Listing.{decode}
use Rattle.machine.specs.Vectors.{Vectors}
use Rattle.machine.specs.Step.{step_with, vector_step}
use Rattle.machine.specs.WordTheorems.{Faultless}
use Rattle.numbers_format.specs.Formats.{Ends}
use Rattle.numbers_format.specs.Parser.{Parsed}
use Rattle.numbers_format.specs.Parser.Parsed.{whole, stopped}
use Rattle.text_assembly.specs.Answers.{code_number}
use Rattle.text_assembly.specs.Lines.{line}
use Rattle.text_assembly.specs.Reading.{read_line}
use Rattle.text_assembly.specs.Words.{word_text, read_word}
use Rattle.text_assembly.specs.Programs.{reply_to}

-- s is the line of the word
abbrev pub Prints : ℕ → List ℕ → Type 0
Prints word s = (word < 2 ^ 32) × (line word ≡ some s)

-- some word prints s
abbrev pub IsLine : List ℕ → Type 0
IsLine s = (word : ℕ) × Prints word s

-- "Every word .. has exactly one line" (a word that decodes), and no other has one
abbrev pub is_legal : Instruction → Bool
is_legal (Illegal wrong) = false
is_legal (SetTypeImmediate rd immediate) = true
is_legal (SetType rd rs1) = true
is_legal (SetTileImmediate dimension rd immediate) = true
is_legal (SetTile dimension rd rs1) = true
is_legal (Load form matrix width md rs1 rs2) = true
is_legal (Store form matrix width ms3 rs1 rs2) = true
is_legal (Multiply factor md ms1 ms2) = true
is_legal (Combine sum factor md ms1) = true
is_legal (Scale factor md ms1 rs2) = true
is_legal (ScaleImmediate factor md ms1 immediate) = true
is_legal (FloatMultiply md ms1 ms2) = true
is_legal (MoveOut form vd ms1 rs2) = true
is_legal (MoveIn form md vs1 rs2) = true

abbrev pub has_line : Option (List ℕ) → Bool
has_line none = false
has_line (some s) = true

abbrev pub LegalHaveLines : Type 0
LegalHaveLines = (word : ℕ) → has_line (line word) ≡ is_legal (decode word)

-- so every word that some machine accepts, under any choice of sizes, has a line
abbrev pub AcceptedHaveLines : Type 0
AcceptedHaveLines = (grant : Choice) (word : ℕ) (xs : List ℕ) (W : Vectors) (B : Bench) → (step_with grant word xs W B).answer.number ≡ 0 → has_line (line word) ≡ true

-- and every word that has a line, some machine accepts in some state
abbrev pub LinesAreAccepted : Type 0
LinesAreAccepted = (word : ℕ) → has_line (line word) ≡ true → (xs : List ℕ) × (W : Vectors) × (B : Bench) × ((vector_step word xs W B).answer.number ≡ 0)

-- "words without a line get what stepping gives for the code", on every machine that is not at fault
abbrev pub CodesAnswered : Type 0
CodesAnswered = (grant : Choice) (word : ℕ) (xs : List ℕ) (W : Vectors) (B : Bench) → Faultless xs W B → has_line (line word) ≡ false
    → (step_with grant word xs W B).answer.number ≡ code_number (decode word)

-- no line is longer than 32 bytes
abbrev pub LinesAreShort : Type 0
LinesAreShort = (word : ℕ) (s : List ℕ) → Prints word s → length s ≤ 32

-- "Reading that line gives the word back"
abbrev pub ReadsBack : Type 0
ReadsBack = (word : ℕ) (s : List ℕ) → Prints word s → read_line s ≡ whole word

-- "and a line is accepted exactly if some word prints it"; a refusal names "the first character at which no accepted line .. can go on"
abbrev pub ReadRight : List ℕ → Parsed ℕ → Type 0
ReadRight s (whole word) = Prints word s
ReadRight s (stopped p) = Ends IsLine s p × ¬ IsLine s

abbrev pub ReadsRight : Type 0
ReadsRight = (s : List ℕ) → ReadRight s (read_line s)

-- no two words have one line
abbrev pub OneWord : Type 0
OneWord = (word other : ℕ) (s : List ℕ) → Prints word s → Prints other s → word ≡ other

-- ---- words in digits

abbrev pub IsWord : List ℕ → Type 0
IsWord s = (word : ℕ) × (word < 2 ^ 32) × (s ≡ word_text word)

-- "or for words no eight digits, can go on"
abbrev pub WordRight : List ℕ → Parsed ℕ → Type 0
WordRight s (whole word) = (word < 2 ^ 32) × (s ≡ word_text word)
WordRight s (stopped p) = Ends IsWord s p × ¬ IsWord s

abbrev pub WordsRight : Type 0
WordsRight = (s : List ℕ) → WordRight s (read_word s)

abbrev pub WordsReadBack : Type 0
WordsReadBack = (word : ℕ) → word < 2 ^ 32 → read_word (word_text word) ≡ whole word

-- ---- the programs, a line at a time: a word that has a line comes back

abbrev pub LinesGoBack : Type 0
LinesGoBack = (word : ℕ) → word < 2 ^ 32 → has_line (line word) ≡ true → reply_to true (reply_to false (word_text word)) ≡ word_text word
