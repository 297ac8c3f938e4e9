-- 02, Fourteen: the two programs, text to text. A text is its bytes.
use Rattle.std.specs.Prelude.{◌∷◌, ◌++◌, Err}
use Rattle.numbers.specs.Kit.{Bool, cond, List, [], Option, none, some, ℕ, suc, eqb, leb, length}
use Rattle.machine.specs.Listing.{decode}
use Rattle.text_lines.specs.Lines.{decimal}
use Rattle.numbers_format.specs.Parser.{Parsed}
use Rattle.numbers_format.specs.Parser.Parsed.{whole, stopped}
use Rattle.text_assembly.specs.declared.TextError.TheVariants.{BadArguments, BadLine}
use Rattle.text_assembly.specs.Answers.{Texted, text_reply, code_answer}
use Rattle.text_assembly.specs.Bytes.{bytes}
use Rattle.text_assembly.specs.Lines.{line}
use Rattle.text_assembly.specs.Reading.{read_line}
use Rattle.text_assembly.specs.Words.{word_text, read_word}

-- ---- "A refused line is printed as `answer`, the number and the column, one space between."

abbrev pub refusal : (answer column : ℕ) → List ℕ
refusal answer column = bytes "answer " ++ (decimal answer ++ (32 ∷ decimal column))

abbrev pub refused : Texted → List ℕ
refused a = refusal (text_reply a).number (text_reply a).column

-- "17 with the column, from 1": the place counts from 0
abbrev pub bad_line : ℕ → List ℕ
bad_line place = refused (Err (BadLine (suc place)))

-- ---- a line of each program

abbrev pub listed : ℕ → Option (List ℕ) → List ℕ
listed word none = refused (code_answer (decode word))
listed word (some s) = s

abbrev pub listed_as : Parsed ℕ → List ℕ
listed_as (whole word) = listed word (line word)
listed_as (stopped place) = bad_line place

abbrev pub assembled_as : Parsed ℕ → List ℕ
assembled_as (whole word) = word_text word
assembled_as (stopped place) = bad_line place

-- from words to text, or back
abbrev pub reply_to : (back : Bool) → List ℕ → List ℕ
reply_to back s = cond back (assembled_as (read_line s)) (listed_as (read_word s))

-- ---- "Each line feed ends a line; bytes after the last one are a line too."

abbrev pub last_line : List ℕ → List (List ℕ)
last_line [] = []
last_line (b ∷ l) = (b ∷ l) ∷ []

-- where l is what was read of the first line
abbrev pub lines_from : List ℕ → List ℕ → List (List ℕ)
lines_from l [] = last_line l
lines_from l (b ∷ t) = cond (eqb b 10) (l ∷ lines_from [] t) (lines_from (l ++ (b ∷ [])) t)

abbrev pub lines_of : List ℕ → List (List ℕ)
lines_of t = lines_from [] t

-- ---- the whole text

abbrev pub replies : (back : Bool) → List (List ℕ) → List ℕ
replies back [] = []
replies back (l ∷ ls) = reply_to back l ++ (10 ∷ replies back ls)

-- "Input above 65,536 bytes gives `answer 8 0` alone."
unfoldable pub program_text : (back : Bool) → List ℕ → List ℕ
program_text back t = cond (leb (length t) 65536) (replies back (lines_of t)) (refused (Err BadArguments) ++ (10 ∷ []))
