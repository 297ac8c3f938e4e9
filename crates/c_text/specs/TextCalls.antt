-- What each call on lines of assembler text answers and leaves (include/bodlarina.h).
use Rattle.std.specs.Prelude.{◌++◌, ◌+◌, ◌*◌, ◌%◌, ◌^◌}
use Rattle.numbers.specs.Kit.{cond, List, Option, none, some, ℕ, suc, eqb, leb, length, drop}
use Rattle.numbers.specs.Tile.{put_le}
use Rattle.machine.specs.Listing.{decode}
use Rattle.numbers_format.specs.Parser.{Parsed}
use Rattle.numbers_format.specs.Parser.Parsed.{whole, stopped}
use Rattle.std.specs.Prelude.{Result, Ok, Err}
use Rattle.text_assembly.specs.declared.TextError.{TextError}
use Rattle.text_assembly.specs.declared.TextError.TheVariants.{BadArguments, NoRoom, BadLine}
use Rattle.text_assembly.specs.Answers.{Texted, TextReply, text_reply, code_answer}
use Rattle.text_assembly.specs.Lines.{line}
use Rattle.text_assembly.specs.Reading.{read_line}

-- A result packs answer | value << 16: the value is the line's length where it is written, and else the column that the answer names. The
-- function takes any u64, so the value is cut to its 48 bits. No call loses by it (Theorems.antt: WordTextPacksWhole, TextWordPacksWhole).
unfoldable pub packed_text : TextReply → ℕ → ℕ
packed_text a size = a.number + cond (eqb a.number 0) size a.column % 2 ^ 48 * 2 ^ 16

-- of what a function finds: a length, or what is wrong
abbrev pub packed_result : Result ℕ TextError → ℕ
packed_result (Ok size) = packed_text (text_reply (Ok tt)) size
packed_result (Err e) = packed_text (text_reply (Err e)) 0

-- ---- the line of a word

-- what is answered, the line's length, and what is left of the lent text
pub record Lined : Type 0 where
  pub answer : TextReply
  pub size : ℕ
  pub text : List ℕ

abbrev pub lined : Texted → ℕ → List ℕ → Lined
lined a size text = record { answer = text_reply a; size = size; text = text }

-- a word without a line gets what stepping gives for the code; a line that does not fit the lent text 14; else it is written to the front
abbrev pub lined_as : ℕ → Option (List ℕ) → List ℕ → Lined
lined_as word none text = lined (code_answer (decode word)) 0 text
lined_as word (some s) text = cond (leb (length s) (length text)) (lined (Ok tt) (length s) (s ++ drop (length s) text)) (lined (Err NoRoom) 0 text)

-- what a call of bodlarina_word_text returns and leaves
pub record HostText : Type 0 where
  pub result : ℕ
  pub text : List ℕ

abbrev pub text_out : ℕ → List ℕ → HostText
text_out result text = record { result = result; text = text }

unfoldable pub host_word_text : ℕ → List ℕ → HostText
host_word_text word text = let o : Lined = lined_as word (line word) text in text_out (packed_text o.answer o.size) o.text

-- ---- the word of a line

-- a number of 64 bits, low byte first
abbrev pub word_bytes : ℕ
word_bytes = 8

-- what a call of bodlarina_text_word returns and leaves
pub record HostWord : Type 0 where
  pub result : ℕ
  pub word : List ℕ

abbrev pub word_out : Texted → List ℕ → HostWord
word_out a word = record { result = packed_text (text_reply a) 0; word = word }

-- "17 with the column, from 1": the place counts from 0
abbrev pub word_as : Parsed ℕ → List ℕ → HostWord
word_as (whole w) word = word_out (Ok tt) (put_le 0 word_bytes w word)
word_as (stopped place) word = word_out (Err (BadLine (suc place))) word

-- a block of the wrong length is refused with 8, first
unfoldable pub host_text_word : (text word : List ℕ) → HostWord
host_text_word text word = cond (eqb (length word) word_bytes) (word_as (read_line text) word) (word_out (Err BadArguments) word)

abbrev pub word_left : ℕ → List ℕ → HostWord
word_left result word = record { result = result; word = word }
