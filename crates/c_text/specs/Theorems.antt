-- What is proved of these definitions. The proofs stand in proofs/.
use Rattle.std.specs.Prelude.{◌≡◌, ◌/◌, ◌%◌, ◌^◌, ◌<◌}
use Rattle.numbers.specs.Kit.{cond, List, ℕ, suc, eqb, length}
use Rattle.numbers_format.specs.Parser.{Parsed}
use Rattle.numbers_format.specs.Parser.Parsed.{whole, stopped}
use Rattle.std.specs.Prelude.{Ok, Err}
use Rattle.text_assembly.specs.declared.TextError.TheVariants.{BadArguments, BadLine}
use Rattle.text_assembly.specs.Answers.{Texted, TextReply, text_reply}
use Rattle.text_assembly.specs.Lines.{line}
use Rattle.text_assembly.specs.Reading.{read_line}
use Rattle.c_text.specs.TextCalls.{Lined, lined_as, text_out, host_word_text, word_bytes, word_left, host_text_word}

-- "A refusal changes no byte of any buffer." A refusal of these: an answer, in bits 15..0, that is not 0
abbrev pub WordTextRefusalChangesNoByte : Type 0
WordTextRefusalChangesNoByte = (word : ℕ) (text : List ℕ)
    → let o = host_word_text word text in
    ¬ (o.result % 2 ^ 16 ≡ 0) → o ≡ text_out o.result text

abbrev pub TextWordRefusalChangesNoByte : Type 0
TextWordRefusalChangesNoByte = (text word : List ℕ)
    → let o = host_text_word text word in
    ¬ (o.result % 2 ^ 16 ≡ 0) → o ≡ word_left o.result word

-- What the host takes out of a result: bits 15..0 are the answer's number, bits 63..16 the line's length where it is written, and else the
-- column that the answer names. Neither is cut: for every word, and for every text of any length.
abbrev pub PacksWhole : (result : ℕ) → TextReply → (size : ℕ) → Type 0
PacksWhole result a size = (result % 2 ^ 16 ≡ a.number) × (result / 2 ^ 16 ≡ cond (eqb a.number 0) size a.column)

abbrev pub WordTextPacksWhole : Type 0
WordTextPacksWhole = (word : ℕ) (text : List ℕ) → word < 2 ^ 32
    → let o : Lined = lined_as word (line word) text in
    PacksWhole (host_word_text word text).result o.answer o.size

-- the answer to a text
abbrev pub read_answer : Parsed ℕ → Texted
read_answer (whole w) = Ok tt
read_answer (stopped place) = Err (BadLine (suc place))

abbrev pub TextWordPacksWhole : Type 0
TextWordPacksWhole = (text word : List ℕ)
    → PacksWhole (host_text_word text word).result (text_reply (cond (eqb (length word) word_bytes) (read_answer (read_line text)) (Err BadArguments))) 0
