-- A refusal changes no byte of any buffer.
use Rattle.numbers.proofs.Kit.{◌≡◌, refl, Bool, true, false, cond, List, ◌++◌, Option, none, some, ℕ, ◌%◌, ◌^◌, arith, eqb, leb, length, drop}
use Rattle.numbers_format.specs.Parser.{Parsed}
use Rattle.numbers_format.specs.Parser.Parsed.{whole, stopped}
use Rattle.std.specs.Prelude.{Ok, Err}
use Rattle.text_assembly.specs.declared.TextError.TheVariants.{BadArguments, NoRoom}
use Rattle.text_assembly.specs.Answers.{text_reply}
use Rattle.text_assembly.specs.Lines.{line}
use Rattle.text_assembly.specs.Reading.{read_line}
use Rattle.c_text.specs.TextCalls.{packed_text, Lined, lined, lined_as, HostText, text_out, host_word_text, word_bytes, HostWord, word_out, word_as, host_text_word, word_left}
use Rattle.c_text.specs.Theorems.{WordTextRefusalChangesNoByte, TextWordRefusalChangesNoByte}

-- answer 0 packs as 0 in bits 15..0
packs-nought : (size : ℕ) → packed_text (text_reply (Ok tt)) size % 2 ^ 16 ≡ 0
unfolding packed_text
packs-nought size = omega arith

pub word-text-refusal : WordTextRefusalChangesNoByte
unfolding host_word_text
word-text-refusal word text = go (line word)
  where
    out : Lined → HostText
    out o = text_out (packed_text o.answer o.size) o.text

    go : (x : Option (List ℕ)) → ¬ ((out (lined_as word x text)).result % 2 ^ 16 ≡ 0) → out (lined_as word x text) ≡ text_out (out (lined_as word x text)).result text
    go none h = refl
    go (some s) h = at (leb (length s) (length text)) h
      where
        both : Bool → Lined
        both t = cond t (lined (Ok tt) (length s) (s ++ drop (length s) text)) (lined (Err NoRoom) 0 text)

        at : (t : Bool) → ¬ ((out (both t)).result % 2 ^ 16 ≡ 0) → out (both t) ≡ text_out (out (both t)).result text
        at true h = absurd (h (packs-nought (length s)))
        at false h = refl

pub text-word-refusal : TextWordRefusalChangesNoByte
unfolding host_text_word
text-word-refusal text word = go (eqb (length word) word_bytes) (read_line text)
  where
    out : Bool → Parsed ℕ → HostWord
    out t x = cond t (word_as x word) (word_out (Err BadArguments) word)

    go : (t : Bool) (x : Parsed ℕ) → ¬ ((out t x).result % 2 ^ 16 ≡ 0) → out t x ≡ word_left (out t x).result word
    go false x h = refl
    go true (whole w) h = absurd (h (packs-nought 0))
    go true (stopped p) h = refl
