-- Nothing of a result is cut.
use Rattle.numbers.proofs.Kit.{◌≡◌, refl, Bool, true, false, cond, List, ◌++◌, Option, none, some, ℕ, suc, ◌≤◌, arith, eqb, leb, length, drop}
use Rattle.machine.specs.declared.Instruction.{Instruction}
use Rattle.machine.specs.declared.Instruction.TheVariants.{Illegal, SetTypeImmediate, SetType, SetTileImmediate, SetTile, Load, Store, Multiply, Combine, Scale, ScaleImmediate, FloatMultiply, MoveOut, MoveIn}
use Rattle.machine.specs.Listing.{decode}
use Rattle.numbers_format.specs.Parser.{Parsed}
use Rattle.numbers_format.specs.Parser.Parsed.{whole, stopped}
use Rattle.std.specs.Prelude.{Ok, Err}
use Rattle.text_assembly.specs.declared.TextError.TheVariants.{BadArguments, NoRoom, BadLine}
use Rattle.text_assembly.specs.Answers.{Texted, text_reply, code_answer}
use Rattle.text_assembly.specs.Lines.{line}
use Rattle.text_assembly.specs.Reading.{read_line}
use Rattle.text_assembly.proofs.SizeLaws.{line-size}
use Rattle.c_text.specs.TextCalls.{packed_text, Lined, lined, lined_as, host_word_text, word_bytes, word_out, word_as, host_text_word}
use Rattle.c_text.specs.Theorems.{PacksWhole, WordTextPacksWhole, read_answer, TextWordPacksWhole}
use Rattle.c_text.proofs.CallLaws.{number_small, stop-short}

packs : (a : Texted) (size : ℕ) → size ≤ 32 → (text_reply a).column ≤ 33 → PacksWhole (packed_text (text_reply a) size) (text_reply a) size
unfolding packed_text
packs a size s c = let v = value (eqb (text_reply a).number 0) in let n = number_small a in (omega arith, omega arith)
  where
    value : (t : Bool) → cond t size (text_reply a).column ≤ 33
    value true = omega (arith, s)
    value false = c

code-column : (i : Instruction) → (text_reply (code_answer i)).column ≤ 33
code-column (Illegal wrong) = omega arith
code-column (SetTypeImmediate rd immediate) = omega arith
code-column (SetType rd rs1) = omega arith
code-column (SetTileImmediate dimension rd immediate) = omega arith
code-column (SetTile dimension rd rs1) = omega arith
code-column (Load form matrix width md rs1 rs2) = omega arith
code-column (Store form matrix width ms3 rs1 rs2) = omega arith
code-column (Multiply factor md ms1 ms2) = omega arith
code-column (Combine sum factor md ms1) = omega arith
code-column (Scale factor md ms1 rs2) = omega arith
code-column (ScaleImmediate factor md ms1 immediate) = omega arith
code-column (FloatMultiply md ms1 ms2) = omega arith
code-column (MoveOut form vd ms1 rs2) = omega arith
code-column (MoveIn form md vs1 rs2) = omega arith

pub word-text-packs : WordTextPacksWhole
unfolding host_word_text
word-text-packs word text b = go (line word) refl
  where
    go : (x : Option (List ℕ)) → line word ≡ x → PacksWhole (packed_text (lined_as word x text).answer (lined_as word x text).size) (lined_as word x text).answer (lined_as word x text).size
    go none e = packs (code_answer (decode word)) 0 (omega arith) (code-column (decode word))
    go (some s) e = at (leb (length s) (length text))
      where
        both : Bool → Lined
        both t = cond t (lined (Ok tt) (length s) (s ++ drop (length s) text)) (lined (Err NoRoom) 0 text)

        at : (t : Bool) → PacksWhole (packed_text (both t).answer (both t).size) (both t).answer (both t).size
        at true = packs (Ok tt) (length s) (line-size word s (b, e)) (omega arith)
        at false = packs (Err NoRoom) 0 (omega arith) (omega arith)

pub text-word-packs : TextWordPacksWhole
unfolding host_text_word
text-word-packs text word = go (eqb (length word) word_bytes) (read_line text) refl
  where
    go : (t : Bool) (x : Parsed ℕ) → read_line text ≡ x → PacksWhole (cond t (word_as x word) (word_out (Err BadArguments) word)).result (text_reply (cond t (read_answer x) (Err BadArguments))) 0
    go false x e = packs (Err BadArguments) 0 (omega arith) (omega arith)
    go true (whole w) e = packs (Ok tt) 0 (omega arith) (omega arith)
    go true (stopped p) e = packs (Err (BadLine (suc p))) 0 (omega arith) (omega (arith, stop-short text p e))
