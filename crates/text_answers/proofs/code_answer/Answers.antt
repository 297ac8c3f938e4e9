use mathlib.Core.Path.{◌≡◌, sym, ap, ap₂, ◌∙◌}
use mathlib.Core.Bool.{Bool, cond}
use Prim.Native.Nat.{ℕ, ◌%◌}
use native.Mathlib.Omega.{arith}
use Rattle.machine.specs.declared.Wrong.TheVariants.{Unlisted}
use Rattle.machine.specs.declared.Instruction.{Instruction}
use Rattle.machine.specs.declared.Instruction.TheVariants.{Illegal}
use Rattle.machine.specs.Listing.{bits, listing, ranged, decode}
use Rattle.unit_table.specs.Table.{entry_of, rest_right, meant}
use Rattle.unit_table.proofs.TableLaws.{wrong-opcode, table-decodes}
use Rattle.text_assembly.specs.Answers.{code_answer}
use Rattle.text_answers.proofs.code_answer.Goals as goal

opcode : (word : ℕ) → word % 128 ≡ 119 → bits 6 0 word ≡ 0b1110111
opcode word h = omega arith

abbrev read : (number word : ℕ) → Bool → Instruction
read number word right = cond right (ranged (meant number word listing)) (Illegal Unlisted)

-- read by its entry and a test of bits 24..20
reads : (word number : ℕ) (right : Bool) → word % 128 ≡ 119 → number ≡ entry_of word → right ≡ rest_right number word → read number word right ≡ decode word
reads word number right o n r =
    ap₂ (λ (t : Bool) (k : ℕ). read k word t) (r ∙ ap (λ (k : ℕ). rest_right k word) n) n
    ∙ table-decodes word (opcode word o)

pub returns-then-word-ne119 : goal.returns-then-word-ne119
returns-then-word-ne119 c = ap code_answer (wrong-opcode c.args.word (λ e. c.if-word-ne119.true (omega (arith, e))))

pub returns-then-not-right : goal.returns-then-not-right
returns-then-not-right c =
    let a = c.args in
    let r = c.rest_right-right in
    ap code_answer (sym (ap (read a.number a.word) c.if-not-right.true) ∙ reads a.word a.number r.result c.if-word-ne119.false c.requires r.ensures)

pub returns : goal.returns
returns c =
    let a = c.args in
    let r = c.rest_right-right in
    c.number_answer.ensures
    ∙ ap code_answer (sym (ap (read a.number a.word) c.if-not-right.false) ∙ reads a.word a.number r.result c.if-word-ne119.false c.requires r.ensures)
