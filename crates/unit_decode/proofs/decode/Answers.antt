use mathlib.Core.Path.{◌≡◌, sym, ap, ap₂, ◌∙◌}
use mathlib.Core.Bool.{Bool, cond}
use Prim.Native.Nat.{ℕ, ◌%◌}
use native.Mathlib.Omega.{arith}
use borrow.Author.Tests.{not-true, not-false}
use Rattle.machine.specs.declared.Wrong.TheVariants.{Unlisted}
use Rattle.machine.specs.declared.Instruction.TheVariants.{Illegal}
use Rattle.machine.specs.Listing.{bits, listing, ranged, decode}
use Rattle.unit_table.specs.Table.{entry_of, rest_right, meant}
use Rattle.unit_table.proofs.TableLaws.{wrong-opcode, table-decodes}
use borrow.Author.Rules.{rules}
use Rattle.unit_decode.proofs.decode.Goals as goal

opcode : (word : ℕ) → word % 128 ≡ 119 → bits 6 0 word ≡ 0b1110111
opcode word h = omega arith

-- read by an entry and a test of bits 24..20
reads : (word number : ℕ) (right : Bool) → word % 128 ≡ 119 → number ≡ entry_of word → right ≡ rest_right number word
    → cond right (ranged (meant number word listing)) (Illegal Unlisted) ≡ decode word
reads word number right o n r =
    ap₂ (λ (t : Bool) (k : ℕ). cond t (ranged (meant k word listing)) (Illegal Unlisted)) (r ∙ ap (λ (k : ℕ). rest_right k word) n) n
    ∙ table-decodes word (opcode word o)

pub returns-then-word-ne119 : goal.returns-then-word-ne119
returns-then-word-ne119 c = wrong-opcode c.args.word (λ e. c.if-word-ne119.true (omega (arith, e)))

pub returns-then-not-right : goal.returns-then-not-right
returns-then-not-right c =
    let w = c.args.word in
    let r = c.rest_right-right in
    let n = c.number_of-number in
    sym (ap (λ (t : Bool). cond t (ranged (meant n.result w listing)) (Illegal Unlisted)) c.if-not-right.true)
    ∙ reads w n.result r.result c.if-word-ne119.false n.ensures r.ensures

pub returns : goal.returns
returns c =
    let w = c.args.word in
    let r = c.rest_right-right in
    let n = c.number_of-number in
    c.meant.ensures
    ∙ sym (ap (λ (t : Bool). cond t (ranged (meant n.result w listing)) (Illegal Unlisted)) c.if-not-right.false)
    ∙ reads w n.result r.result c.if-word-ne119.false n.ensures r.ensures
