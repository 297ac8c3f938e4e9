use mathlib.Core.Path.{◌≡◌, refl, ◌∙◌}
use Prim.Native.Nat.{ℕ, ◌+◌}
use native.Mathlib.Omega.{arith}
use Rattle.machine.specs.declared.Matrix.{Matrix}
use Rattle.machine.specs.declared.Matrix.TheVariants.{MatrixA, MatrixB, MatrixC}
use Rattle.machine.specs.declared.Form.{Form}
use Rattle.machine.specs.declared.Form.TheVariants.{Plain, Transposed}
use Rattle.machine.specs.declared.Instruction.{Instruction}
use Rattle.machine.specs.declared.Instruction.TheVariants.{Store}
use Rattle.machine.specs.Listing.{field7, field15, field20, listing, ranged}
use Rattle.unit_table.specs.Table.{meant, numbered}
use Rattle.unit_table.proofs.TableLaws.{numbered-at, above}
use Rattle.unit_decode.proofs.storing.Goals as goal

abbrev of : Matrix → (w word : ℕ) → Form → Instruction
of k w word f = Store f k w (field7 word) (field15 word) (field20 word)

at : (n m word : ℕ) (f : Form) (k : Matrix) (w : ℕ) → n ≡ m → of k w word Plain ≡ meant m word listing → of k w word Transposed ≡ meant (100 + m) word listing
    → ranged (of k w word f) ≡ ranged (meant (numbered f n) word listing)
at n m word f k w e p t = numbered-at n m word f (of k w word) e p t

pub store-requires : goal.store-requires
store-requires c = refl

pub store-requires-in-22 : goal.store-requires-in-22
store-requires-in-22 c = refl

pub store-requires-in-23 : goal.store-requires-in-23
store-requires-in-23 c = refl

pub store-requires-in-24 : goal.store-requires-in-24
store-requires-in-24 c = refl

pub store-requires-in-25 : goal.store-requires-in-25
store-requires-in-25 c = refl

pub store-requires-in-26 : goal.store-requires-in-26
store-requires-in-26 c = refl

pub store-requires-in-27 : goal.store-requires-in-27
store-requires-in-27 c = refl

pub store-requires-in-28 : goal.store-requires-in-28
store-requires-in-28 c = refl

pub store-requires-in-29 : goal.store-requires-in-29
store-requires-in-29 c = refl

pub store-requires-in-30 : goal.store-requires-in-30
store-requires-in-30 c = refl

pub store-requires-in-31 : goal.store-requires-in-31
store-requires-in-31 c = refl

pub store-requires-in_default : goal.store-requires-in_default
store-requires-in_default c = refl

pub returns-in-21 : goal.returns-in-21
unfolding listing
returns-in-21 c = c.store.ensures ∙ at c.args.number 21 c.args.word c.args.form MatrixA 1 c.in-21.is refl refl

pub returns-in-22 : goal.returns-in-22
unfolding listing
returns-in-22 c = c.store-in-22.ensures ∙ at c.args.number 22 c.args.word c.args.form MatrixA 2 c.in-22.is refl refl

pub returns-in-23 : goal.returns-in-23
unfolding listing
returns-in-23 c = c.store-in-23.ensures ∙ at c.args.number 23 c.args.word c.args.form MatrixA 4 c.in-23.is refl refl

pub returns-in-24 : goal.returns-in-24
unfolding listing
returns-in-24 c = c.store-in-24.ensures ∙ at c.args.number 24 c.args.word c.args.form MatrixA 8 c.in-24.is refl refl

pub returns-in-25 : goal.returns-in-25
unfolding listing
returns-in-25 c = c.store-in-25.ensures ∙ at c.args.number 25 c.args.word c.args.form MatrixB 1 c.in-25.is refl refl

pub returns-in-26 : goal.returns-in-26
unfolding listing
returns-in-26 c = c.store-in-26.ensures ∙ at c.args.number 26 c.args.word c.args.form MatrixB 2 c.in-26.is refl refl

pub returns-in-27 : goal.returns-in-27
unfolding listing
returns-in-27 c = c.store-in-27.ensures ∙ at c.args.number 27 c.args.word c.args.form MatrixB 4 c.in-27.is refl refl

pub returns-in-28 : goal.returns-in-28
unfolding listing
returns-in-28 c = c.store-in-28.ensures ∙ at c.args.number 28 c.args.word c.args.form MatrixB 8 c.in-28.is refl refl

pub returns-in-29 : goal.returns-in-29
unfolding listing
returns-in-29 c = c.store-in-29.ensures ∙ at c.args.number 29 c.args.word c.args.form MatrixC 1 c.in-29.is refl refl

pub returns-in-30 : goal.returns-in-30
unfolding listing
returns-in-30 c = c.store-in-30.ensures ∙ at c.args.number 30 c.args.word c.args.form MatrixC 2 c.in-30.is refl refl

pub returns-in-31 : goal.returns-in-31
unfolding listing
returns-in-31 c = c.store-in-31.ensures ∙ at c.args.number 31 c.args.word c.args.form MatrixC 4 c.in-31.is refl refl

pub returns-in_default : goal.returns-in_default
unfolding listing
returns-in_default c = let n = c.args.number in
    let l = above n 21 11 (omega arith) c.in_default.in_default-own.rest in
    c.store-in_default.ensures ∙ at n 32 c.args.word c.args.form MatrixC 8 (omega (arith, l)) refl refl
