use mathlib.Core.Path.{◌≡◌, refl, ◌∙◌}
use Prim.Native.Nat.{ℕ, ◌+◌}
use native.Mathlib.Omega.{arith}
use Rattle.machine.specs.declared.Matrix.{Matrix}
use Rattle.machine.specs.declared.Matrix.TheVariants.{MatrixA, MatrixB, MatrixC}
use Rattle.machine.specs.declared.Form.{Form}
use Rattle.machine.specs.declared.Form.TheVariants.{Plain, Transposed}
use Rattle.machine.specs.declared.Instruction.{Instruction}
use Rattle.machine.specs.declared.Instruction.TheVariants.{Load}
use Rattle.machine.specs.Listing.{field7, field15, field20, listing, ranged}
use Rattle.unit_table.specs.Table.{meant, numbered}
use Rattle.unit_table.proofs.TableLaws.{numbered-at, above}
use Rattle.unit_decode.proofs.loading.Goals as goal

abbrev of : Matrix → (w word : ℕ) → Form → Instruction
of k w word f = Load f k w (field7 word) (field15 word) (field20 word)

at : (n m word : ℕ) (f : Form) (k : Matrix) (w : ℕ) → n ≡ m → of k w word Plain ≡ meant m word listing → of k w word Transposed ≡ meant (100 + m) word listing
    → ranged (of k w word f) ≡ ranged (meant (numbered f n) word listing)
at n m word f k w e p t = numbered-at n m word f (of k w word) e p t

pub load-requires : goal.load-requires
load-requires c = refl

pub load-requires-in-10 : goal.load-requires-in-10
load-requires-in-10 c = refl

pub load-requires-in-11 : goal.load-requires-in-11
load-requires-in-11 c = refl

pub load-requires-in-12 : goal.load-requires-in-12
load-requires-in-12 c = refl

pub load-requires-in-13 : goal.load-requires-in-13
load-requires-in-13 c = refl

pub load-requires-in-14 : goal.load-requires-in-14
load-requires-in-14 c = refl

pub load-requires-in-15 : goal.load-requires-in-15
load-requires-in-15 c = refl

pub load-requires-in-16 : goal.load-requires-in-16
load-requires-in-16 c = refl

pub load-requires-in-17 : goal.load-requires-in-17
load-requires-in-17 c = refl

pub load-requires-in-18 : goal.load-requires-in-18
load-requires-in-18 c = refl

pub load-requires-in-19 : goal.load-requires-in-19
load-requires-in-19 c = refl

pub load-requires-in_default : goal.load-requires-in_default
load-requires-in_default c = refl

pub returns-in-9 : goal.returns-in-9
unfolding listing
returns-in-9 c = c.load.ensures ∙ at c.args.number 9 c.args.word c.args.form MatrixA 1 c.in-9.is refl refl

pub returns-in-10 : goal.returns-in-10
unfolding listing
returns-in-10 c = c.load-in-10.ensures ∙ at c.args.number 10 c.args.word c.args.form MatrixA 2 c.in-10.is refl refl

pub returns-in-11 : goal.returns-in-11
unfolding listing
returns-in-11 c = c.load-in-11.ensures ∙ at c.args.number 11 c.args.word c.args.form MatrixA 4 c.in-11.is refl refl

pub returns-in-12 : goal.returns-in-12
unfolding listing
returns-in-12 c = c.load-in-12.ensures ∙ at c.args.number 12 c.args.word c.args.form MatrixA 8 c.in-12.is refl refl

pub returns-in-13 : goal.returns-in-13
unfolding listing
returns-in-13 c = c.load-in-13.ensures ∙ at c.args.number 13 c.args.word c.args.form MatrixB 1 c.in-13.is refl refl

pub returns-in-14 : goal.returns-in-14
unfolding listing
returns-in-14 c = c.load-in-14.ensures ∙ at c.args.number 14 c.args.word c.args.form MatrixB 2 c.in-14.is refl refl

pub returns-in-15 : goal.returns-in-15
unfolding listing
returns-in-15 c = c.load-in-15.ensures ∙ at c.args.number 15 c.args.word c.args.form MatrixB 4 c.in-15.is refl refl

pub returns-in-16 : goal.returns-in-16
unfolding listing
returns-in-16 c = c.load-in-16.ensures ∙ at c.args.number 16 c.args.word c.args.form MatrixB 8 c.in-16.is refl refl

pub returns-in-17 : goal.returns-in-17
unfolding listing
returns-in-17 c = c.load-in-17.ensures ∙ at c.args.number 17 c.args.word c.args.form MatrixC 1 c.in-17.is refl refl

pub returns-in-18 : goal.returns-in-18
unfolding listing
returns-in-18 c = c.load-in-18.ensures ∙ at c.args.number 18 c.args.word c.args.form MatrixC 2 c.in-18.is refl refl

pub returns-in-19 : goal.returns-in-19
unfolding listing
returns-in-19 c = c.load-in-19.ensures ∙ at c.args.number 19 c.args.word c.args.form MatrixC 4 c.in-19.is refl refl

pub returns-in_default : goal.returns-in_default
unfolding listing
returns-in_default c = let n = c.args.number in
    let l = above n 9 11 (omega arith) c.in_default.in_default-own.rest in
    c.load-in_default.ensures ∙ at n 20 c.args.word c.args.form MatrixC 8 (omega (arith, l)) refl refl
