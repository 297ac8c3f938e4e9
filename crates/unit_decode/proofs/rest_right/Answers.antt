use mathlib.Core.Path.{◌≡◌, sym, ap, ◌∙◌}
use mathlib.Core.Bool.{Bool, true, false, cond}
use Prim.Native.Nat.{ℕ}
use lib.Dec.{eqb}
use Rattle.machine.specs.Listing.{field20}
use Rattle.unit_table.specs.Table.{fixes_zero}
use borrow.Author.Rules.{rules}
use Rattle.unit_decode.proofs.rest_right.Goals as goal

pub returns-then-zero : goal.returns-then-zero
returns-then-zero c =
    let a = c.args in
    let e : fixes_zero a.number ≡ true = sym c.fixes_zero-zero.ensures ∙ c.if-zero.true in
    ap (λ (x : ℕ). eqb x 0) c.high_field-rest.ensures ∙ sym (ap (λ (b : Bool). cond b (eqb (field20 a.word) 0) true) e)

pub returns : goal.returns
returns c =
    let a = c.args in
    let e : fixes_zero a.number ≡ false = sym c.fixes_zero-zero.ensures ∙ c.if-zero.false in
    sym (ap (λ (b : Bool). cond b (eqb (field20 a.word) 0) true) e)
