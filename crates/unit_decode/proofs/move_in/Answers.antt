use mathlib.Core.Path.{refl}
use native.Mathlib.Omega.{arith}
use borrow.Author.Rules.{rules}
use borrow.Author.Tests.{lt-ltb, le-ltb}
use Rattle.machine.specs.declared.Instruction.TheVariants.{MoveIn}
use Rattle.unit_decode.proofs.Laws.{fields_out, fields_in}
use Rattle.unit_decode.proofs.move_in.Goals as goal

pub returns-then-md-ge2 : goal.returns-then-md-ge2
returns-then-md-ge2 c =
    let f = c.low_field-md in
    let a = c.args in
    fields_out (MoveIn a.form) a.word f.ensures refl refl (le-ltb f.result 2 (omega arith))

pub returns : goal.returns
returns c =
    let f = c.low_field-md in
    let a = c.args in
    fields_in (MoveIn a.form) a.word f.ensures c.middle_field.ensures c.high_field.ensures (lt-ltb f.result 2 (omega arith))
