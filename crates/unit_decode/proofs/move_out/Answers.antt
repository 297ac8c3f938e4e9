use mathlib.Core.Path.{refl}
use native.Mathlib.Omega.{arith}
use borrow.Author.Rules.{rules}
use borrow.Author.Tests.{lt-ltb, le-ltb}
use Rattle.machine.specs.declared.Instruction.TheVariants.{MoveOut}
use Rattle.unit_decode.proofs.Laws.{fields_out, fields_in}
use Rattle.unit_decode.proofs.move_out.Goals as goal

pub returns-then-ms1-ge2 : goal.returns-then-ms1-ge2
returns-then-ms1-ge2 c =
    let f = c.middle_field-ms1 in
    let a = c.args in
    fields_out (MoveOut a.form) a.word refl f.ensures refl (le-ltb f.result 2 (omega arith))

pub returns : goal.returns
returns c =
    let f = c.middle_field-ms1 in
    let a = c.args in
    fields_in (MoveOut a.form) a.word c.low_field.ensures f.ensures c.high_field.ensures (lt-ltb f.result 2 (omega arith))
