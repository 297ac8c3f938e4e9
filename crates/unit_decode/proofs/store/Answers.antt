use mathlib.Core.Path.{refl}
use native.Mathlib.Omega.{arith}
use borrow.Author.Rules.{rules}
use borrow.Author.Tests.{lt-ltb, le-ltb}
use Rattle.machine.specs.declared.Instruction.TheVariants.{Store}
use Rattle.machine.specs.Geometry.{register_count}
use Rattle.unit_decode.proofs.Laws.{fields_out, fields_in}
use Rattle.unit_decode.proofs.store.Goals as goal

pub returns-then-ms3-count : goal.returns-then-ms3-count
returns-then-ms3-count c =
    let f = c.low_field-ms3 in
    let a = c.args in
    fields_out (Store a.form a.matrix a.width) a.word f.ensures refl refl (le-ltb f.result (register_count a.matrix) (omega (arith, c.requires)))

pub returns : goal.returns
returns c =
    let f = c.low_field-ms3 in
    let a = c.args in
    fields_in (Store a.form a.matrix a.width) a.word f.ensures c.middle_field.ensures c.high_field.ensures (lt-ltb f.result (register_count a.matrix) (omega (arith, c.requires)))
