use mathlib.Core.Path.{refl}
use native.Mathlib.Omega.{arith}
use borrow.Author.Rules.{rules}
use borrow.Author.Tests.{lt-ltb, le-ltb}
use Rattle.machine.specs.declared.Instruction.TheVariants.{Load}
use Rattle.machine.specs.Geometry.{register_count}
use Rattle.unit_decode.proofs.Laws.{fields_out, fields_in}
use Rattle.unit_decode.proofs.load.Goals as goal

pub returns-then-md-count : goal.returns-then-md-count
returns-then-md-count c =
    let f = c.low_field-md in
    let a = c.args in
    fields_out (Load a.form a.matrix a.width) a.word f.ensures refl refl (le-ltb f.result (register_count a.matrix) (omega (arith, c.requires)))

pub returns : goal.returns
returns c =
    let f = c.low_field-md in
    let a = c.args in
    fields_in (Load a.form a.matrix a.width) a.word f.ensures c.middle_field.ensures c.high_field.ensures (lt-ltb f.result (register_count a.matrix) (omega (arith, c.requires)))
