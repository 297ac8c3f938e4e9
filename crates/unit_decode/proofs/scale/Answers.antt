use mathlib.Core.Path.{refl}
use native.Mathlib.Omega.{arith}
use borrow.Author.Rules.{rules}
use borrow.Author.Tests.{lt-ltb, le-ltb}
use Rattle.machine.specs.declared.Instruction.TheVariants.{Scale}
use Rattle.unit_decode.proofs.Laws.{fields_out, fields_in}
use Rattle.unit_decode.proofs.scale.Goals as goal

pub returns-then-md-ge2 : goal.returns-then-md-ge2
returns-then-md-ge2 c =
    let m = c.middle_field-ms1 in
    let l = c.low_field-md in
    let a = c.args in
    fields_out (Scale a.factor) a.word l.ensures m.ensures refl (rw (le-ltb l.result 2 (omega arith)))

pub returns-then-ms1-ge2 : goal.returns-then-ms1-ge2
returns-then-ms1-ge2 c =
    let m = c.middle_field-ms1 in
    let l = c.low_field-md in
    let a = c.args in
    fields_out (Scale a.factor) a.word l.ensures m.ensures refl (rw (lt-ltb l.result 2 (omega arith), le-ltb m.result 2 (omega arith)))

pub returns : goal.returns
returns c =
    let m = c.middle_field-ms1 in
    let l = c.low_field-md in
    let a = c.args in
    fields_in (Scale a.factor) a.word l.ensures m.ensures c.high_field.ensures (rw (lt-ltb l.result 2 (omega arith), lt-ltb m.result 2 (omega arith)))
