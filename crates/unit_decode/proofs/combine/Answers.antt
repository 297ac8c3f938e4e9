use mathlib.Core.Path.{refl}
use native.Mathlib.Omega.{arith}
use borrow.Author.Rules.{rules}
use borrow.Author.Tests.{lt-ltb, le-ltb}
use Rattle.machine.specs.declared.Instruction.TheVariants.{Combine}
use Rattle.unit_decode.proofs.Laws.{fields_out, fields_in}
use Rattle.unit_decode.proofs.combine.Goals as goal

pub returns-then-md-ge2 : goal.returns-then-md-ge2
returns-then-md-ge2 c =
    let m = c.middle_field-ms1 in
    let l = c.low_field-md in
    let a = c.args in
    fields_out (λ x y z. Combine a.sum a.factor x y) a.word l.ensures m.ensures refl (rw (le-ltb l.result 2 (omega arith)))

pub returns-then-ms1-ge2 : goal.returns-then-ms1-ge2
returns-then-ms1-ge2 c =
    let m = c.middle_field-ms1 in
    let l = c.low_field-md in
    let a = c.args in
    fields_out (λ x y z. Combine a.sum a.factor x y) a.word l.ensures m.ensures refl (rw (lt-ltb l.result 2 (omega arith), le-ltb m.result 2 (omega arith)))

pub returns : goal.returns
returns c =
    let m = c.middle_field-ms1 in
    let l = c.low_field-md in
    let a = c.args in
    fields_in (λ x y z. Combine a.sum a.factor x y) a.word l.ensures m.ensures refl (rw (lt-ltb l.result 2 (omega arith), lt-ltb m.result 2 (omega arith)))
