use mathlib.Core.Path.{sym, ◌∙◌}
use borrow.Author.Tests.{not-true, not-false}
use Rattle.machine.specs.declared.Instruction.TheVariants.{FloatMultiply}
use Rattle.unit_decode.proofs.Laws.{fields_out, fields_in}
use borrow.Author.Rules.{rules}
use Rattle.unit_decode.proofs.float_multiply.Goals as goal

pub returns-then-not-are_registers : goal.returns-then-not-are_registers
returns-then-not-are_registers c =
    let a = c.args in
    fields_out FloatMultiply a.word c.low_field-md.ensures c.middle_field-ms1.ensures c.high_field-ms2.ensures (sym c.are_registers.ensures ∙ c.if-not-are_registers.true)

pub returns : goal.returns
returns c =
    let a = c.args in
    fields_in FloatMultiply a.word c.low_field-md.ensures c.middle_field-ms1.ensures c.high_field-ms2.ensures (sym c.are_registers.ensures ∙ c.if-not-are_registers.false)
