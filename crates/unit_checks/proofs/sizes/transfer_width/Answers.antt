use Rattle.numbers.proofs.Kit.{sym, ap, ◌∙◌, eqb}
use Rattle.machine.specs.TransferWords.{width_of}
use Rattle.machine.specs.declared.Matrix.{Matrix}
use Rattle.unit_checks.proofs.sizes.transfer_width.Goals as goal

pub returns-in-MatrixA : goal.returns-in-MatrixA
unfolding width_of
returns-in-MatrixA c =
    let a = c.args in
    ap (eqb a.width) c.sew_bytes.ensures.value ∙ ap (λ (k : Matrix). width_of a.elen a.mtype k a.width) (sym c.in-MatrixA.is)

pub returns-in-MatrixB : goal.returns-in-MatrixB
unfolding width_of
returns-in-MatrixB c =
    let a = c.args in
    ap (eqb a.width) c.sew_bytes.ensures.value ∙ ap (λ (k : Matrix). width_of a.elen a.mtype k a.width) (sym c.in-MatrixB.is)

pub returns-in-MatrixC : goal.returns-in-MatrixC
returns-in-MatrixC c =
    let a = c.args in
    c.accumulator_width.ensures ∙ ap (λ (k : Matrix). width_of a.elen a.mtype k a.width) (sym c.in-MatrixC.is)
