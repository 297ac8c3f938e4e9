use Rattle.numbers.proofs.Kit.{sym, ap, ◌∙◌, arith}
use Rattle.machine.specs.Operation.{times}
use Rattle.machine.specs.ArithmeticWords.{width_ok}
use Rattle.machine.specs.declared.Factor.{Factor}
use Rattle.unit_checks.proofs.CheckLaws.{single-ok, double-ok, quadruple-none, quadruple-ok}
use Rattle.unit_checks.proofs.sizes.factor_width.Goals as goal

pub returns-then-sew-elen : goal.returns-then-sew-elen
returns-then-sew-elen c =
    let a = c.args in
    quadruple-none a.elen a.mtype c.sew_bytes-sew.result c.sew_bytes-sew.ensures.value c.if-sew-elen.true
    ∙ ap (λ (f : Factor). width_ok a.elen a.mtype (times f)) (sym c.in-Quadruple.is)

pub returns-in-Single : goal.returns-in-Single
returns-in-Single c =
    let a = c.args in
    single-ok a.elen a.mtype c.sew_bytes-sew.result c.sew_bytes-sew.ensures.value
    ∙ ap (λ (f : Factor). width_ok a.elen a.mtype (times f)) (sym c.in-Single.is)

pub returns-in-Double : goal.returns-in-Double
returns-in-Double c =
    let a = c.args in
    double-ok a.elen a.mtype c.sew_bytes-sew.result c.sew_bytes-sew.ensures.value
    ∙ ap (λ (f : Factor). width_ok a.elen a.mtype (times f)) (sym c.in-Double.is)

pub returns-else-sew-elen : goal.returns-else-sew-elen
returns-else-sew-elen c =
    let a = c.args in
    c.is_maccq.ensures ∙ quadruple-ok a.elen a.mtype c.sew_bytes-sew.result c.sew_bytes-sew.ensures.value (omega (arith, c.if-sew-elen.false))
    ∙ ap (λ (f : Factor). width_ok a.elen a.mtype (times f)) (sym c.in-Quadruple.is)
