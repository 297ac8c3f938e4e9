use Rattle.numbers.proofs.Kit.{sym, ap}
use Rattle.machine.specs.Answers.{is_done}
use Rattle.machine.specs.Operation.{times}
use Rattle.unit_checks.proofs.ArithmeticLaws.{elementwise-fits}
use Rattle.unit_checks.proofs.CheckLaws.{type-legal-elementwise}
use Rattle.unit_checks.proofs.written.check_combine.Goals as goal

pub sew_bytes-width-requires : goal.sew_bytes-width-requires
sew_bytes-width-requires c =
    type-legal-elementwise c.args.m (times c.args.factor) c.requires.marks_ready.of-machine (sym (ap is_done c.in_ok-check_elementwise.ensures))

pub accumulator_marks-requires-2-clause-accumulator_fits : goal.accumulator_marks-requires-2-clause-accumulator_fits
accumulator_marks-requires-2-clause-accumulator_fits c =
    let a = c.args in
    elementwise-fits a.m (times a.factor) (sym (ap is_done c.in_ok-check_elementwise.ensures)) a.md c.factor_of.result c.sew_bytes-width.result c.requires.md_bound.0 c.factor_of.ensures.1 c.sew_bytes-width.ensures.value
