use Rattle.numbers.proofs.Kit.{sym, ap}
use Rattle.machine.specs.Answers.{is_done}
use Rattle.machine.specs.Operation.{times}
use Rattle.unit_checks.proofs.ArithmeticLaws.{product-fits}
use Rattle.unit_checks.proofs.CheckLaws.{type-legal}
use Rattle.unit_checks.proofs.written.check_target.Goals as goal

pub sew_bytes-requires : goal.sew_bytes-requires
sew_bytes-requires c =
    type-legal c.args.m (times c.args.factor) c.requires.marks_ready.of-machine (sym (ap is_done (c.in_ok-check_multiply.ensures)))

pub accumulator_marks-requires-clause-accumulator_fits : goal.accumulator_marks-requires-clause-accumulator_fits
accumulator_marks-requires-clause-accumulator_fits c =
    let a = c.args in
    product-fits a.m (times a.factor) (sym (ap is_done (c.in_ok-check_multiply.ensures))) a.md c.factor_of.result c.sew_bytes.result c.requires.md_bound c.factor_of.ensures.1 c.sew_bytes.ensures.value
