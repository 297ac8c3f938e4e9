use Rattle.numbers.proofs.Kit.{sym, ap}
use Rattle.machine.specs.Answers.{is_done}
use Rattle.machine.specs.Operation.{times}
use Rattle.unit_checks.proofs.CheckLaws.{type-legal-elementwise}
use Rattle.unit_checks.proofs.written.check_scale.Goals as goal

pub sew_bytes-width-requires : goal.sew_bytes-width-requires
sew_bytes-width-requires c =
    type-legal-elementwise c.args.m (times c.args.factor) c.requires.marks_ready.of-machine (sym (ap is_done c.in_ok-check_elementwise.ensures))
