use Rattle.numbers.proofs.Kit.{◌≡◌, sym, ap, ◌∙◌, true, Err}
use Rattle.std.proofs.lemmas.Result.{err_from_is_err_and}
use Rattle.machine.proofs.CodeLaws.{refused-not-done}
use Rattle.machine.specs.Answers.{verdict, is_done}
use Rattle.machine.specs.Operation.{Operation}
use Rattle.unit_checks.specs.Parts.{float_checks}
use Rattle.unit_execute.proofs.EffectLaws.{marks-ready, arithmetic-refused, float-loads}
use Rattle.unit_execute.proofs.reckoning.float_multiply.Goals as goal

pub check_float-requires : goal.check_float-requires
check_float-requires c =
    record {
      marks_ready = marks-ready c.args.m c.args.registers.now c.args.marks.now c.requires.marks_value;
      md_bound = c.requires.md_bound;
    }

pub returns-in_err-check_float : goal.returns-in_err-check_float
returns-in_err-check_float c =
    let a = c.args in
    let p = err_from_is_err_and c.from_residual.result c.from_residual.ensures.1 in
    rw (p.1, p.2)
    (arithmetic-refused a.m a.registers.now a.marks.now c.requires.marks_value (Operation.float_multiply a.md a.ms1 a.ms2) (Err c.in_err-check_float.field-0.0) (λ z. c.in_err-check_float.ensures)
    (refused-not-done c.in_err-check_float.field-0.0))

pub multiply_floats-requires : goal.multiply_floats-requires
multiply_floats-requires c =
    record {
      permitted = record { marks = c.args.marks.now; is-sound = c.requires.marks_value; is-done = sym (ap is_done c.in_ok-check_float.ensures) };
      md_bound = c.requires.md_bound;
    }

pub returns : goal.returns
returns c =
    let a = c.args in
    float-loads a.m a.registers.now a.marks.now c.requires.marks_value a.md a.ms1 a.ms2 (sym (ap is_done c.in_ok-check_float.ensures)) _ c.multiply_floats.ensures
