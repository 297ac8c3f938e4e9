use Rattle.numbers.proofs.Kit.{sym, ap, length, Err}
use Rattle.std.proofs.lemmas.Result.{err_from_is_err_and}
use Rattle.machine.specs.Answers.{is_done}
use Rattle.machine.specs.Operation.{times}
use Rattle.machine.proofs.CodeLaws.{refused-not-done}
use Rattle.unit_checks.proofs.ArithmeticLaws.{rows-room, a-room, b-room, first-source, second-source}
use Rattle.unit_checks.proofs.CheckLaws.{type-legal}
use Rattle.unit_checks.proofs.written.source_marks.Goals as goal

pub sew_bytes-w-requires : goal.sew_bytes-w-requires
sew_bytes-w-requires c =
    type-legal c.args.m (times c.args.factor) c.requires.marks_ready.of-machine c.requires.factor_value

pub first_unmarked-requires : goal.first_unmarked-requires
first_unmarked-requires c =
    let a = c.args in let r = rows-room (length a.marks.now) c.tile_of-a.result c.sew_bytes-w.result (a-room a.m a.marks.now c.requires.marks_ready (times a.factor) c.requires.factor_value a.ms1 c.sew_bytes-w.result c.requires.ms1_bound.0 c.sew_bytes-w.ensures.value c.tile_of-a.result c.tile_of-a.ensures) in record { rows_in = r.0; w_bound = r.1 }

pub returns-in_err-first_unmarked : goal.returns-in_err-first_unmarked
returns-in_err-first_unmarked c =
    let a = c.args in
    let p = err_from_is_err_and c.from_residual.result c.from_residual.ensures.1 in
    rw (p.1, p.2)
    (first-source a.m a.marks.now a.ms1 a.ms2 c.if-m-eq0.false c.if-m-eq0-2.false c.sew_bytes-w.result c.sew_bytes-w.ensures.value c.tile_of-a.result c.tile_of-a.ensures
    (Err c.in_err-first_unmarked.field-0.0) c.in_err-first_unmarked.ensures (refused-not-done c.in_err-first_unmarked.field-0.0))

pub first_unmarked-requires-2 : goal.first_unmarked-requires-2
first_unmarked-requires-2 c =
    let a = c.args in let r = rows-room (length a.marks.now) c.tile_of-b.result c.sew_bytes-w.result (b-room a.m a.marks.now c.requires.marks_ready (times a.factor) c.requires.factor_value a.ms2 c.sew_bytes-w.result c.requires.ms1_bound.1 c.sew_bytes-w.ensures.value c.tile_of-b.result c.tile_of-b.ensures) in record { rows_in = r.0; w_bound = r.1 }

pub returns : goal.returns
returns c =
    let a = c.args in
    second-source a.m a.marks.now a.ms1 a.ms2 c.if-m-eq0.false c.if-m-eq0-2.false c.sew_bytes-w.result c.sew_bytes-w.ensures.value
    c.tile_of-a.result c.tile_of-a.ensures
    (sym (ap is_done (c.in_ok-first_unmarked.ensures)))
    c.tile_of-b.result c.tile_of-b.ensures c.first_unmarked-2.result c.first_unmarked-2.ensures
