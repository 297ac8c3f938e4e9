use Rattle.numbers.proofs.Kit.{◌≡◌, refl, sym, ap, ◌∙◌, true, [], ◌∷◌, ◌*◌, Err}
use Rattle.std.proofs.lemmas.Result.{err_from_is_err_and}
use Rattle.machine.proofs.CodeLaws.{refused-not-done}
use Rattle.machine.specs.Answers.{verdict, is_done}
use Rattle.machine.specs.Operation.{Operation, times}
use Rattle.machine.specs.Setting.{sew}
use Rattle.unit_checks.specs.Parts.{elementwise_checks, accumulator_check, combine_checks}
use Rattle.unit_checks.proofs.CheckLaws.{type-legal-elementwise, part-done}
use Rattle.unit_execute.proofs.EffectLaws.{marks-ready, arithmetic-refused, combine-asks, combine-loads}
use Rattle.unit_settings.proofs.FaultLaws.{ready}
use Rattle.unit_execute.proofs.reckoning.combine.Goals as goal

pub check_combine-requires : goal.check_combine-requires
check_combine-requires c =
    record {
      marks_ready = marks-ready c.args.m c.args.registers.now c.args.marks.now c.requires.marks_value;
      md_bound = c.requires.md_bound;
    }

pub returns-in_err-check_combine : goal.returns-in_err-check_combine
returns-in_err-check_combine c =
    let a = c.args in
    let p = err_from_is_err_and c.from_residual.result c.from_residual.ensures.1 in
    rw (p.1, p.2)
    (arithmetic-refused a.m a.registers.now a.marks.now c.requires.marks_value (Operation.combine a.sum (times a.factor) a.md a.ms1) (Err c.in_err-check_combine.field-0.0) (λ z. c.in_err-check_combine.ensures)
    (refused-not-done c.in_err-check_combine.field-0.0))

pub sew_bytes-w-requires : goal.sew_bytes-w-requires
sew_bytes-w-requires c =
    type-legal-elementwise c.args.m (times c.args.factor) (ready c.args.m c.args.registers.now c.args.marks.now c.requires.marks_value) (part-done (elementwise_checks c.args.m (times c.args.factor)) (accumulator_check c.args.m c.args.marks.now c.args.ms1 (sew c.args.m.mtype) ∷ accumulator_check c.args.m c.args.marks.now c.args.md (times c.args.factor * sew c.args.m.mtype) ∷ []) refl (sym (ap is_done c.in_ok-check_combine.ensures)))

pub tiles_of-requires : goal.tiles_of-requires
tiles_of-requires c = ready c.args.m c.args.registers.now c.args.marks.now c.requires.marks_value

pub combine_tile-requires : goal.combine_tile-requires
combine_tile-requires c =
    let a = c.args in let r = combine-asks a.m a.registers.now a.marks.now c.requires.marks_value (times a.factor) c.sew_bytes-w.result c.factor_of-f.result c.factor_of-f.ensures.0 c.sew_bytes-w.ensures.value a.sum a.md a.ms1 (sym (ap is_done c.in_ok-check_combine.ensures)) c.requires.md_bound in
    rw c.tiles_of.ensures (record { d_bound = r.0; registers = r.1.0; width = r.1.1.0; width_2 = r.1.1.1.0; factor_bound = r.1.1.1.1.0; m_le_rows = r.1.1.1.1.1 })

pub returns : goal.returns
returns c =
    let a = c.args in
    combine-loads a.m a.registers.now a.marks.now c.requires.marks_value (times a.factor) c.sew_bytes-w.result c.factor_of-f.result c.factor_of-f.ensures.0 c.sew_bytes-w.ensures.value a.sum a.md a.ms1 (sym (ap is_done c.in_ok-check_combine.ensures)) _
    (rw c.tiles_of.ensures at c.combine_tile.ensures)
