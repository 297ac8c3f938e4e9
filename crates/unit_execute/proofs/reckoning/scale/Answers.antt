use Rattle.numbers.proofs.Kit.{◌≡◌, refl, sym, ap, ◌∙◌, true, [], ◌∷◌, mul-le-mul, arith, eqb, Err}
use Rattle.std.proofs.lemmas.Result.{err_from_is_err_and}
use Rattle.machine.proofs.CodeLaws.{refused-not-done}
use Rattle.unit_settings.specs.Parts.{ours}
use Rattle.machine.specs.Answers.{verdict, is_done}
use Rattle.machine.specs.Operation.{times}
use Rattle.machine.specs.Setting.{sew}
use Rattle.unit_checks.specs.Parts.{elementwise_checks, scale_checks}
use Rattle.machine.specs.Geometry.{acc_at}
use Rattle.unit_checks.proofs.ArithmeticLaws.{elementwise-fits}
use Rattle.unit_checks.proofs.CheckLaws.{type-legal-elementwise, part-done}
use Rattle.unit_execute.proofs.EffectLaws.{marks-ready, scale-refused, scale-asks, scale-loads}
use Rattle.unit_settings.proofs.FaultLaws.{ready}
use Rattle.machine.specs.Refusals.{needs as marked-check}
use Rattle.unit_execute.proofs.reckoning.scale.Goals as goal

pub check_scale-requires : goal.check_scale-requires
check_scale-requires c =
    record {
      marks_ready = marks-ready c.args.m c.args.registers.now c.args.marks.now c.requires.marks_value;
      ms1_bound = c.requires.md_bound.1;
    }

pub returns-in_err-check_scale : goal.returns-in_err-check_scale
returns-in_err-check_scale c =
    let a = c.args in
    let p = err_from_is_err_and c.from_residual.result c.from_residual.ensures.1 in
    rw (p.1, p.2)
    (λ z e ez. scale-refused a.m a.registers.now a.marks.now c.requires.marks_value (times a.factor) a.md a.ms1 a.multiplier z ez (Err c.in_err-check_scale.field-0.0) c.in_err-check_scale.ensures
    (refused-not-done c.in_err-check_scale.field-0.0))

pub sew_bytes-w-requires : goal.sew_bytes-w-requires
sew_bytes-w-requires c =
    type-legal-elementwise c.args.m (times c.args.factor) (ready c.args.m c.args.registers.now c.args.marks.now c.requires.marks_value) (part-done (elementwise_checks c.args.m (times c.args.factor)) (marked-check (eqb c.args.multiplier 0) c.args.marks.now (acc_at (ours c.args.m) c.args.ms1) c.args.m.tile_m c.args.m.tile_n (sew c.args.m.mtype) ∷ []) refl (sym (ap is_done c.in_ok-check_scale.ensures)))

pub tiles_of-requires : goal.tiles_of-requires
tiles_of-requires c = ready c.args.m c.args.registers.now c.args.marks.now c.requires.marks_value

pub scale_tile-requires : goal.scale_tile-requires
scale_tile-requires c =
    let a = c.args in let r = scale-asks a.m a.registers.now a.marks.now c.requires.marks_value (times a.factor) c.sew_bytes-w.result c.factor_of-f.result c.factor_of-f.ensures.0 c.sew_bytes-w.ensures.value a.md a.ms1 a.multiplier (sym (ap is_done c.in_ok-check_scale.ensures)) c.requires.md_bound in
    rw c.tiles_of.ensures (record { d_bound = r.0; registers = r.1.0; width = r.1.1.0; width_2 = r.1.1.1.0; factor_bound = r.1.1.1.1.0; m_le_rows = r.1.1.1.1.1 })

pub overflow_mul-f : goal.overflow_mul-f
overflow_mul-f c =
    let b = c.factor_of-f.ensures.1 in
    let d = c.sew_bytes-w.ensures.result_nonzero in
    omega (arith, mul-le-mul b d.1)

pub mark_accumulator-requires : goal.mark_accumulator-requires
mark_accumulator-requires c =
    let a = c.args in
    record {
      marks_ready = marks-ready a.m a.registers.now a.marks.now c.requires.marks_value;
      accumulator_fits = elementwise-fits a.m (times a.factor) (part-done (elementwise_checks c.args.m (times c.args.factor)) (marked-check (eqb c.args.multiplier 0) c.args.marks.now (acc_at (ours c.args.m) c.args.ms1) c.args.m.tile_m c.args.m.tile_n (sew c.args.m.mtype) ∷ []) refl (sym (ap is_done c.in_ok-check_scale.ensures))) a.md c.factor_of-f.result c.sew_bytes-w.result c.requires.md_bound.0 c.factor_of-f.ensures.1 c.sew_bytes-w.ensures.value;
    }

pub returns : goal.returns
returns c =
    let a = c.args in
    λ z e' ez. scale-loads a.m a.registers.now a.marks.now c.requires.marks_value (times a.factor) c.sew_bytes-w.result c.factor_of-f.result c.factor_of-f.ensures.0 c.sew_bytes-w.ensures.value a.md a.ms1 a.multiplier (sym (ap is_done c.in_ok-check_scale.ensures)) z ez _ _
    (rw c.tiles_of.ensures at (c.scale_tile.ensures z e')) c.mark_accumulator.ensures
