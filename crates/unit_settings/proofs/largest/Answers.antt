use mathlib.Core.Path.{sym, ap, ◌∙◌}
use Prim.Native.Nat.{ℕ, ◌/◌, min}
use native.Mathlib.Omega.{arith}
use Rattle.machine.specs.Setting.{maximum}
use Rattle.unit_settings.specs.Parts.{ours}
use Rattle.unit_settings.proofs.TypeLaws.{ready-legal}
use Rattle.machine.proofs.StepLaws.{permitted-bounds}
use Rattle.unit_settings.proofs.largest.Goals as goal

pub nonzero_div-rows : goal.nonzero_div-rows
nonzero_div-rows c =
    let b = permitted-bounds c.args.m.rlen c.args.m.mlen c.args.m.elen c.requires.ready.lengths in
    omega arith

pub sew_bytes-requires : goal.sew_bytes-requires
sew_bytes-requires c =
    ready-legal c.args.m c.requires.ready c.requires.mtype_value

pub returns-in-DimensionM : goal.returns-in-DimensionM
returns-in-DimensionM c =
    let m = c.args.m in
    ap (maximum (ours m) m.mtype) (sym c.in-DimensionM.is)

pub returns-in-DimensionK : goal.returns-in-DimensionK
returns-in-DimensionK c =
    let m = c.args.m in
    c.min.ensures ∙ ap (λ (e : ℕ). min (m.mlen / m.rlen) (m.rlen / 8 / e)) c.sew_bytes.ensures.value
    ∙ ap (maximum (ours m) m.mtype) (sym c.in-DimensionK.is)

pub returns-in-DimensionN : goal.returns-in-DimensionN
returns-in-DimensionN c =
    let m = c.args.m in
    ap (λ (e : ℕ). m.rlen / 8 / e) c.sew_bytes.ensures.value ∙ ap (maximum (ours m) m.mtype) (sym c.in-DimensionN.is)
