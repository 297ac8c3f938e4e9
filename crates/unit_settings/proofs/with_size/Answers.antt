use mathlib.Core.Path.{sym, ap}
use Rattle.machine.specs.declared.Dimension.{Dimension}
use Rattle.unit_settings.specs.Parts.{with_size}
use Rattle.unit_settings.proofs.with_size.Goals as goal

pub returns-in-DimensionM : goal.returns-in-DimensionM
returns-in-DimensionM c = ap (λ (d : Dimension). with_size c.args.m d c.args.size) (sym c.in-DimensionM.is)

pub returns-in-DimensionK : goal.returns-in-DimensionK
returns-in-DimensionK c = ap (λ (d : Dimension). with_size c.args.m d c.args.size) (sym c.in-DimensionK.is)

pub returns-in-DimensionN : goal.returns-in-DimensionN
returns-in-DimensionN c = ap (λ (d : Dimension). with_size c.args.m d c.args.size) (sym c.in-DimensionN.is)
