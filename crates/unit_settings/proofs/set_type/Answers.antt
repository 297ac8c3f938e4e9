use mathlib.Core.Path.{ap, ◌∙◌}
use Rattle.unit_settings.specs.Parts.{with_type}
use Rattle.machine.specs.Geometry.{with_scalar}
use Rattle.unit_settings.proofs.set_type.Goals as goal

pub returns : goal.returns
returns c =
    let a = c.args in
    record {
      value = c.with_type.ensures ∙ ap (with_type a.m) c.kept_type-kept.ensures;
      scalars_after = c.write_scalar.ensures ∙ ap (with_scalar a.scalars.now a.rd) c.kept_type-kept.ensures;
    }
