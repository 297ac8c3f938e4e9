-- The weights 0 and the multiplier.
use Rattle.numbers.proofs.Kit.{◌∙◌, ◌*◌}
use Rattle.unit_element.proofs.Laws.{width_small}
use Rattle.unit_arithmetic.specs.Effect.{shape}
use Rattle.unit_arithmetic.proofs.WeightLaws.{scale-is}
use Rattle.unit_arithmetic.proofs.scale_tile.Goals as goal

pub returns : goal.returns
returns c =
    let a = c.args in
    λ z e. c.weigh_tile.ensures
    ∙ scale-is (shape a.t.rows a.t.pitch) a.width (a.factor * a.width) a.d a.a a.t.m a.t.n a.registers.now (width_small (a.factor * a.width) c.requires.width_2) z a.x e
