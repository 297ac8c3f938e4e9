-- Each sum by its weights.
use Rattle.numbers.proofs.Kit.{ap₂, ◌∙◌, ℕ, ◌*◌, ◌%◌, ◌^◌}
use Rattle.unit_arithmetic.specs.Effect.{shape}
use Rattle.unit_arithmetic.specs.Weights.{weighted_tile}
use Rattle.unit_arithmetic.proofs.WeightLaws.{combine-is}
use Rattle.unit_arithmetic.proofs.combine_tile.Goals as goal

pub returns : goal.returns
returns c =
    let a = c.args in
    let q = c.weights_of.result in
    let e = c.weights_of.ensures in
    let M = shape a.t.rows a.t.pitch in
    let wide : ℕ = a.factor * a.width in
    c.weigh_tile.ensures
    ∙ ap₂ (λ (u v : ℕ). weighted_tile M v u a.d a.a (q.x % 256 ^ v) (q.y % 256 ^ v) a.t.m a.t.n a.registers.now) e.widths.0 e.widths.1
    ∙ combine-is M a.width wide a.d a.a a.t.m a.t.n a.registers.now a.sum (q.x % 256 ^ wide) (q.y % 256 ^ wide) e.weights.0 e.weights.1
