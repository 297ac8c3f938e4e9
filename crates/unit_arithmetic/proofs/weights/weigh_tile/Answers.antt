-- The first `i` rows are weighted sums, and every element is read as at entry.
use Rattle.numbers.proofs.Kit.{refl, ◌*◌, ◌%◌, ◌^◌, ◌<◌, arith}
use Rattle.numbers.specs.Tile.{put_tile}
use Rattle.machine.specs.Geometry.{acc_at}
use Rattle.unit_arithmetic.specs.Effect.{shape}
use Rattle.unit_arithmetic.specs.Weights.{weighted_tile}
use Rattle.unit_arithmetic.proofs.RoomLaws.{acc-row}
use Rattle.unit_arithmetic.proofs.WeightLaws.{weighted-turn, acc-aligned}
use Rattle.unit_arithmetic.proofs.weights.weigh_tile.Goals as goal

pub loop-i-init : goal.loop-i-init
unfolding weighted_tile put_tile
loop-i-init c = refl

pub weigh_row-requires-clause-width_in_bounds : goal.weigh_row-requires-clause-width_in_bounds
weigh_row-requires-clause-width_in_bounds c =
    let t = c.args.t in
    let i = c.loop-i.i in
    let li : i < t.rows = omega (arith, c.requires.m_le_rows.0, c.loop-i-test.true) in
    let q = c.requires.m_le_rows.1.1 in
    (omega (arith, acc-row t.rows t.pitch c.args.a i c.requires.d_bound.1 li, q.0, c.requires.registers, c.loop-i.auto.registers), omega (arith, acc-row t.rows t.pitch c.args.d i c.requires.d_bound.0 li, q.1, c.requires.registers, c.loop-i.auto.registers))

pub weigh_row-requires-clause-aligned : goal.weigh_row-requires-clause-aligned
weigh_row-requires-clause-aligned c =
    let a = c.args in
    let t = a.t in
    let q = c.requires.m_le_rows in
    acc-aligned t.rows t.pitch a.d a.a c.loop-i.i (t.n * a.w.width) (t.n * a.w.wide) c.requires.d_bound.0 c.requires.d_bound.1 (omega (arith, q.0, c.loop-i-test.true)) q.1.1.0 q.1.1.1

pub loop-i-preserved : goal.loop-i-preserved
loop-i-preserved c =
    let l = c.loop-i in
    let a = c.args in
    let t = a.t in
    let w = a.w in
    let q = c.requires.m_le_rows in
    weighted-turn t.rows t.pitch w.width w.wide a.d a.a (w.x % 256 ^ w.wide) (w.y % 256 ^ w.wide) t.m t.n l.i
    (acc_at (shape t.rows t.pitch) a.a l.i) (acc_at (shape t.rows t.pitch) a.d l.i) a.registers.now l.registers c.weigh_row.new.s
    c.requires.d_bound.0 c.requires.d_bound.1 q.0 c.loop-i-test.true q.1.1.0 q.1.1.1 l.invariant refl refl c.weigh_row.ensures
