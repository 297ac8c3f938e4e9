-- The loop: the first `i` rows of C are those of the product, and every element is read as at entry.
use Rattle.numbers.proofs.Kit.{refl, sym, ap, ◌∙◌, ℕ, ◌+◌, ◌*◌, ◌^◌}
use Rattle.numbers.specs.Tile.{put_tile}
use Rattle.numbers.specs.Reduce.{signed, reduce}
use Rattle.unit_sums.specs.Rows.{product_row}
use Rattle.unit_sums.proofs.TurnLaws.{same-b, product-turn}
use Rattle.unit_pairs.proofs.multiply_with.Goals as goal

pub loop-i-init : goal.loop-i-init
unfolding put_tile
loop-i-init c = refl

pub multiply_row-requires-clause-by_index : goal.multiply_row-requires-clause-by_index
multiply_row-requires-clause-by_index c =
    let l = c.loop-i in
    let a = c.args in
    λ r j lr lj. c.interleave_tile.ensures r j lr lj
    ∙ ap (λ (x : ℕ). reduce 65536 (signed (256 ^ a.width) x)) (sym (same-b 4 a.width a.pitch (4 * a.pitch) a.k a.n a.a a.b a.c a.m a.s.now
    c.requires.width_bound.0 c.requires.width_bound.1.1 c.requires.width_bound_2.0 c.requires.width_bound_2.1.0
    (λ i. product_row a.s.now 4 a.width a.pitch a.k (a.a + i * a.pitch) a.b (a.c + i * (4 * a.pitch)))
    l.i l.s l.invariant r j lr lj))

pub loop-i-preserved : goal.loop-i-preserved
loop-i-preserved c =
    let l = c.loop-i in
    let a = c.args in
    let w = c.multiply_row in
    product-turn 4 a.width a.pitch (4 * a.pitch) a.k a.n a.a a.b a.c a.m a.s.now
    c.requires.width_bound.0 c.requires.width_bound.1.1 c.requires.width_bound_2.0 c.requires.width_bound_2.1.0
    l.i l.s c.loop-i-test.true l.invariant (a.a + l.i * a.pitch) (a.c + l.i * (4 * a.pitch)) w.new.s refl refl w.ensures
