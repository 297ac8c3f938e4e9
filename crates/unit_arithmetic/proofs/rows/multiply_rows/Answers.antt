-- The first `i` rows of C are those of the product, and every element is read as at entry.
use Rattle.numbers.proofs.Kit.{refl, ap, ◌∙◌, ◌+◌, ◌*◌}
use Rattle.numbers.specs.Tile.{put_row, put_tile}
use Rattle.unit_sums.specs.Rows.{product_row}
use Rattle.unit_sums.proofs.TurnLaws.{product-turn}
use Rattle.unit_arithmetic.specs.declared.product.Product.{Product}
use Rattle.unit_arithmetic.proofs.rows.multiply_rows.Goals as goal

pub loop-i-init : goal.loop-i-init
unfolding put_tile
loop-i-init c = refl

pub loop-i-preserved : goal.loop-i-preserved
loop-i-preserved c =
    let l = c.loop-i in
    let a = c.args in
    let p = a.p in
    let h = c.requires.lies_in in
    product-turn a.wide a.width p.pitch (4 * p.pitch) p.k p.n p.a p.b p.c p.m a.s.now h.b-row h.c-row h.a-before h.b-before
    l.i l.s c.loop-i-test.true l.invariant (p.a + l.i * p.pitch) (p.c + l.i * (4 * p.pitch)) c.multiply_row.new.s refl refl
    (c.multiply_row.ensures ∙ ap (λ (q : Product). put_row q.c q.n a.wide (product_row l.s a.wide a.width q.pitch q.k q.a q.b q.c) l.s) c.rows.ensures)
