-- The first `i` rows of C are those of the product.
use Rattle.numbers.proofs.Kit.{◌≡◌, ◌+◌, ◌*◌}
use Rattle.numbers.specs.Tile.{put_tile}
use Rattle.unit_sums.specs.Rows.{product_row}
use Rattle.unit_arithmetic.proofs.rows.multiply_rows.Given as goal

abbrev pub invariant-loop-i : goal.invariant-loop-i
invariant-loop-i l =
    l.s ≡ put_tile (λ i. l.p.c + i * (4 * l.p.pitch)) l.i l.p.n l.wide
    (λ i. product_row l.initial.s l.wide l.width l.p.pitch l.p.k (l.p.a + i * l.p.pitch) l.p.b (l.p.c + i * (4 * l.p.pitch))) l.initial.s
