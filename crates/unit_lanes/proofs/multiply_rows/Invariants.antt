use Rattle.numbers.proofs.Kit.{◌≡◌, ◌+◌, ◌*◌}
use Rattle.numbers.specs.Tile.{put_tile}
use Rattle.unit_sums.specs.Rows.{product_row}
use Rattle.unit_lanes.proofs.multiply_rows.Given as goal

abbrev pub invariant-loop-p : goal.invariant-loop-p
invariant-loop-p g l =
    let w = g.N.Element.BYTES in
    let o = g.O.Element.BYTES in
    l.s ≡ put_tile (λ i. l.c + i * (4 * l.pitch)) (2 * l.p) l.n o (λ i. product_row l.fn.s o w l.pitch l.k (l.a + i * l.pitch) l.b (l.c + i * (4 * l.pitch))) l.fn.s

abbrev pub invariant-loop-i : goal.invariant-loop-i
invariant-loop-i g l =
    let w = g.N.Element.BYTES in
    let o = g.O.Element.BYTES in
    l.s ≡ put_tile (λ i. l.c + i * (4 * l.pitch)) (l.i) l.n o (λ i. product_row l.fn.s o w l.pitch l.k (l.a + i * l.pitch) l.b (l.c + i * (4 * l.pitch))) l.fn.s
