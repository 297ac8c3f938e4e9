use Rattle.std.specs.Prelude.{◌≡◌, ℕ, ◌+◌, ◌*◌, map, slice_index}
use Rattle.numbers.specs.Tile.{put_row}
use Rattle.unit_sums.specs.Rows.{plus_product}
use Rattle.unit_sums.proofs.finish_row.Given as goal

abbrev pub invariant-loop-j : goal.invariant-loop-j
invariant-loop-j g l =
    let e = g.E.Element in
    let w = e.BYTES in
    l.s ≡ put_row l.to l.j w (λ (q : ℕ). plus_product w (slice_index (map e.number l.acc) q) (e.number l.x) l.initial.s (l.to + q * w) w) l.initial.s
