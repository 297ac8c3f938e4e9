-- The loop: the first `i` rows of C are those of the product, and every element is read as at entry.
use Rattle.numbers.proofs.Kit.{◌≡◌, ◌+◌, ◌*◌}
use Rattle.numbers.specs.Tile.{put_tile}
use Rattle.unit_sums.specs.Rows.{product_row}
use Rattle.unit_pairs.proofs.multiply_with.Given as goal

abbrev pub invariant-loop-i : goal.invariant-loop-i
invariant-loop-i l =
    l.s ≡ put_tile (λ i. l.c + i * (4 * l.pitch)) l.i l.n 4 (λ i. product_row l.initial.s 4 l.width l.pitch l.k (l.a + i * l.pitch) l.b (l.c + i * (4 * l.pitch))) l.initial.s
