-- The loop: the first `j` elements of the row are written, each from what stood there at entry.
use Rattle.numbers.proofs.Kit.{◌≡◌, ◌*◌}
use Rattle.numbers.specs.Tile.{put_row}
use Rattle.unit_pairs.specs.Pairs.{pairs_row}
use Rattle.unit_pairs.proofs.add_row.Given as goal

abbrev pub invariant-loop-i : goal.invariant-loop-i
invariant-loop-i l = l.s ≡ put_row l.c (4 * l.i) 4 (pairs_row l.initial.s l.c l.xs l.b 0 l.pairs) l.initial.s
