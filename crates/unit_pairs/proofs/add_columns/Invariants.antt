-- The loop: the first `j` elements are written, each from what stood there at entry.
use Rattle.numbers.proofs.Kit.{◌≡◌}
use Rattle.numbers.specs.Tile.{put_row}
use Rattle.unit_pairs.specs.Pairs.{pairs_row}
use Rattle.unit_pairs.proofs.add_columns.Given as goal

abbrev pub invariant-loop-j : goal.invariant-loop-j
invariant-loop-j l = l.s ≡ put_row l.c l.j 4 (pairs_row l.initial.s l.c l.xs l.b l.o l.pairs) l.initial.s
