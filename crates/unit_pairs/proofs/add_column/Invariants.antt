-- The loop: the sum has the first `p` pairs.
use Rattle.numbers.proofs.Kit.{◌≡◌}
use Rattle.numbers.specs.Tile.{get_le}
use Rattle.unit_pairs.specs.Pairs.{plus_pairs}
use Rattle.unit_pairs.proofs.add_column.Given as goal

abbrev pub invariant-loop-p : goal.invariant-loop-p
invariant-loop-p l = l.sum ≡ plus_pairs (get_le l.s l.c 4) l.xs l.from l.b l.o l.p
