use Rattle.numbers.proofs.Kit.{◌≡◌, ◌++◌, drop}
use Rattle.numbers.specs.Tile.{mark_row}
use Rattle.unit_row.proofs.mark_first.Given as goal

abbrev pub invariant-loop-mark : goal.invariant-loop-mark
invariant-loop-mark l = l.mark-items ++ drop l.n l.fn.dst ≡ mark_row 0 l.mark-index l.fn.dst
