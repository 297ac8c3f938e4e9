use Rattle.numbers.proofs.Kit.{◌≡◌, ◌+◌, ◌*◌}
use Rattle.numbers.specs.Tile.{get_le, put_row}
use Rattle.unit_moves.proofs.copy_column.Given as goal

abbrev pub invariant-loop-j : goal.invariant-loop-j
invariant-loop-j l = l.dst ≡ put_row l.to l.j l.w (λ j. get_le l.src (l.from.start + j * l.from.pitch) l.w) l.initial.dst
