use Rattle.numbers.proofs.Kit.{◌≡◌, ◌<◌}
use Rattle.numbers.specs.Tile.{get_le, put_row}
use Rattle.machine.specs.Memory.{row_at}
use Rattle.unit_transfer.proofs.gather.Given as goal

abbrev pub invariant-loop-j : goal.invariant-loop-j
invariant-loop-j l = (l.j < l.n → l.from ≡ row_at l.base l.stride l.j) × (l.dst ≡ put_row 0 l.j l.w (λ j. get_le l.src (row_at l.base l.stride j) l.w) l.initial.dst)
