use Rattle.numbers.proofs.Kit.{◌≡◌, ◌+◌, ◌*◌}
use Rattle.numbers.specs.Tile.{put_tile}
use Rattle.machine.specs.Memory.{row_at}
use Rattle.machine.specs.Operation.{element}
use Rattle.unit_transfer.proofs.scatter_tile.Given as goal

abbrev pub invariant-loop-j : goal.invariant-loop-j
invariant-loop-j l =
    l.memory ≡ put_tile (row_at l.t.base l.t.stride) l.j l.t.rows l.t.width (λ j i. element l.registers (λ i. l.t.start + i * l.t.pitch) l.t.width i j) l.initial.memory
