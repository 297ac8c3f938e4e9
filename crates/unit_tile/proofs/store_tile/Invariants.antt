use Rattle.numbers.proofs.Kit.{◌≡◌, ◌+◌, ◌*◌}
use Rattle.numbers.specs.Tile.{put_tile}
use Rattle.machine.specs.Memory.{row_at}
use Rattle.machine.specs.Operation.{element}
use Rattle.unit_tile.proofs.store_tile.Given as goal

abbrev pub invariant-loop-i : goal.invariant-loop-i
invariant-loop-i l =
    l.memory ≡ put_tile (row_at l.t.base l.t.stride) l.i l.t.columns l.t.width (element l.registers (λ i. l.t.start + i * l.t.pitch) l.t.width) l.initial.memory
