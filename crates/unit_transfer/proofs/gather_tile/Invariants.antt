use Rattle.numbers.proofs.Kit.{◌≡◌, ◌+◌, ◌*◌}
use Rattle.numbers.specs.Tile.{put_tile}
use Rattle.machine.specs.Memory.{row_at}
use Rattle.machine.specs.Operation.{element}
use Rattle.unit_transfer.proofs.gather_tile.Given as goal

abbrev pub invariant-loop-i : goal.invariant-loop-i
invariant-loop-i l =
    l.registers ≡ put_tile (λ i. l.t.start + i * l.t.pitch) l.i l.t.columns l.t.width (λ i j. element l.memory (row_at l.t.base l.t.stride) l.t.width j i) l.initial.registers
