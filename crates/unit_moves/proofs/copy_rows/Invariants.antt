use Rattle.numbers.proofs.Kit.{◌≡◌, ◌+◌, ◌*◌}
use Rattle.numbers.specs.Tile.{put_tile}
use Rattle.machine.specs.Operation.{element}
use Rattle.unit_moves.proofs.copy_rows.Given as goal

abbrev pub invariant-loop-i : goal.invariant-loop-i
invariant-loop-i l = l.dst ≡ put_tile (λ i. l.to.start + i * l.to.pitch) l.i l.to.columns l.w (element l.src (λ i. l.from.start + i * l.from.pitch) l.w) l.initial.dst
