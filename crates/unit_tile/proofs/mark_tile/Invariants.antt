use Rattle.numbers.proofs.Kit.{◌≡◌, ◌+◌, ◌*◌}
use Rattle.numbers.specs.Tile.{mark_tile}
use Rattle.unit_tile.proofs.mark_tile.Given as goal

abbrev pub invariant-loop-i : goal.invariant-loop-i
invariant-loop-i l = l.marks ≡ mark_tile (λ i. l.start + i * l.pitch) l.i l.n l.initial.marks
