use Rattle.numbers.proofs.Kit.{◌≡◌, true, ◌+◌, ◌*◌}
use Rattle.machine.specs.Tests.{all}
use Rattle.unit_tile.proofs.MarkLaws.{row_marked}
use Rattle.unit_tile.proofs.tile_marked.Given as goal

abbrev pub invariant-loop-i : goal.invariant-loop-i
invariant-loop-i l = all l.i (row_marked l.marks (λ i. l.start + i * l.pitch) l.n) ≡ true
