use Rattle.numbers.proofs.Kit.{◌≡◌, true, ◌+◌, ◌*◌}
use Rattle.machine.specs.Answers.{Done}
use Rattle.machine.specs.Tests.{all}
use Rattle.unit_tile.proofs.MarkLaws.{row_marked, element_marked}
use Rattle.unit_tile.proofs.first_unmarked.Given as goal

abbrev pub invariant-loop-j : goal.invariant-loop-j
invariant-loop-j l = (l.found ≡ Done) × (all l.j (element_marked l.marks l.first l.w) ≡ true)

abbrev pub invariant-tile : goal.invariant-tile
invariant-tile l = (l.found ≡ Done) × (all l.i (row_marked l.marks (λ i. l.start + i * l.pitch) (l.cols * l.w)) ≡ true)
