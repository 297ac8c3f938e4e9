-- From column `j` on the row has its weighted sums.
use Rattle.numbers.proofs.Kit.{◌≡◌, ◌≤◌}
use Rattle.unit_arithmetic.proofs.WeightLaws.{weighed_from}
use Rattle.unit_arithmetic.proofs.weights.weigh_row.Given as goal

abbrev pub invariant-loop-j : goal.invariant-loop-j
invariant-loop-j l = (l.j ≤ l.n) × (l.s ≡ weighed_from l.w l.initial.s l.from l.to l.n l.j)

abbrev pub decreases-loop-j : goal.decreases-loop-j
decreases-loop-j l = l.j
