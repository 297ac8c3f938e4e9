-- The first `i` rows of C are those of the product.
use Rattle.numbers.proofs.Kit.{◌≡◌, ◌-◌, ◌≤◌}
use Rattle.unit_floats.specs.Rows.{floats_added, first_rows}
use Rattle.unit_floats.proofs.multiply_with.Given as goal

abbrev pub invariant-loop-i : goal.invariant-loop-i
invariant-loop-i l = (l.i ≤ l.p.m) × (l.s ≡ floats_added (first_rows l.p l.i) l.initial.s)

abbrev pub decreases-loop-i : goal.decreases-loop-i
decreases-loop-i l = l.p.m - l.i
