-- The first `j` columns of C have their products.
use Rattle.numbers.proofs.Kit.{◌≡◌, ◌≤◌, ◌-◌}
use Rattle.unit_arithmetic.specs.Products.{added}
use Rattle.unit_arithmetic.proofs.BlockLaws.{first_columns}
use Rattle.unit_arithmetic.proofs.multiply_blocks.Given as goal

abbrev pub invariant-loop-j : goal.invariant-loop-j
invariant-loop-j l = (l.j ≤ l.p.n) × (l.s ≡ added (first_columns l.p l.j) l.width l.wide l.initial.s)

abbrev pub decreases-loop-j : goal.decreases-loop-j
decreases-loop-j l = l.p.n - l.j
