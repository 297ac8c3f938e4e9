-- Each sum has its first `l` products.
use Rattle.unit_floats.proofs.RowLaws.{HasProducts}
use Rattle.unit_floats.proofs.add_products.Given as goal

abbrev pub invariant-loop-l : goal.invariant-loop-l
invariant-loop-l l = HasProducts l.s l.d l.a l.initial.sums l.sums l.l
