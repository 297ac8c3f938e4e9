-- `image_write::stretch::end_before` meets its contract.
use Rattle.numbers.proofs.Kit.{◌≤◌}
use Rattle.image_write.proofs.StretchLaws.{AllSame}
use Rattle.image_write.proofs.stretch.end_before.Given as goal

abbrev pub invariant-loop-i : goal.invariant-loop-i
invariant-loop-i l = (l.from ≤ l.i) × (l.i ≤ l.limit) × AllSame l.marks l.from l.i l.value
