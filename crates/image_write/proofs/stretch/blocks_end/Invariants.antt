-- `image_write::stretch::blocks_end` meets its contract.
use Rattle.numbers.proofs.Kit.{◌-◌, ◌≤◌, length}
use Rattle.image_write.proofs.StretchLaws.{AllSame}
use Rattle.image_write.proofs.stretch.blocks_end.Given as goal

abbrev pub invariant-loop-i : goal.invariant-loop-i
invariant-loop-i l = (l.from ≤ l.i) × (l.i ≤ length l.marks) × AllSame l.marks l.from l.i l.value

abbrev pub decreases-loop-i : goal.decreases-loop-i
decreases-loop-i l = length l.marks - l.i
