use Rattle.numbers.proofs.Kit.{◌≡◌, ℕ, ◌<◌, get_or}
use Rattle.unit_start.proofs.clear.Given as goal

abbrev pub invariant-loop-mark : goal.invariant-loop-mark
invariant-loop-mark l = (q : ℕ) → q < l.mark-index → get_or l.marks q 0 ≡ 0
