use Rattle.numbers.proofs.Kit.{◌≡◌, ◌+◌, eqb, get_or}
use Rattle.machine.specs.Tests.{all}
use Rattle.unit_row.proofs.row_marked.Given as goal

abbrev pub invariant-loop-mark : goal.invariant-loop-mark
invariant-loop-mark l = l.good ≡ all l.mark-index (λ b. eqb (get_or l.marks (l.p + b) 0) 1)
