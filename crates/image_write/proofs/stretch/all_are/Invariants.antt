-- `image_write::stretch::all_are` meets its contract.
use Rattle.numbers.proofs.Kit.{◌≡◌, ◌+◌, ◌≤◌, eqb, get_or}
use Rattle.machine.specs.Tests.{all}
use Rattle.image_write.proofs.stretch.all_are.Given as goal

abbrev pub invariant-loop-i : goal.invariant-loop-i
invariant-loop-i l = (l.i ≤ l.n) × (l.good ≡ all l.i (λ b. eqb (get_or l.marks (l.p + b) 0) l.value))
