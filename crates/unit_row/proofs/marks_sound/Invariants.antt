use Rattle.numbers.proofs.Kit.{◌≡◌, ◌+◌, ◌*◌, ltb, get_or}
use Rattle.machine.specs.Tests.{all}
use Rattle.unit_row.proofs.marks_sound.Given as goal

abbrev pub invariant-loop-mark : goal.invariant-loop-mark
invariant-loop-mark l = ltb l.most 2 ≡ all (4 * l.quarter + l.mark-index) (λ k. ltb (get_or l.marks k 0) 2)
