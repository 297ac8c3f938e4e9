use Rattle.numbers.proofs.Kit.{◌≡◌, ltb, get_or}
use Rattle.machine.specs.Tests.{all}
use Rattle.unit_row.proofs.MarkLaws.{fourth}
use Rattle.unit_row.proofs.most_of.Given as goal

abbrev pub invariant-loop-i : goal.invariant-loop-i
invariant-loop-i l = ltb l.most 2 ≡ all l.i (fourth (λ k. ltb (get_or l.marks k 0) 2) l.quarter)
