use Rattle.numbers.proofs.Kit.{◌≡◌, suc, eqb}
use Rattle.machine.specs.Tests.{all}
use Rattle.unit_ranges.specs.Parts.{slot_empty}
use Rattle.unit_ranges.proofs.others_empty.Given as goal

abbrev pub invariant-loop-i : goal.invariant-loop-i
invariant-loop-i l = eqb l.any 0 ≡ all l.i (λ j. slot_empty l.block (suc j))
