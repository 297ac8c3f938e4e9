use Rattle.numbers.proofs.Kit.{◌≡◌, length}
use Rattle.machine.specs.Starting.{seals_end, ranges}
use Rattle.unit_start.proofs.seals_end.Given as goal

abbrev pub invariant-loop-rest : goal.invariant-loop-rest
invariant-loop-rest l = seals_end (ranges l.rest) ≡ seals_end (ranges l.seals)

abbrev pub decreases-loop-rest : goal.decreases-loop-rest
decreases-loop-rest l = length l.rest
