use Rattle.numbers.proofs.Kit.{◌≡◌, true}
use Rattle.machine.specs.Tests.{all}
use Rattle.unit_ranges.specs.Parts.{slot_sound}
use Rattle.unit_ranges.proofs.slots_sound.Given as goal

abbrev pub invariant-loop-i : goal.invariant-loop-i
invariant-loop-i l = all l.i (slot_sound l.block l.count) ≡ true
