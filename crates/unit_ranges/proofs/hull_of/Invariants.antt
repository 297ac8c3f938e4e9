use Rattle.unit_ranges.specs.Parts.{Around}
use Rattle.unit_ranges.proofs.hull_of.Given as goal

abbrev pub invariant-loop-i : goal.invariant-loop-i
invariant-loop-i l = Around l.block l.i l.low l.high
