use Rattle.numbers.proofs.Kit.{◌≡◌, true}
use Rattle.machine.specs.Geometry.{sealed}
use Rattle.machine.specs.Memory.{rows_miss}
use Rattle.unit_ranges.specs.Ranges.{first_ranges}
use Rattle.unit_ranges.proofs.each_missed.Given as goal

-- the ranges before the i-th are missed
abbrev pub invariant-loop-i : goal.invariant-loop-i
invariant-loop-i l = rows_miss (sealed (first_ranges l.i l.block)) l.base l.stride l.rows l.bytes ≡ true
