use Rattle.numbers.proofs.Kit.{◌≡◌, true}
use Rattle.machine.specs.Tests.{all, within}
use Rattle.machine.specs.Memory.{row_at, misses}
use Rattle.unit_address.proofs.rows_miss.Given as goal

abbrev pub invariant-loop-i : goal.invariant-loop-i
invariant-loop-i l = all l.i (λ k. misses (within l.seal l.size) (row_at l.base l.stride k) l.bytes) ≡ true
