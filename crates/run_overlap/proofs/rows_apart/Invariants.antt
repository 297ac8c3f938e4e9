use Rattle.numbers.proofs.Kit.{◌≡◌, true}
use Rattle.machine.specs.Tests.{all}
use Rattle.machine.specs.Memory.{row_at}
use Rattle.run_overlap.proofs.OverlapLaws.{against}
use Rattle.run_overlap.proofs.rows_apart.Given as goal

abbrev pub invariant-loop-k : goal.invariant-loop-k
invariant-loop-k l = all l.k (against (row_at l.base l.stride) l.rows l.bytes (row_at l.other l.pace) l.count l.size) ≡ true
