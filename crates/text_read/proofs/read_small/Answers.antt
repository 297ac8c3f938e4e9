use native.Mathlib.Omega.{arith}
use Prim.Native.Nat.{◌+◌}
use lib.ListN.{drop}
use Rattle.text_read.proofs.RowLaws.{decimal-bound}
use Rattle.text_read.proofs.read_small.Goals as goal

pub overflow_sub-result : goal.overflow_sub-result
overflow_sub-result c =
    let a = c.args in
    let b = decimal-bound 1 16 (a.at + 1) (drop (a.at + 1) a.line.now) c.in_ok-found.found (omega arith) (omega arith) c.in_ok-found.ensures in
    omega arith
