-- `numbers_coded::rest_at` meets its contract. The invariant: what the rest of the read finds behind the groups passed is what the whole finds.
use mathlib.Core.Path.{◌≡◌}
use Prim.Native.Nat.{◌+◌, ◌*◌, ◌≤◌, ◌<◌}
use Rattle.numbers_coded.specs.At.{rest}
use Rattle.numbers_coded.proofs.rest_at.Given as goal

abbrev pub invariant-loop-i : goal.invariant-loop-i
invariant-loop-i l =
    (0 < l.unit) × (l.value + l.unit * l.hi ≤ l.first + 128 * l.high) × (rest l.s l.i l.value l.unit l.lo l.hi ≡ rest l.s l.at l.first 128 l.low l.high)
