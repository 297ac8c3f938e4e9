-- `numbers_coded::put_number` meets its contract. The invariant: what is still to be put makes of the room what the whole makes.
use mathlib.Core.Path.{◌≡◌}
use Prim.Native.Nat.{◌+◌}
use lib.ListN.{length}
use lib.Seq.{sets}
use Rattle.numbers_format.specs.Numbers.{encode}
use Rattle.numbers_coded.proofs.put_number.Given as goal

abbrev pub invariant-loop-x : goal.invariant-loop-x
invariant-loop-x l =
    (length l.room ≡ length l.initial.room) × (l.i + length (encode l.x) ≡ l.at + length (encode l.n)) × (sets l.room l.i (encode l.x) ≡ sets l.initial.room l.at (encode l.n))

abbrev pub decreases-loop-x : goal.decreases-loop-x
decreases-loop-x l = l.x
