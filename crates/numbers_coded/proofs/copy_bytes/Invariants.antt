-- What is still to be copied makes of the room what the whole makes.
use mathlib.Core.Path.{◌≡◌}
use Prim.Native.Nat.{◌+◌, ◌-◌}
use lib.ListN.{take, drop}
use lib.Seq.{sets}
use Rattle.numbers_coded.proofs.copy_bytes.Given as goal

abbrev pub invariant-loop-i : goal.invariant-loop-i
invariant-loop-i l = sets l.room (l.to + l.i) (take (l.n - l.i) (drop (l.from + l.i) l.s)) ≡ sets l.initial.room l.to (take l.n (drop l.from l.s))
