use mathlib.Core.Path.{◌≡◌}
use Prim.Native.Nat.{◌+◌}
use lib.ListN.{drop}
use Rattle.text_read.specs.Parts.{feed_at}
use Rattle.text_read.proofs.line_end.Given as goal

abbrev pub invariant-loop-i : goal.invariant-loop-i
invariant-loop-i l = l.from + feed_at (drop l.from l.text) ≡ l.i + feed_at (drop l.i l.text)
