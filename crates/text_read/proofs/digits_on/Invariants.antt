use Prim.Native.Nat.{◌≤◌}
use mathlib.Core.Path.{◌≡◌}
use lib.ListN.{drop}
use Rattle.text_assembly.specs.Reading.{digits_on}
use Rattle.text_read.specs.Parts.{got_from}
use Rattle.text_read.proofs.digits_on.Given as goal

abbrev pub invariant-loop-i : goal.invariant-loop-i
invariant-loop-i l = (l.value ≤ l.most) × (got_from l.from (digits_on l.most l.v (drop l.from l.line)) ≡ got_from l.i (digits_on l.most l.value (drop l.i l.line)))
