use mathlib.Core.Path.{sym, ap}
use mathlib.Core.Bool.{Bool, cond}
use Prim.Native.Nat.{◌-◌}
use native.Mathlib.Omega.{arith}
use borrow.Author.Tests.{lt-ltb, le-ltb}
use Rattle.unit_decode.proofs.printed.Goals as goal

pub returns-then-number-gt108 : goal.returns-then-number-gt108
returns-then-number-gt108 c = let n = c.args.number in sym (ap (λ (t : Bool). cond t (n - 100) n) (lt-ltb 108 n c.if-number-gt108.true))

pub returns : goal.returns
returns c = let n = c.args.number in sym (ap (λ (t : Bool). cond t (n - 100) n) (le-ltb 108 n c.if-number-gt108.false))
