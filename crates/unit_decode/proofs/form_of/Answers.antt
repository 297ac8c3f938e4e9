use mathlib.Core.Path.{sym, ap}
use mathlib.Core.Bool.{Bool, cond}
use borrow.Author.Tests.{lt-ltb, le-ltb}
use Rattle.machine.specs.declared.Form.TheVariants.{Plain, Transposed}
use Rattle.unit_decode.proofs.form_of.Goals as goal

pub returns-then-number-gt108 : goal.returns-then-number-gt108
returns-then-number-gt108 c = sym (ap (λ (t : Bool). cond t Transposed Plain) (lt-ltb 108 c.args.number c.if-number-gt108.true))

pub returns : goal.returns
returns c = sym (ap (λ (t : Bool). cond t Transposed Plain) (le-ltb 108 c.args.number c.if-number-gt108.false))
