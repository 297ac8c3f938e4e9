use borrow.Author.Tests.{eq-eqb, ne_eqb}
use borrow.Author.Rules.{rules}
use Rattle.unit_scalars.proofs.write_scalar.Goals as goal

pub returns-then-slot-ne0 : goal.returns-then-slot-ne0
returns-then-slot-ne0 c = rw (ne_eqb c.before.args.slot 0 c.if-slot-ne0.true)

pub returns-else-slot-ne0 : goal.returns-else-slot-ne0
returns-else-slot-ne0 c = rw (eq-eqb c.before.args.slot 0 c.if-slot-ne0.false)
