use borrow.Author.Tests.{eq-eqb, ne_eqb}
use borrow.Author.Rules.{rules}
use Rattle.unit_scalars.proofs.read_scalar.Goals as goal

pub returns-then-slot-eq0 : goal.returns-then-slot-eq0
returns-then-slot-eq0 c = rw (eq-eqb c.before.args.slot 0 c.if-slot-eq0.true)

pub returns : goal.returns
returns c = rw (ne_eqb c.before.before.args.slot 0 c.before.if-slot-eq0.false)
