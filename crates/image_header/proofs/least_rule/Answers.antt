-- `image_header::least_rule` meets its contract.
use Rattle.numbers.proofs.Kit.{eq-eqb, ne_eqb}
use Rattle.image_header.proofs.least_rule.Goals as goal

pub returns-then-version-eq2 : goal.returns-then-version-eq2
returns-then-version-eq2 c = rw (eq-eqb c.args.version 2 c.if-version-eq2.true)

pub returns-else-version-eq2 : goal.returns-else-version-eq2
returns-else-version-eq2 c = rw (ne_eqb c.args.version 2 c.if-version-eq2.false)
