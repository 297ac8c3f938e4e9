use Rattle.numbers.proofs.Kit.{eq-eqb, ne_eqb}
use Rattle.c_scalars.proofs.put_scalar.Goals as goal

pub returns-then-slot-eq0 : goal.returns-then-slot-eq0
returns-then-slot-eq0 c = rw (eq-eqb c.args.slot 0 c.if-slot-eq0.true)

pub returns : goal.returns
returns c =
    rw (ne_eqb c.args.slot 0 c.if-slot-eq0.false) c.write.ensures
