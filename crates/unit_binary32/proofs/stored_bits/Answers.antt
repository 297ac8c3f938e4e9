use Rattle.numbers.proofs.Kit.{sym, ap, subst, ◌∙◌, refl, T}
use lib.Ieee.Compare.{differs_from_itself}
use Rattle.numbers.specs.Binary32.{settled}
use Rattle.unit_binary32.proofs.Laws.{equals_itself, stored_other}
use Rattle.unit_binary32.proofs.stored_bits.Goals as goal

pub float_to_bits-result : goal.float_to_bits-result
float_to_bits-result c = equals_itself c.before.args.x c.if-x.false

pub returns-then-x : goal.returns-then-x
returns-then-x c = sym (ap settled (differs_from_itself c.before.args.x (subst T (sym c.if-x.true) tt)) ∙ (unfold settled in refl))

pub returns-else-x : goal.returns-else-x
returns-else-x c = stored_other c.before.args.x (equals_itself c.before.args.x c.if-x.false)
