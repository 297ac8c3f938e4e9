use Rattle.numbers.proofs.Kit.{ap, ◌∙◌, arith, length}
use Rattle.image_write.proofs.SealLaws.{count_none, count-listed}
use Rattle.image_write.proofs.seals.count_size.Goals as goal

pub returns-then-count-eq1 : goal.returns-then-count-eq1
returns-then-count-eq1 c = (ap length (count_none c.args.count c.if-count-eq1.true), omega arith)

pub returns : goal.returns
returns c = (c.numbers_size.ensures.0 ∙ ap length (count-listed c.args.count c.if-count-eq1.false), omega (arith, c.numbers_size.ensures.1))
