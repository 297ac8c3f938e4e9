use Rattle.numbers.proofs.Kit.{refl}
use Rattle.unit_step.proofs.WordLaws.{extend-low, extend-high}
use Rattle.unit_step.proofs.sign_extend.Goals as goal

pub returns-then-x-half : goal.returns-then-x-half
returns-then-x-half c = extend-low c.args.x c.args.half c.if-x-half.true c.requires.1

pub returns : goal.returns
returns c = extend-high c.args.x c.args.half _ c.if-x-half.false c.requires.0 c.requires.1 refl
