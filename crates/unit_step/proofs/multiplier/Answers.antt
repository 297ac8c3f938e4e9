use Rattle.numbers.proofs.Kit.{arith}
use Rattle.unit_step.proofs.WordLaws.{multiplier-is, whole_word}
use Rattle.std.proofs.Common.{rules}
use Rattle.unit_step.proofs.multiplier.Goals as goal

pub returns-then-msew-eq0 : goal.returns-then-msew-eq0
returns-then-msew-eq0 c = let a = c.args in multiplier-is a.mtype 0 a.value c.sign_extend.result c.if-msew-eq0.true c.sign_extend.ensures

pub returns-then-msew-eq1 : goal.returns-then-msew-eq1
returns-then-msew-eq1 c = let a = c.args in multiplier-is a.mtype 1 a.value c.sign_extend-then-msew-eq1.result c.if-msew-eq1.true c.sign_extend-then-msew-eq1.ensures

pub returns-then-msew-eq2 : goal.returns-then-msew-eq2
returns-then-msew-eq2 c = let a = c.args in multiplier-is a.mtype 2 a.value c.sign_extend-then-msew-eq2.result c.if-msew-eq2.true c.sign_extend-then-msew-eq2.ensures

pub returns : goal.returns
returns c =
    multiplier-is c.args.mtype 3 c.args.value c.args.value (omega (arith, c.requires, c.if-msew-eq2.false, c.if-msew-eq1.false, c.if-msew-eq0.false)) (whole_word c.args.value (search rules))
