use Rattle.numbers.proofs.Kit.{arith}
use Rattle.run_place.proofs.CountLaws.{few-inner, few-outer}
use Rattle.run_next.proofs.steps_by.Goals as goal

pub overflow_mul-result-2 : goal.overflow_mul-result-2
overflow_mul-result-2 c = let a = c.args in omega (arith, few-inner a.rows a.columns a.terms c.requires.0 c.requires.1.0 c.requires.1.1)

pub overflow_add-result-2 : goal.overflow_add-result-2
overflow_add-result-2 c = let a = c.args in omega (arith, few-inner a.rows a.columns a.terms c.requires.0 c.requires.1.0 c.requires.1.1)

pub overflow_mul-result-3 : goal.overflow_mul-result-3
overflow_mul-result-3 c = let a = c.args in omega (arith, few-outer a.rows a.columns a.terms c.requires.0 c.requires.1.0 c.requires.1.1)

pub overflow_add-result-3 : goal.overflow_add-result-3
overflow_add-result-3 c = let a = c.args in omega (arith, few-outer a.rows a.columns a.terms c.requires.0 c.requires.1.0 c.requires.1.1)
