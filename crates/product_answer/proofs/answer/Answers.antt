use Rattle.numbers.proofs.Kit.{◌∙◌}
use Rattle.product_answer.proofs.SolveLaws.{refused-is}
use Rattle.product_answer.proofs.answer.Goals as goal

pub returns-in-None-clause-out_after : goal.returns-in-None-clause-out_after
returns-in-None-clause-out_after c = c.put_refused.ensures.text ∙ refused-is c.args.text.now c.in-None.ensures.value
