use Rattle.numbers.proofs.Kit.{sym, ◌∙◌, true, false, arith}
use Rattle.machine.proofs.SizeLaws.{chosen_by}
use Rattle.unit_start.proofs.chosen.Goals as goal

pub returns-then-is_halved : goal.returns-then-is_halved
returns-then-is_halved c =
    let a = c.args in
    omega (arith, chosen_by a.rule a.most a.asked true (sym c.if-is_halved.true ∙ c.is_halved.ensures))

pub returns : goal.returns
returns c =
    let a = c.args in
    c.min.ensures ∙ chosen_by a.rule a.most a.asked false (sym c.if-is_halved.false ∙ c.is_halved.ensures)
