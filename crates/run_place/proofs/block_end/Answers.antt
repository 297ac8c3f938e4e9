use Rattle.numbers.proofs.Kit.{◌-◌, arith}
use Rattle.numbers.proofs.BlockLaws.{at_most}
use Rattle.machine.specs.Setting.{chosen}
use Rattle.machine.proofs.SizeLaws.{chosen-grants}
use Rattle.run_place.proofs.block_end.Goals as goal

pub overflow_add-result : goal.overflow_add-result
overflow_add-result c =
    let a = c.args in
    omega (arith, c.chosen.ensures, c.requires, (at_most (chosen a.rule) (chosen-grants a.rule) a.most (a.total - a.at)).1)
