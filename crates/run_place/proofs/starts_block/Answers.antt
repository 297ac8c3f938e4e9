use Rattle.numbers.proofs.Kit.{sym, ap, ◌∙◌, ℕ, ◌-◌, div-mul-le_self, arith, eqb}
use Rattle.numbers.specs.Blocks.{chunks}
use Rattle.machine.specs.Tests.{is_in}
use Rattle.machine.specs.Setting.{chosen}
use Rattle.machine.proofs.SizeLaws.{chosen-grants}
use Rattle.run.proofs.BeginLaws.{starts_first, starts_by}
use Rattle.run_place.proofs.starts_block.Goals as goal

pub returns-then-at-eq0 : goal.returns-then-at-eq0
returns-then-at-eq0 c =
    let a = c.args in
    sym (starts_first (chosen a.rule) (chosen-grants a.rule) a.most c.requires.0 a.total (omega (arith, c.requires.1)))
    ∙ ap (λ (i : ℕ). is_in i (chunks (chosen a.rule) a.most a.total 0)) (sym c.if-at-eq0.true)

pub overflow_mul-base : goal.overflow_mul-base
overflow_mul-base c = let a = c.args in omega (arith, div-mul-le_self (a.at - 1) a.most)

pub block_end-requires : goal.block_end-requires
block_end-requires c = let a = c.args in omega (arith, div-mul-le_self (a.at - 1) a.most, c.requires.1)

pub returns : goal.returns
returns c =
    let a = c.args in
    ap (λ (x : ℕ). eqb x a.at) c.block_end.ensures
    ∙ starts_by (chosen a.rule) (chosen-grants a.rule) a.most c.requires.0 a.total a.at (omega arith) c.requires.1
