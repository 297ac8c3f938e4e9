use Rattle.numbers.proofs.Kit.{refl, sym, ap₂, ◌∙◌, true, ℕ, arith}
use Rattle.machine.specs.Tests.{within}
use Rattle.machine.specs.Memory.{rows_miss}
use Rattle.unit_ranges.proofs.RangeLaws.{held, none-met, one-missed, in_block}
use Rattle.unit_ranges.proofs.rows_unsealed.Goals as goal

pub returns-then-count-eq0 : goal.returns-then-count-eq0
returns-then-count-eq0 c =
    let k = c.count_of-count in
    let a = c.args in
    in_block a.base a.stride a.rows a.bytes a.block.now c.requires.block_value 0 (omega (arith, c.if-count-eq0.true, k.ensures.0)) true (none-met a.base a.stride a.rows a.bytes)

pub read-start-requires : goal.read-start-requires
read-start-requires c = let h = held c.args.block.now c.requires.block_value in omega (arith, h.long)

pub read-size-requires : goal.read-size-requires
read-size-requires c = let h = held c.args.block.now c.requires.block_value in omega (arith, h.long)

pub returns : goal.returns
returns c =
    let k = c.count_of-count in
    let a = c.args in
    c.rows_miss.ensures
    ∙ ap₂ (λ (p q : ℕ). rows_miss (within p q) a.base a.stride a.rows a.bytes) c.read-start.ensures c.read-size.ensures
    ∙ one-missed a.base a.stride a.rows a.bytes a.block.now
    ∙ in_block a.base a.stride a.rows a.bytes a.block.now c.requires.block_value 1 (sym c.if-count-ne1.false ∙ k.ensures.0) _ refl
