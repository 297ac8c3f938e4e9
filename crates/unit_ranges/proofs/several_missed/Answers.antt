use Rattle.numbers.proofs.Kit.{sym, ◌∙◌, true, arith}
use Rattle.unit_ranges.proofs.RangeLaws.{none-met, all-missed, in_block}
use Rattle.unit_ranges.proofs.several_missed.Goals as goal

pub returns-then-count-eq0 : goal.returns-then-count-eq0
returns-then-count-eq0 c =
    let k = c.count_of-count in
    let a = c.args in
    in_block a.base a.stride a.rows a.bytes a.block.now c.requires.block_value 0 (omega (arith, c.if-count-eq0.true, k.ensures.0)) true (none-met a.base a.stride a.rows a.bytes)

pub overflow_sub-size : goal.overflow_sub-size
overflow_sub-size c = let h = c.hull_of-hull.ensures 0 (omega (arith, c.if-count-eq0.false)) in omega (arith, h.0, h.1)

pub returns-then-rows_miss : goal.returns-then-rows_miss
returns-then-rows_miss c =
    let h = c.hull_of-hull in
    let k = c.count_of-count in
    let a = c.args in
    in_block a.base a.stride a.rows a.bytes a.block.now c.requires.block_value k.result k.ensures.0 true
    (all-missed a.base a.stride a.rows a.bytes a.block.now k.result h.result.start h.result.end h.ensures (sym c.rows_miss.ensures ∙ c.if-rows_miss.true))
