-- `image_write::stretch::blocks_end` meets its contract.
use Rattle.numbers.proofs.Kit.{sym, ◌∙◌, arith}
use Rattle.image_write.proofs.StretchLaws.{block_more}
use Rattle.image_write.proofs.stretch.blocks_end.Goals as goal

pub loop-i-init : goal.loop-i-init
loop-i-init c = (omega arith, omega arith, λ q k l. absurd (omega arith))

pub returns-then-not-all_are : goal.returns-then-not-all_are
returns-then-not-all_are c = let l = c.loop-i in record { from-there = l.invariant.0; in-marks = l.invariant.1; all_same = l.invariant.2 }

pub loop-i-preserved : goal.loop-i-preserved
loop-i-preserved c =
    let l = c.loop-i in
    let a = c.args in
    let r = c.all_are in
    (omega arith, omega arith, block_more a.marks.now a.from l.i 64 a.value l.invariant.2 (sym r.ensures ∙ c.if-not-all_are.false))

pub returns : goal.returns
returns c = let l = c.loop-i in record { from-there = l.invariant.0; in-marks = l.invariant.1; all_same = l.invariant.2 }
