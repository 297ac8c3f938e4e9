-- `image_write::stretch::long_end` meets its contract.
use Rattle.numbers.proofs.Kit.{arith, length}
use Rattle.image_write.proofs.StretchLaws.{joined, behind}
use Rattle.image_write.proofs.stretch.long_end.Goals as goal

pub returns-then-near-from : goal.returns-then-near-from
returns-then-near-from c =
    let e = c.words_end-near.ensures in
    record { to = e.to; within = e.to.in-marks; other = λ k. e.other c.if-near-from.true }

pub returns : goal.returns
returns c =
    let a = c.args in
    let s = a.marks.now in
    let near = c.words_end-near in
    let far = c.blocks_end-far in
    let r = c.words_end-2 in
    behind s a.from far.result (length s) a.value r.result (omega (arith, near.ensures.to.from-there, far.ensures.from-there))
    (joined s a.from near.result a.value far.result near.ensures.to.all_same far.ensures.all_same) r.ensures
