-- `image_write::several::numbers_size` meets its contract.
use Rattle.numbers.proofs.Kit.{ap, arith, length, get_or}
use Rattle.numbers_coded.proofs.SizeLaws.{size-bound}
use Rattle.image_write.proofs.PutLaws.{size-more, all_end}
use Rattle.image_write.proofs.several.numbers_size.Goals as goal

pub loop-n-init : goal.loop-n-init
loop-n-init c = (omega arith, omega arith, omega arith)

pub overflow_add-size : goal.overflow_add-size
overflow_add-size c =
    let l = c.loop-n in
    let a = c.args in
    let few = size-bound (get_or a.numbers.now l.n-index 0) (omega (arith, c.type_inv.numbers l.n-index)) in
    omega (arith, few, c.number_size-size.ensures)

pub loop-n-preserved : goal.loop-n-preserved
loop-n-preserved c =
    let l = c.loop-n in
    let a = c.args in
    let few = size-bound (get_or a.numbers.now l.n-index 0) (omega (arith, c.type_inv.numbers l.n-index)) in
    let more = size-more a.numbers.now l.n-index c.loop-n-test.true in
    (omega (arith, c.loop-n-test.true), omega (arith, few, c.number_size-size.ensures), omega (arith, more, c.number_size-size.ensures, l.invariant.2))

pub returns : goal.returns
returns c =
    let l = c.loop-n in
    let a = c.args in
    let none_left = ap length (all_end a.numbers.now l.n-index (omega (arith, c.loop-n-test.false))) in
    (omega (arith, none_left, l.invariant.2), omega (arith, l.invariant.0, l.invariant.1))
