-- Two wrapping products, added.
use Rattle.numbers.proofs.Kit.{refl, arith}
use Rattle.numbers.specs.Reduce.{signed}
use Rattle.numbers.proofs.SumLaws.{pair_is}
use Rattle.unit_pairs.proofs.pair_of.Goals as goal

pub returns : goal.returns
returns c =
    let a = c.args in
    let x = c.from_signed in
    let y = c.from_signed-2 in
    let v = c.from_signed-3 in
    let w = c.from_signed-4 in
    let p = c.wrapping_product-xy in
    let q = c.wrapping_product-vw in
    pair_is 0x1_0000_0000 (omega arith) _ p.result q.result x.result y.result v.result w.result
    (signed 65536 a.x) (signed 65536 a.y) (signed 65536 a.v) (signed 65536 a.w)
    refl p.ensures q.ensures x.ensures y.ensures v.ensures w.ensures
