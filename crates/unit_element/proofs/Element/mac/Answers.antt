use Rattle.numbers.proofs.Kit.{◌^◌}
use Rattle.numbers.proofs.ElementLaws.{pow-256}
use Rattle.unit_element.proofs.Laws.{sum-of-product}
use Rattle.unit_element.proofs.Element.mac.Goals as goal

pub returns : goal.returns
returns g c =
    let e = g.Self.Element in
    let n = e.number in
    sum-of-product (256 ^ e.BYTES) (pow-256 e.BYTES) (n c.wrapping_sum.result) (n c.args.self) (n c.wrapping_product.result) (n c.args.x) (n c.args.y)
    c.wrapping_sum.ensures c.wrapping_product.ensures
