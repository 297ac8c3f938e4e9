-- `image_write::exponent` meets its contract.
use Rattle.numbers.proofs.Kit.{◌≡◌, sym, ap, ◌∙◌, arith}
use Rattle.image.specs.Images.{log2}
use Rattle.image_write.proofs.ExponentLaws.{log2_is, log2_least}
use Rattle.image_write.proofs.exponent.Goals as goal

pub returns : goal.returns
returns c =
    let log = c.ilog2 in
    let is : log2 64 c.max.result ≡ log.result = log2_is 64 log.result c.max.result (omega (arith, log.ensures.bound)) log.ensures.power_le log.ensures.next_power_gt in
    (c.from.ensures ∙ sym is ∙ ap (log2 64) c.max.ensures ∙ log2_least 64 c.args.n, omega (arith, c.from.ensures, log.ensures.bound))
