use Rattle.numbers.proofs.Kit.{arith}
use Rattle.unit_ranges.specs.Ranges.{seals_in}
use Rattle.image_write.proofs.SealLaws.{header-long}
use Rattle.image_write.proofs.header_size.Goals as goal

pub returns : goal.returns
returns c =
    let a = c.args in
    let long = header-long a.m (seals_in a.block.now) a.count in
    (omega (arith, long, c.fields_size.ensures.0, c.seals_size.ensures.0, c.numbers_size.ensures.0), omega (arith, c.fields_size.ensures.1, c.seals_size.ensures.1, c.numbers_size.ensures.1))
