use Rattle.numbers.proofs.Kit.{arith}
use Rattle.unit_ranges.proofs.RangeLaws.{held}
use Rattle.unit_ranges.proofs.count_of.Goals as goal

pub read-requires : goal.read-requires
read-requires c = let h = held c.args.block.now c.requires in omega (arith, h.long)

pub returns : goal.returns
returns c = let h = held c.args.block.now c.requires in (c.read.ensures, omega (arith, h.few, c.read.ensures))
