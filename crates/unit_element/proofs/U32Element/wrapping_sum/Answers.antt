use Rattle.numbers.proofs.Kit.{arith}
use Rattle.std.proofs.Common.{rules}
use Rattle.unit_element.proofs.Laws.{wrapping_sum-is}
use Rattle.unit_element.proofs.U32Element.wrapping_sum.Goals as goal

pub returns : goal.returns
returns c = wrapping_sum-is 0x1_0000_0000 (omega arith) c.args.self c.args.other (search rules) (search rules)
