use Rattle.numbers.proofs.Kit.{arith}
use Rattle.numbers.proofs.ReduceLaws.{wrapping-mul}
use Rattle.std.proofs.Common.{rules}
use Rattle.unit_element.proofs.U64Element.wrapping_product.Goals as goal

pub returns : goal.returns
returns c = wrapping-mul 0x1_0000_0000_0000_0000 (omega arith) c.args.self c.args.other (search rules) (search rules)
