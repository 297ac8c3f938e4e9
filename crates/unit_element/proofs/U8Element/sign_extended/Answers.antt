use Rattle.numbers.proofs.Kit.{arith}
use Rattle.numbers.proofs.ElementLaws.{extended}
use Rattle.std.proofs.Common.{rules}
use Rattle.unit_element.proofs.U8Element.sign_extended.Goals as goal

pub returns : goal.returns
returns c = extended 128 0x1_0000_0000_0000_0000 c.args.self (search rules) (omega arith)
