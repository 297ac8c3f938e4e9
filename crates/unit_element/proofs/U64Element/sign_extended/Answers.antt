use Rattle.numbers.proofs.Kit.{sym, arith}
use Rattle.numbers.proofs.ReduceLaws.{reduce-signed}
use Rattle.std.proofs.Common.{rules}
use Rattle.unit_element.proofs.U64Element.sign_extended.Goals as goal

pub returns : goal.returns
returns c = sym (reduce-signed 0x1_0000_0000_0000_0000 (omega arith) c.args.self (search rules))
