use Rattle.numbers.proofs.Kit.{arith}
use Rattle.text_lines.proofs.WriteLaws.{first-room}
use Rattle.text_lines.proofs.put_refused.Goals as goal

pub put_first-requires : goal.put_first-requires
put_first-requires c = omega (arith, first-room 8 0 (omega arith) (omega arith))
