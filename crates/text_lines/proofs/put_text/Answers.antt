use Rattle.text_lines.proofs.WriteLaws.{wrote_part}
use Rattle.numbers.proofs.Kit.{arith}
use Rattle.text_lines.proofs.put_text.Goals as goal

pub returns : goal.returns
returns c =
    let a = c.args in
    wrote_part a.out.now c.copy_from_slice.new.self a.text.now a.at _ c.copy_from_slice.ensures.after (omega arith) c.requires
