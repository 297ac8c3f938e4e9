use Rattle.numbers.proofs.Kit.{◌≡◌, true}
use Rattle.std.specs.Prelude.{Ok, Err}
use Rattle.text_assembly.specs.Lines.{line}
use Rattle.text_assembly.specs.Theorems.{has_line}
use Rattle.text_answers.proofs.CodeLaws.{number-some, told}
use Rattle.c_text.proofs.CallLaws.{text-refused, text-long, text-done}
use Rattle.c_text.proofs.word_text.Goals as goal
use Rattle.c_text.proofs.word_text.Goals.{In-Ok}

has : (c : In-Ok) → has_line (line c.args.word) ≡ true
has c = told c.args.word (Ok tt) c.in-Ok.ensures

pub write_line-size-requires : goal.write_line-size-requires
write_line-size-requires c = (c.number_of-number.ensures, has (goal.at.write_line-size-requires c).In-Ok)

pub returns-then-room-size : goal.returns-then-room-size
returns-then-room-size c =
    let w = c.write_line-size in
    text-long c.args.word c.args.text.now (has (goal.at.returns-then-room-size c).In-Ok) w.result w.ensures.value c.if-room-size.true w.new.text w.ensures.text_after c.packed_text.result c.packed_text.ensures

pub returns-else-room-size : goal.returns-else-room-size
returns-else-room-size c =
    let w = c.write_line-size in
    text-done c.args.word c.args.text.now (has (goal.at.returns-else-room-size c).In-Ok) w.result w.ensures.value c.if-room-size.false w.new.text w.ensures.text_after c.packed_text-else-room-size.result c.packed_text-else-room-size.ensures

pub returns-in-Err : goal.returns-in-Err
returns-in-Err c = text-refused c.args.word c.args.text.now (Err c.in-Err.error) c.in-Err.ensures (number-some c.in-Err.error) c.packed_text-in-Err.result c.packed_text-in-Err.ensures
