use Rattle.numbers.proofs.Kit.{◌≡◌, arith}
use Rattle.numbers_format.specs.Parser.Parsed.{stopped}
use Rattle.text_assembly.specs.Reading.{read_line}
use Rattle.text_read.proofs.RowLaws.{word-whole, bad-stopped}
use Rattle.c_text.proofs.CallLaws.{stop-short, word-refused, word_read, word-bad}
use Rattle.c_text.proofs.text_word.Goals as goal
use Rattle.c_text.proofs.text_word.Goals.{In-Err}

bad : (c : In-Err) → read_line c.args.text.now ≡ stopped c.in-Err.fault.place
bad c = bad-stopped c.in-Err.fault (read_line c.args.text.now) c.in-Err.ensures

pub returns-then-word-ne8 : goal.returns-then-word-ne8
returns-then-word-ne8 c = word-refused c.args.text.now c.args.word.now c.if-word-ne8.true c.packed_text.result c.packed_text.ensures

pub returns-in-Ok : goal.returns-in-Ok
returns-in-Ok c =
    word_read c.args.text.now c.args.word.now c.if-word-ne8.false c.in-Ok.value (word-whole c.in-Ok.value (read_line c.args.text.now) c.in-Ok.ensures)
    c.write.new.s c.write.ensures c.packed_text-in-Ok.result c.packed_text-in-Ok.ensures

pub overflow_add-fault : goal.overflow_add-fault
overflow_add-fault c = omega (arith, stop-short c.args.text.now c.in-Err.fault.place (bad (goal.at.overflow_add-fault c).In-Err))

pub returns-in-Err : goal.returns-in-Err
returns-in-Err c = word-bad c.args.text.now c.args.word.now c.if-word-ne8.false c.in-Err.fault.place (bad (goal.at.returns-in-Err c).In-Err) c.packed_text-in-Err.result c.packed_text-in-Err.ensures
