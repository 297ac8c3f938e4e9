use Rattle.numbers.proofs.Kit.{ap, ◌^◌, ◌<◌, arith}
use Rattle.machine.proofs.AnswerLaws.{number_small}
use Rattle.c_blocks.specs.Blocks.{packed}
use Rattle.c_blocks.proofs.packed.Goals as goal

pub overflow_add-result : goal.overflow_add-result
overflow_add-result c =
    let number : c.reply_of-reply.result.number < 2 ^ 16 = rw c.reply_of-reply.ensures (number_small c.args.answer) in
    omega arith

pub overflow_add-result-2 : goal.overflow_add-result-2
overflow_add-result-2 c =
    let number : c.reply_of-reply.result.number < 2 ^ 16 = rw c.reply_of-reply.ensures (number_small c.args.answer) in
    omega arith

pub returns : goal.returns
returns c = ap packed c.reply_of-reply.ensures
