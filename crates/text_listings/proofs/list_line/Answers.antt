use Rattle.numbers.proofs.Kit.{arith}
use Rattle.text_listings.proofs.ListLaws.{word_bound, word-place}
use Rattle.text_listings.proofs.list_line.Goals as goal

pub overflow_cast-word : goal.overflow_cast-word
overflow_cast-word c = let f = (word_bound c.args.line.now c.in-Ok.word c.in-Ok.ensures).0 in omega arith

pub put_bad_line-requires-clause-fault_place_bound : goal.put_bad_line-requires-clause-fault_place_bound
put_bad_line-requires-clause-fault_place_bound c = omega (arith, (word-place c.args.line.now c.in-Err.fault c.in-Err.ensures).0, c.requires.0)
