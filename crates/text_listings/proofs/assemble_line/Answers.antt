use Rattle.numbers.proofs.Kit.{arith}
use Rattle.text_listings.proofs.ListLaws.{line-place}
use Rattle.text_listings.proofs.assemble_line.Goals as goal

pub put_bad_line-requires-clause-fault_place_bound : goal.put_bad_line-requires-clause-fault_place_bound
put_bad_line-requires-clause-fault_place_bound c = omega (arith, (line-place c.args.line.now c.in-Err.fault c.in-Err.ensures).0, c.requires.0)
