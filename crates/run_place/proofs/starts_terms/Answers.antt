use Rattle.numbers.proofs.Kit.{arith}
use Rattle.run_place.proofs.RunPlaceLaws.{run-most}
use Rattle.run_place.proofs.starts_terms.Goals as goal

pub starts_block-requires : goal.starts_block-requires
starts_block-requires c = omega (arith, c.most_terms-most.ensures, (run-most c.args.run c.requires.run_value).0<tk, c.requires.term_lt_k)
