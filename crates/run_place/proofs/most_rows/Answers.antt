use Rattle.numbers.proofs.Kit.{arith}
use Rattle.run_place.proofs.RunPlaceLaws.{run-rlen}
use Rattle.run_place.proofs.most_rows.Goals as goal

pub nonzero_div-result : goal.nonzero_div-result
nonzero_div-result c = omega (arith, run-rlen c.args.run c.requires)
