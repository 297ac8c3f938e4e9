use Rattle.numbers.proofs.Kit.{ap, ℕ, ◌/◌, arith}
use Rattle.run_place.proofs.RunPlaceLaws.{run-sew, run-bytes}
use Rattle.run_place.proofs.most_columns.Goals as goal

pub nonzero_div-result-2 : goal.nonzero_div-result-2
nonzero_div-result-2 c = omega (arith, run-bytes c.args.run c.requires)

pub returns : goal.returns
returns c = ap (λ (e : ℕ). c.args.run.rlen / 8 / e) (run-sew c.args.run c.requires)
