use Rattle.numbers.proofs.Kit.{arith}
use Rattle.unit_geometry.proofs.SizeLaws.{sizes-bounded}
use Rattle.unit_execute.proofs.reckoning.tiles_of.Goals as goal

pub nonzero_div-result : goal.nonzero_div-result
nonzero_div-result c = let b = sizes-bounded c.args.m.rlen c.args.m.mlen c.args.m.elen c.requires.lengths in omega arith
