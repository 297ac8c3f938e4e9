use Rattle.numbers.proofs.Kit.{refl}
use Rattle.product_memory.proofs.MemoryLaws.{widths}
use Rattle.product_memory.proofs.Product.width.Goals as goal

pub returns : goal.returns
returns c = let p = c.args.self.now in (refl, (widths p.sew p.factor p.formatted).0)
