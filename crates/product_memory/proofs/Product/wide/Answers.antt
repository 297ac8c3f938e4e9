use Rattle.numbers.proofs.Kit.{refl, ◌*◌, ◌/◌, arith}
use Rattle.unit_element.proofs.Laws.{short-small}
use Rattle.product_memory.proofs.MemoryLaws.{widths}
use Rattle.product_memory.proofs.Product.wide.Goals as goal

pub overflow_mul-result : goal.overflow_mul-result
overflow_mul-result c =
    let p = c.args.self.now in
    rw c.width.ensures.0 (omega (arith, short-small (p.factor * (p.sew / 8)) (widths p.sew p.factor p.formatted).1))

pub returns : goal.returns
returns c = let p = c.args.self.now in rw c.width.ensures.0 (refl, (widths p.sew p.factor p.formatted).1)
