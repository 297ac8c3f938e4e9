use Rattle.numbers.proofs.Kit.{refl, ap, ◌∙◌, subst, ◌^◌, replicate}
use Rattle.text_lines.specs.Parts.{Wrote}
use Rattle.product_answer.proofs.SolveLaws.{solved}
use Rattle.product_answer.proofs.solve.Goals as goal

pub returns : goal.returns
returns c t e elements =
    let a = c.args in
    let p = a.product.now in
    subst (Wrote a.out.now 0 c.put_accepted.new.out c.put_accepted.result)
    (solved t a.numbers.now p.sew p.factor p.m p.k p.n e elements (replicate 3072 0) c.fill.new.memory c.multiply-count.new.c c.multiply-count.result c.modulus-q.result
    refl (rw c.width-width.ensures.0 at c.fill.ensures) c.multiply-count.auto.c c.multiply-count.ensures.value c.multiply-count.ensures.by_index (c.modulus-q.ensures ∙ ap (◌^◌ 256) c.wide.ensures.0))
    c.put_accepted.ensures
