use Rattle.numbers.proofs.Kit.{ap, ◌∙◌, ◌+◌, arith, get_or}
use Rattle.numbers.specs.Tile.{put_row}
use Rattle.product_answer.proofs.RunLaws.{part-put}
use Rattle.product_answer.proofs.fill.Goals as goal

pub returns : goal.returns
returns c =
    let a = c.args in
    c.put_elements-2.ensures ∙ part-put a.numbers.now (5 + a.a) a.b (omega arith) 1024 a.width c.put_elements.new.memory
    ∙ ap (put_row 1024 a.b a.width (λ i. get_or a.numbers.now (5 + a.a + i) 0))
    (c.put_elements.ensures ∙ part-put a.numbers.now 5 a.a (omega arith) 0 a.width a.memory.now)
