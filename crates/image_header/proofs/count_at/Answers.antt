-- `image_header::count_at` meets its contract.
use Rattle.numbers.proofs.Kit.{ap, ◌∙◌, arith}
use Rattle.numbers_coded.specs.At.{plain}
use Rattle.image_header.proofs.HeadLaws.{count-end, count-bad, count-some}
use Rattle.image_header.proofs.count_at.Goals as goal

pub returns-then-from-eq1 : goal.returns-then-from-eq1
returns-then-from-eq1 c =
    let w = c.from in
    let a = c.args in
    ap plain (count-bad a.s.now a.at w.result (omega (arith, c.if-at-s.true)) w.ensures c.if-from-eq1.true)

pub returns-then-at-s : goal.returns-then-at-s
returns-then-at-s c =
    let w = c.from in
    let a = c.args in
    c.number_at.ensures ∙ ap plain (count-some a.s.now a.at w.result (omega (arith, c.if-at-s.true)) w.ensures c.if-from-eq1.false)

pub returns : goal.returns
returns c =
    let a = c.args in
    ap plain (count-end a.s.now a.at (omega (arith, c.if-at-s.false)))
