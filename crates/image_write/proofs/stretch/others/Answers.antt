-- `image_write::stretch::others` meets its contract.
use Rattle.numbers.proofs.Kit.{◌≡◌, ◌∙◌, ◌+◌, ◌-◌, arith, get_or}
use Rattle.image_write.specs.Parts.{from_bytes}
use Rattle.image_write.proofs.WordLaws.{bytes-there, turned_ones, of_zero, of_one}
use Rattle.image_write.proofs.stretch.others.Goals as goal

pub returns-then-value-eq0 : goal.returns-then-value-eq0
returns-then-value-eq0 c =
    let a = c.args in
    c.read-word.ensures ∙ bytes-there a.marks.now a.at 8 ∙ of_zero a.marks.now a.at a.value c.if-value-eq0.true

pub returns : goal.returns
returns c =
    let a = c.args in
    let turned : 72340172838076673 - c.read-word.result ≡ from_bytes 8 (λ i. 1 - get_or a.marks.now (a.at + i) 0) =
    omega (arith, c.read-word.ensures, turned_ones a.marks.now c.requires.two_valued a.at) in
    turned ∙ of_one a.marks.now a.at a.value c.if-value-eq0.false
