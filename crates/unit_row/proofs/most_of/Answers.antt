use Rattle.numbers.proofs.Kit.{◌≡◌, ap, ◌∙◌, Bool, ℕ, arith, ltb, get_or}
use Rattle.machine.specs.Tests.{all}
use Rattle.unit_row.proofs.MarkLaws.{fourth, fourths}
use Rattle.unit_row.proofs.most_of.Goals as goal

pub returns : goal.returns
returns c =
    let l = c.loop-i in
    let a = c.args in
    let p : ℕ → Bool = λ k. ltb (get_or a.marks.now k 0) 2 in
    let e : l.i ≡ a.quarter = omega arith in
    l.invariant ∙ ap (λ (n : ℕ). all n (fourth p a.quarter)) e ∙ fourths p a.quarter
