use Rattle.numbers.proofs.Kit.{sym, ap, ◌∙◌, ℕ, ◌+◌, arith, eqb, get_or}
use Rattle.machine.specs.Tests.{all}
use Rattle.unit_row.proofs.MarkLaws.{eight-marked}
use Rattle.unit_row.proofs.line_marked.Goals as goal

pub returns-then-n-eq8 : goal.returns-then-n-eq8
returns-then-n-eq8 c =
    let a = c.args in
    ap (λ (v : ℕ). eqb v 0x0101_0101_0101_0101) c.read.ensures ∙ eight-marked a.marks.now a.p (λ q. omega (arith, c.type_inv.marks q))
    ∙ ap (λ (n : ℕ). all n (λ b. eqb (get_or a.marks.now (a.p + b) 0) 1)) (sym c.if-n-eq8.true)
