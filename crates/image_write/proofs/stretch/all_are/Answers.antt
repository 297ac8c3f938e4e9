-- `image_write::stretch::all_are` meets its contract.
use Rattle.numbers.proofs.Kit.{◌≡◌, refl, ap, ◌∙◌, ℕ, ◌+◌, arith, eqb, get_or}
use Rattle.machine.specs.Tests.{all}
use Rattle.image_write.proofs.StretchLaws.{block-bad, block-good}
use Rattle.image_write.proofs.stretch.all_are.Goals as goal
use Rattle.image_write.proofs.stretch.all_are.Goals.{then-marks-p, else-marks-p}

pub loop-i-init : goal.loop-i-init
loop-i-init c = (omega arith, refl)

pub loop-i-preserved : goal.loop-i-preserved
loop-i-preserved c =
    let l = c.loop-i in
    let a = c.args in (
      omega arith,
      elim c.if-marks-p.branch [
        | then-marks-p w ↦ w.good-is ∙ block-bad a.marks.now a.p l.i a.value w.if-marks-p.true
        | else-marks-p w ↦ w.good-is ∙ block-good a.marks.now a.p l.i a.value l.good w.if-marks-p.false l.invariant.1
      ],
    )

pub returns : goal.returns
returns c =
    let l = c.loop-i in
    let a = c.args in
    let e : l.i ≡ a.n = omega arith in
    l.invariant.1 ∙ ap (λ (n : ℕ). all n (λ b. eqb (get_or a.marks.now (a.p + b) 0) a.value)) e
