use Rattle.numbers.proofs.Kit.{sym, ap₂, ◌∙◌, Bool, ◌&&◌, ℕ, add-one, eqb}
use Rattle.unit_ranges.proofs.RangeLaws.{or-three, behind-first}
use Rattle.unit_ranges.proofs.others_empty.Goals as goal

pub loop-i-preserved : goal.loop-i-preserved
loop-i-preserved c =
    let l = c.loop-i in
    let b = c.args.block.now in
    let x = c.read in
    let y = c.read-in-loop-i in rw add-one (or-three l.any x.result y.result
    ∙ ap₂ (λ (s t : Bool). s && t) l.invariant (ap₂ (λ (p q : ℕ). eqb p 0 && eqb q 0) x.ensures y.ensures ∙ sym (behind-first b l.i)))
