-- `image_header::ranges_at` meets its contract.
use Rattle.std.proofs.lemmas.Result.{err_from_is_err_and}
use Rattle.numbers.proofs.Kit.{◌≡◌, ap, ◌∙◌, ℕ, ◌+◌, ◌-◌, arith}
use Rattle.numbers_coded.specs.At.{plain}
use Rattle.image_header.specs.Fields.{Place, placed, range_at, ranges_end, ranges_at}
use Rattle.image_header.proofs.HeadLaws.{range-good, range-bad, ranges-none}
use Rattle.image_header.proofs.HeadLaws.{ranges-bad, ranges-next}
use Rattle.image_header.proofs.ranges_at.Goals as goal

pub returns-in_err-at : goal.returns-in_err-at
unfolding ranges_at
returns-in_err-at c =
    let l = c.loop in
    let a = c.args in
    let p = err_from_is_err_and c.from_residual.result c.from_residual.ensures.1 in
    rw (p.1, p.2) (ap (λ (x : Place). plain (placed a.start x)) (ranges-bad a.s.now (a.count - l.counter) l.at _ (omega (arith, c.loop-test.true)) (range-bad (range_at a.s.now l.at) c.in_err-at.ensures) ∙ l.invariant))

pub loop-preserved : goal.loop-preserved
loop-preserved c =
    let l = c.loop in
    let a = c.args in
    let e : a.count - (l.counter + 1) ≡ a.count - l.counter - 1 = omega arith in
    ap (λ (x : ℕ). ranges_end a.s.now x c.in_ok-at.field-0.at) e
    ∙ ranges-next a.s.now (a.count - l.counter) l.at _ _ _ (omega (arith, c.loop-test.true)) (range-good (range_at a.s.now l.at) c.in_ok-at.ensures) ∙ l.invariant

pub returns : goal.returns
unfolding ranges_at
returns c =
    let l = c.loop in
    let a = c.args in
    ap (λ (x : Place). plain (placed a.start x)) (ranges-none a.s.now (a.count - l.counter) l.at (omega (arith, c.loop-test.false)) ∙ l.invariant)
