-- `image_write::stretch::end_before` meets its contract.
use Rattle.numbers.proofs.Kit.{◌≡◌, subst, ℕ, arith}
use Rattle.image_write.proofs.StretchLaws.{AllSame, one_more}
use Rattle.image_write.proofs.stretch.end_before.Goals as goal

pub loop-i-init : goal.loop-i-init
loop-i-init c = (omega arith, omega arith, λ q k l. absurd (omega arith))

pub returns-then-marks-i : goal.returns-then-marks-i
returns-then-marks-i c =
    let l = c.loop-i in
    record {
      to = record { from-there = l.invariant.0; in-marks = omega arith; all_same = l.invariant.2 };
      within = l.invariant.1;
      other = λ k. c.if-marks-i.true;
    }

pub loop-i-preserved : goal.loop-i-preserved
loop-i-preserved c =
    let l = c.loop-i in
    let a = c.args in
    (omega arith, omega arith, one_more a.marks.now a.from l.i a.value l.invariant.2 c.if-marks-i.false)

pub returns : goal.returns
returns c =
    let l = c.loop-i in
    let a = c.args in
    let e : l.i ≡ a.limit = omega arith in
    record {
      to = record { from-there = c.requires.0; in-marks = c.requires.1; all_same = subst (λ (x : ℕ). AllSame a.marks.now a.from x a.value) e l.invariant.2 };
      within = omega arith;
      other = λ k. absurd (omega arith);
    }
