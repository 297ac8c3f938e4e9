-- `numbers_coded::rest_at` meets its contract. The invariant: what the rest of the read finds behind the groups passed is what the whole finds.
use mathlib.Core.Path.{◌≡◌, refl, sym, ap, ◌∙◌}
use Prim.Native.Nat.{◌+◌, ◌*◌, ◌≤◌}
use native.Mathlib.Nat.{mul-le-mul_left}
use native.Mathlib.Omega.{arith}
use lib.ListN.{length}
use Rattle.numbers_coded.specs.At.{plain}
use Rattle.numbers_coded.specs.At.Number.{Fault}
use Rattle.numbers_coded.proofs.AtLaws.{rest_end, turn_low, turn-high, turn_last, turn-none, turn_more, bound-more}
use Rattle.numbers_coded.proofs.rest_at.Goals as goal

pub loop-i-init : goal.loop-i-init
loop-i-init c = (omega arith, omega arith, refl)

pub returns-then-b-lo : goal.returns-then-b-lo
returns-then-b-lo c =
    let k = c.before in
    let l = k.before.before.before.before.before.loop-i in
    let a = k.before.before.before.before.before.before.before.args in
    ap plain (turn_low a.s.now l.i l.value l.unit l.lo l.hi k.before.before.from-b.result _ l.invariant.2 (omega arith) k.before.before.from-b.ensures (omega arith) (omega arith))

pub returns-then-hi-b : goal.returns-then-hi-b
returns-then-hi-b c =
    let k = c.before in
    let l = k.before.before.before.before.before.before.loop-i in
    let a = k.before.before.before.before.before.before.before.before.args in
    ap plain (turn-high a.s.now l.i l.value l.unit l.lo l.hi k.before.before.before.from-b.result _ l.invariant.2 (omega arith) k.before.before.before.from-b.ensures (omega arith) (omega arith) (omega arith))

pub returns-then-b-lt128 : goal.returns-then-b-lt128
returns-then-b-lt128 c =
    let k = c.before in
    let l = k.before.before.before.before.before.before.loop-i in
    let a = k.before.before.before.before.before.before.before.before.args in
    ap plain (turn_last a.s.now l.i l.value l.unit l.lo l.hi k.before.before.before.from-b.result _ l.invariant.2 (omega arith) k.before.before.before.from-b.ensures (omega arith) (omega arith) (omega arith))

pub returns-then-next_hi-next_lo : goal.returns-then-next_hi-next_lo
returns-then-next_hi-next_lo c =
    let k = c.before in
    let l = k.before.before.before.before.before.before.before.loop-i in
    let a = k.before.before.before.before.before.before.before.before.before.args in
    ap plain (turn-none a.s.now l.i l.value l.unit l.lo l.hi k.before.before.before.before.from-b.result _ l.invariant.2 (omega arith) k.before.before.before.before.from-b.ensures (omega arith) k.before.before.least_after-next_lo.result k.before.most_after-next_hi.result k.before.before.least_after-next_lo.ensures k.before.most_after-next_hi.ensures (omega arith))

pub overflow_mul-value : goal.overflow_mul-value
overflow_mul-value c =
    let l = c.before.before.before.before.before.before.before.loop-i in
    let a = c.before.before.before.before.before.before.before.before.before.args in
    let h = bound-more l.value l.unit l.hi c.before.before.before.before.from-b.result c.before.most_after-next_hi.result (a.first + 128 * a.high) l.invariant.1 (omega arith) c.before.most_after-next_hi.ensures (omega (arith, c.before.before.least_after-next_lo.ensures)) in
    omega arith

pub overflow_add-value : goal.overflow_add-value
overflow_add-value c =
    let l = c.before.before.before.before.before.before.before.loop-i in
    let a = c.before.before.before.before.before.before.before.before.before.args in
    let h = bound-more l.value l.unit l.hi c.before.before.before.before.from-b.result c.before.most_after-next_hi.result (a.first + 128 * a.high) l.invariant.1 (omega arith) c.before.most_after-next_hi.ensures (omega (arith, c.before.before.least_after-next_lo.ensures)) in
    omega arith

pub overflow_mul-unit : goal.overflow_mul-unit
overflow_mul-unit c =
    let l = c.before.before.before.before.before.before.before.loop-i in
    let a = c.before.before.before.before.before.before.before.before.before.args in
    let h = bound-more l.value l.unit l.hi c.before.before.before.before.from-b.result c.before.most_after-next_hi.result (a.first + 128 * a.high) l.invariant.1 (omega arith) c.before.most_after-next_hi.ensures (omega (arith, c.before.before.least_after-next_lo.ensures)) in
    let w : l.unit * 128 * 1 ≤ l.unit * 128 * c.before.most_after-next_hi.result = mul-le-mul_left (l.unit * 128) (omega (arith, c.before.before.least_after-next_lo.ensures)) in
    omega arith

pub loop-i-preserved : goal.loop-i-preserved
loop-i-preserved c =
    let l = c.before.before.before.before.before.before.before.loop-i in
    let a = c.before.before.before.before.before.before.before.before.before.args in
    let h = bound-more l.value l.unit l.hi c.before.before.before.before.from-b.result c.before.most_after-next_hi.result (a.first + 128 * a.high) l.invariant.1 (omega arith) c.before.most_after-next_hi.ensures (omega (arith, c.before.before.least_after-next_lo.ensures)) in (
      omega arith,
      h,
      turn_more a.s.now l.i l.value l.unit l.lo l.hi c.before.before.before.before.from-b.result _ l.invariant.2 (omega arith) c.before.before.before.before.from-b.ensures (omega arith) c.before.before.least_after-next_lo.result c.before.most_after-next_hi.result c.before.before.least_after-next_lo.ensures c.before.most_after-next_hi.ensures (omega arith),
    )

pub returns : goal.returns
returns c =
    let l = c.before.before.loop-i in
    let s = c.before.before.before.before.args.s.now in
    let e : l.i ≡ length s = omega arith in
    ap plain (ap Fault (sym e) ∙ sym (rest_end s l.i l.value l.unit l.lo l.hi (omega arith)) ∙ l.invariant.2)
