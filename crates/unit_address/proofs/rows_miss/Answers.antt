use Rattle.numbers.proofs.Kit.{◌≡◌, sym, ap, ◌∙◌, not, ℕ, ◌+◌, ◌≤◌, ◌<◌, le-mul_of_pos_right, arith}
use mir.Syntax.{w64}
use mir.Val.{to_z, of_z}
use Rattle.machine.specs.Tests.{within}
use Rattle.machine.specs.Memory.{row_at, misses}
use Rattle.unit_address.proofs.TestLaws.{all-next, test-failed, test-passed}
use Rattle.unit_address.proofs.AddressLaws.{passed_on, row_inside, row-reached, row-starts}
use Rattle.unit_address.proofs.SealLaws.{miss-no-bytes, miss-not, miss-all}
use Rattle.unit_address.proofs.rows_miss.Goals as goal
use Rattle.unit_address.proofs.rows_miss.Goals.{After-row_address-at}

pub returns-then-bytes-eq0 : goal.returns-then-bytes-eq0
returns-then-bytes-eq0 c = let a = c.args in miss-no-bytes a.seal a.size a.base a.stride a.rows a.bytes c.if-bytes-eq0.true

pub row_address-at-requires : goal.row_address-at-requires
row_address-at-requires c =
    let a = c.args in
    let e = passed_on c.as_signed-step.result a.stride c.as_signed-step.type_inv c.as_signed-step.ensures in
    let some : 0 < a.bytes = omega (arith, c.if-bytes-eq0.false) in
    let r = row-reached a.len a.base a.stride a.rows a.bytes c.requires.bytes_value some c.ranges.stride.fits c.requires.len_bound
    (omega (arith, c.requires.bytes_bound, le-mul_of_pos_right {m = a.bytes} a.rows some)) c.loop-i.i c.loop-i-test.true (to_z w64 (of_z w64 c.as_signed-step.result)) e in
    record { row_bound = r.0; row_bound_2 = r.1.0; stride_value = r.1.1 }

-- where the row starts, and that it lies in memory
here : (c : After-row_address-at) →
    let a = c.args in
    (c.row_address-at.result ≡ row_at a.base a.stride c.loop-i.i) × (c.row_address-at.result + a.bytes ≤ a.len)
here c =
    let a = c.args in
    let i = c.loop-i.i in
    let s = passed_on c.as_signed-step.result a.stride c.as_signed-step.type_inv c.as_signed-step.ensures in
    let e = row-starts a.len a.base a.stride a.rows a.bytes i c.row_address-at.result (to_z w64 (of_z w64 c.as_signed-step.result)) s c.row_address-at.ensures in
    (e, omega (arith, e, (row_inside a.len a.base a.stride a.rows a.bytes c.requires.bytes_value (omega (arith, c.if-bytes-eq0.false)) c.ranges.stride.fits i c.loop-i-test.true).1))

pub misses_range-requires : goal.misses_range-requires
misses_range-requires c = let h = here (goal.at.misses_range-requires c).After-row_address-at in omega (arith, h.1)

pub returns-then-not-misses_range : goal.returns-then-not-misses_range
returns-then-not-misses_range c =
    let a = c.args in
    let at = c.row_address-at.result in
    miss-not a.seal a.size a.base a.stride a.rows a.bytes c.loop-i.i at c.loop-i-test.true (here (goal.at.returns-then-not-misses_range c).After-row_address-at).0
    (sym (test-failed c.misses_range.result (misses (within a.seal a.size) at a.bytes) c.misses_range.ensures (ap not c.if-not-misses_range.true)))

pub loop-i-preserved : goal.loop-i-preserved
loop-i-preserved c =
    let a = c.args in
    let l = c.loop-i in
    let r = c.misses_range in
    all-next l.i (λ k. misses (within a.seal a.size) (row_at a.base a.stride k) a.bytes) l.invariant
    (ap (λ (x : ℕ). misses (within a.seal a.size) x a.bytes) (sym (here (goal.at.loop-i-preserved c).After-row_address-at).0)
    ∙ test-passed r.result (misses (within a.seal a.size) c.row_address-at.result a.bytes) r.ensures (ap not c.if-not-misses_range.false))

pub returns : goal.returns
returns c =
    let a = c.args in
    let l = c.loop-i in
    miss-all a.seal a.size a.base a.stride a.rows a.bytes l.i (omega arith) l.invariant
