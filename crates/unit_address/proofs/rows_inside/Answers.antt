use Rattle.numbers.proofs.Kit.{sym, ap, ◌∙◌, ◌*◌, ◌-◌, arith, leb, ℤ, nat_abs}
use Rattle.unit_address.proofs.AddressLaws.{passed_on, inside-no-bytes, inside-no-rows, inside-first-not, inside-up, inside-down}
use Rattle.unit_address.proofs.rows_inside.Goals as goal

pub returns-then-bytes-eq0 : goal.returns-then-bytes-eq0
returns-then-bytes-eq0 c =
    let a = c.args in
    sym (inside-no-bytes a.len a.base a.stride a.rows a.bytes c.if-bytes-eq0.true)

pub returns-then-rows-eq0 : goal.returns-then-rows-eq0
returns-then-rows-eq0 c =
    let a = c.args in
    sym (inside-no-rows a.len a.base a.stride a.rows a.bytes c.if-rows-eq0.true)

pub returns-then-bytes-len : goal.returns-then-bytes-len
returns-then-bytes-len c =
    let a = c.args in
    sym (inside-first-not a.len a.base a.stride a.rows a.bytes c.if-bytes-eq0.false (omega arith) (omega arith))

pub returns-then-base-end : goal.returns-then-base-end
returns-then-base-end c =
    let a = c.args in
    sym (inside-first-not a.len a.base a.stride a.rows a.bytes c.if-bytes-eq0.false (omega arith) (omega arith))

pub returns-then-step-lt0 : goal.returns-then-step-lt0
returns-then-step-lt0 c =
    let a = c.args in
    let e = passed_on c.as_signed-step.result a.stride c.as_signed-step.type_inv c.as_signed-step.ensures in
    c.is_bounded.ensures ∙ ap (λ (z : ℤ). leb (nat_abs z * (a.rows - 1)) a.base) e
    ∙ inside-down a.len a.base a.stride a.rows a.bytes (a.rows - 1) (omega arith) c.ranges.stride.fits c.if-bytes-eq0.false (omega arith)
    (rw e at c.if-step-lt0.true)

pub returns : goal.returns
returns c =
    let a = c.args in
    let e = passed_on c.as_signed-step.result a.stride c.as_signed-step.type_inv c.as_signed-step.ensures in
    c.is_bounded-2.ensures ∙ ap (λ (z : ℤ). leb (nat_abs z * (a.rows - 1)) (a.len - a.bytes - a.base)) e
    ∙ inside-up a.len a.base a.stride a.rows a.bytes (a.rows - 1) (omega arith) c.ranges.stride.fits c.if-bytes-eq0.false (omega arith)
    (rw e at c.if-step-lt0.false)
