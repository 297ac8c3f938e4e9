use Rattle.numbers.proofs.Kit.{ap, ◌∙◌, ℕ, arith, leb, nat_abs}
use Rattle.unit_address.proofs.AddressLaws.{passed_on}
use Rattle.unit_address.proofs.DistinctLaws.{distinct-no-bytes, distinct-few, distinct-test, rows-go}
use Rattle.unit_address.proofs.rows_distinct.Goals as goal

pub returns-then-bytes-eq0 : goal.returns-then-bytes-eq0
returns-then-bytes-eq0 c = let a = c.args in distinct-no-bytes a.base a.stride a.rows a.bytes c.if-bytes-eq0.true

pub returns-then-rows-lt2 : goal.returns-then-rows-lt2
returns-then-rows-lt2 c = let a = c.args in distinct-few a.base a.stride a.rows a.bytes c.if-rows-lt2.true

pub returns : goal.returns
returns c =
    let a = c.args in
    ap (λ (x : ℕ). leb a.bytes x) (c.magnitude.ensures ∙ ap nat_abs (passed_on c.as_signed.result a.stride c.as_signed.type_inv c.as_signed.ensures))
    ∙ distinct-test a.base a.stride a.rows a.bytes
    (rows-go a.len a.base a.stride a.rows a.bytes c.requires (omega (arith, c.if-bytes-eq0.false)) c.ranges.stride.fits)
    c.if-bytes-eq0.false (omega (arith, c.if-rows-lt2.false))
