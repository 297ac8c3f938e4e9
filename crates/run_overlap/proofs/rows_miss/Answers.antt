use Rattle.numbers.proofs.Kit.{◌≡◌, ap, subst, ◌∙◌, ℕ, zero, ◌+◌, ◌*◌, ◌≤◌, ◌<◌, arith, nat_abs}
use mir.Syntax.{w64}
use mir.Val.{to_z, of_z}
use Rattle.machine.specs.Memory.{row_at}
use Rattle.unit_address.proofs.AddressLaws.{step, passed_on, row_inside, row-reached, row-starts}
use Rattle.unit_address.proofs.DistinctLaws.{gap, Goes, rows-go, rows-up, rows-down}
use Rattle.run_overlap.proofs.OverlapLaws.{first-at, rows-no-bytes, rows-no-others, rows_same, up-all, up_next, down-all, down-next}
use Rattle.run_overlap.proofs.rows_miss.Goals as goal
use Rattle.run_overlap.proofs.rows_miss.Goals.{After-as_signed-2, After-as_signed-then-stride-lt9223372036854775808, After-magnitude-gap, After-row_address, After-row_address-2, After-steps_past-above, After-steps_past-below}

pub returns-then-bytes-eq0 : goal.returns-then-bytes-eq0
returns-then-bytes-eq0 c = let a = c.args in rows-no-bytes (row_at a.base a.stride) a.rows a.bytes a.q a.o c.if-bytes-eq0.true

pub returns-then-o-eq0 : goal.returns-then-o-eq0
returns-then-o-eq0 c = let a = c.args in rows-no-others (row_at a.base a.stride) a.rows a.bytes a.q a.o c.if-o-eq0.true

pub as_signed-requires : goal.as_signed-requires
as_signed-requires c = tt

pub magnitude-gap-requires : goal.magnitude-gap-requires
magnitude-gap-requires c = tt

-- the distance from row to row, how the rows go, and that they lie in memory
gap_is : (c : After-magnitude-gap) → c.magnitude-gap.result ≡ gap c.args.stride
gap_is c =
    let stride = c.args.stride in
    c.magnitude-gap.ensures ∙ ap nat_abs (passed_on c.as_signed.result stride c.as_signed.type_inv c.as_signed.ensures)

some : (c : After-magnitude-gap) → zero < c.args.bytes
some c = omega (arith, c.if-bytes-eq0.false)

ways : (c : After-magnitude-gap) → let a = c.args in Goes a.base a.stride a.rows
ways c =
    let a = c.args in
    rows-go a.len a.base a.stride a.rows a.bytes c.requires.bytes_value (some c) c.ranges.stride.fits

lies : (c : After-magnitude-gap) → let a = c.args in (i : ℕ) → i < a.rows → row_at a.base a.stride i + a.bytes ≤ a.len
lies c i l =
    let a = c.args in
    (row_inside a.len a.base a.stride a.rows a.bytes c.requires.bytes_value (some c) c.ranges.stride.fits i l).1

first-lies : (c : After-magnitude-gap) → let a = c.args in a.base + a.bytes ≤ a.len
first-lies c =
    let a = c.args in
    let 0<rows : zero < a.rows = omega (arith, c.if-rows-eq0.false) in
    omega (arith, lies c 0 0<rows, first-at a.base a.stride a.rows (ways c) 0<rows)

pub ranges_apart-requires : goal.ranges_apart-requires
ranges_apart-requires c =
    let h = first-lies (goal.at.ranges_apart-requires c).After-magnitude-gap in
    record {
      n_bound = omega (arith, h, c.requires.len_bound);
      o_bound = c.requires.o_bound;
    }

pub returns-then-gap-eq0 : goal.returns-then-gap-eq0
returns-then-gap-eq0 c =
    let a = c.args in
    c.ranges_apart.ensures
    ∙ rows_same a.base a.stride a.rows a.bytes a.q a.o c.if-bytes-eq0.false c.if-o-eq0.false (ways (goal.at.returns-then-gap-eq0 c).After-magnitude-gap) (omega (arith, gap_is (goal.at.returns-then-gap-eq0 c).After-magnitude-gap, c.if-gap-eq0.true)) c.if-rows-eq0.false

pub overflow_add-base : goal.overflow_add-base
overflow_add-base c = let h = first-lies (goal.at.overflow_add-base c).After-magnitude-gap in omega (arith, h, c.requires.len_bound)

-- going up: what the rows below the range are
up-passed : (c : After-steps_past-above) →
    let a = c.args in
    ((k : ℕ) → k < c.steps_past-above.result → a.base + a.bytes + k * gap a.stride ≤ a.q) × (a.q < a.base + a.bytes + c.steps_past-above.result * gap a.stride)
up-passed c =
    let a = c.args in
    let r = c.steps_past-above.result in
    subst (λ (g : ℕ). ((k : ℕ) → k < r → a.base + a.bytes + k * g ≤ a.q) × (a.q < a.base + a.bytes + r * g)) (gap_is (goal.at.After-steps_past-above c).After-magnitude-gap) (c.steps_past-above.ensures.passed, c.steps_past-above.ensures.next)

pub returns-then-above-rows : goal.returns-then-above-rows
returns-then-above-rows c =
    let a = c.args in
    up-all a.base a.stride a.rows a.bytes a.q a.o c.if-bytes-eq0.false c.if-o-eq0.false
    (rows-up a.base a.stride a.rows c.if-stride-lt9223372036854775808.true) c.steps_past-above.result (up-passed (goal.at.returns-then-above-rows c).After-steps_past-above).0 (omega (arith, c.if-above-rows.true))

pub as_signed-requires-then-stride-lt9223372036854775808 : goal.as_signed-requires-then-stride-lt9223372036854775808
as_signed-requires-then-stride-lt9223372036854775808 c = tt

up-stride : (c : After-as_signed-then-stride-lt9223372036854775808) → to_z w64 (of_z w64 c.as_signed-then-stride-lt9223372036854775808.result) ≡ step c.args.stride
up-stride c = passed_on c.as_signed-then-stride-lt9223372036854775808.result c.args.stride c.as_signed-then-stride-lt9223372036854775808.type_inv c.as_signed-then-stride-lt9223372036854775808.ensures

pub row_address-requires : goal.row_address-requires
row_address-requires c =
    let a = c.args in let r = row-reached a.len a.base a.stride a.rows a.bytes c.requires.bytes_value (some (goal.at.row_address-requires c).After-magnitude-gap) c.ranges.stride.fits c.requires.len_bound
    (omega (arith, c.requires.rows_bound)) c.steps_past-above.result (omega (arith, c.if-above-rows.false)) (to_z w64 (of_z w64 c.as_signed-then-stride-lt9223372036854775808.result)) (up-stride c) in record { row_bound = r.0; row_bound_2 = r.1.0; stride_value = r.1.1 }

up-row : (c : After-row_address) → let a = c.args in c.row_address.result ≡ row_at a.base a.stride c.steps_past-above.result
up-row c =
    let a = c.args in
    row-starts a.len a.base a.stride a.rows a.bytes c.steps_past-above.result c.row_address.result (to_z w64 (of_z w64 c.as_signed-then-stride-lt9223372036854775808.result)) (up-stride (goal.at.After-row_address c).After-as_signed-then-stride-lt9223372036854775808) c.row_address.ensures

pub ranges_apart-requires-then-stride-lt9223372036854775808 : goal.ranges_apart-requires-then-stride-lt9223372036854775808
ranges_apart-requires-then-stride-lt9223372036854775808 c =
    let h = lies (goal.at.ranges_apart-requires-then-stride-lt9223372036854775808 c).After-magnitude-gap c.steps_past-above.result (omega (arith, c.if-above-rows.false)) in
    record {
      n_bound = omega (arith, h, up-row c, c.requires.len_bound);
      o_bound = c.requires.o_bound;
    }

pub returns-then-stride-lt9223372036854775808 : goal.returns-then-stride-lt9223372036854775808
returns-then-stride-lt9223372036854775808 c =
    let a = c.args in
    c.ranges_apart-then-stride-lt9223372036854775808.ensures
    ∙ up_next a.base a.stride a.rows a.bytes a.q a.o c.if-bytes-eq0.false c.if-o-eq0.false
    (rows-up a.base a.stride a.rows c.if-stride-lt9223372036854775808.true) c.steps_past-above.result (up-passed (goal.at.returns-then-stride-lt9223372036854775808 c).After-steps_past-above).0 c.row_address.result (up-row (goal.at.returns-then-stride-lt9223372036854775808 c).After-row_address) (up-passed (goal.at.returns-then-stride-lt9223372036854775808 c).After-steps_past-above).1
    (omega (arith, c.if-above-rows.false))

pub steps_past-below-requires : goal.steps_past-below-requires
steps_past-below-requires c = let h = first-lies (goal.at.steps_past-below-requires c).After-magnitude-gap in
    record {
      gap_nonzero = omega (arith, c.if-gap-eq0.false);
      to_bound = omega (arith, h, c.requires.len_bound);
    }

-- going down: what the rows above the range are
down-passed : (c : After-steps_past-below) →
    let a = c.args in
    ((k : ℕ) → k < c.steps_past-below.result → a.q + a.o + k * gap a.stride ≤ a.base) × (a.base < a.q + a.o + c.steps_past-below.result * gap a.stride)
down-passed c =
    let a = c.args in
    let r = c.steps_past-below.result in
    subst (λ (g : ℕ). ((k : ℕ) → k < r → a.q + a.o + k * g ≤ a.base) × (a.base < a.q + a.o + r * g)) (gap_is (goal.at.After-steps_past-below c).After-magnitude-gap) (c.steps_past-below.ensures.passed, c.steps_past-below.ensures.next)

pub returns-then-below-rows : goal.returns-then-below-rows
returns-then-below-rows c =
    let a = c.args in
    down-all a.base a.stride a.rows a.bytes a.q a.o c.if-bytes-eq0.false c.if-o-eq0.false
    (rows-down a.len a.base a.stride a.rows a.bytes c.requires.bytes_value (some (goal.at.returns-then-below-rows c).After-magnitude-gap) c.ranges.stride.fits (omega (arith, c.if-stride-lt9223372036854775808.false)))
    c.steps_past-below.result (down-passed (goal.at.returns-then-below-rows c).After-steps_past-below).0 (omega (arith, c.if-below-rows.true))

pub as_signed-requires-2 : goal.as_signed-requires-2
as_signed-requires-2 c = tt

down-stride : (c : After-as_signed-2) → to_z w64 (of_z w64 c.as_signed-2.result) ≡ step c.args.stride
down-stride c = passed_on c.as_signed-2.result c.args.stride c.as_signed-2.type_inv c.as_signed-2.ensures

pub row_address-requires-2 : goal.row_address-requires-2
row_address-requires-2 c =
    let a = c.args in let r = row-reached a.len a.base a.stride a.rows a.bytes c.requires.bytes_value (some (goal.at.row_address-requires-2 c).After-magnitude-gap) c.ranges.stride.fits c.requires.len_bound
    (omega (arith, c.requires.rows_bound)) c.steps_past-below.result (omega (arith, c.if-below-rows.false)) (to_z w64 (of_z w64 c.as_signed-2.result)) (down-stride c) in record { row_bound = r.0; row_bound_2 = r.1.0; stride_value = r.1.1 }

down-row : (c : After-row_address-2) → let a = c.args in c.row_address-2.result ≡ row_at a.base a.stride c.steps_past-below.result
down-row c =
    let a = c.args in
    row-starts a.len a.base a.stride a.rows a.bytes c.steps_past-below.result c.row_address-2.result (to_z w64 (of_z w64 c.as_signed-2.result)) (down-stride (goal.at.After-row_address-2 c).After-as_signed-2) c.row_address-2.ensures

pub ranges_apart-requires-2 : goal.ranges_apart-requires-2
ranges_apart-requires-2 c =
    let h = lies (goal.at.ranges_apart-requires-2 c).After-magnitude-gap c.steps_past-below.result (omega (arith, c.if-below-rows.false)) in
    record {
      n_bound = omega (arith, h, down-row c, c.requires.len_bound);
      o_bound = c.requires.o_bound;
    }

pub returns : goal.returns
returns c =
    let a = c.args in
    c.ranges_apart-2.ensures
    ∙ down-next a.base a.stride a.rows a.bytes a.q a.o c.if-bytes-eq0.false c.if-o-eq0.false
    (rows-down a.len a.base a.stride a.rows a.bytes c.requires.bytes_value (some (goal.at.returns c).After-magnitude-gap) c.ranges.stride.fits (omega (arith, c.if-stride-lt9223372036854775808.false)))
    c.steps_past-below.result (down-passed (goal.at.returns c).After-steps_past-below).0 c.row_address-2.result (down-row (goal.at.returns c).After-row_address-2) (down-passed (goal.at.returns c).After-steps_past-below).1
    (omega (arith, c.if-below-rows.false))
