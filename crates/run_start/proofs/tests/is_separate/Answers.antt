use Rattle.numbers.proofs.Kit.{◌≡◌, sym, ap, ap₂, ◌∙◌, subst, Bool, true, ℕ, ◌*◌, ◌^◌, ◌≤◌, ◌<◌, mul-le-mul, arith, length, not}
use Rattle.machine.specs.Geometry.{sealed}
use Rattle.unit_ranges.specs.Ranges.{seals_in}
use Rattle.unit_address.proofs.TestLaws.{test-failed, test-passed}
use Rattle.run.specs.Plan.{narrow, a_columns}
use Rattle.run_start.proofs.StartLaws.{plan-sizes, a-sizes, counted, counted-both, counted-all, a_inside, b_inside, c_inside, all-inside, c_distinct, a_apart, b_apart, c_unsealed, rows_differ, from_a, from_b, rows-meet, meets-a, meets-b, seal-decides}
use Rattle.run_start.proofs.tests.is_separate.Goals as goal
use Rattle.run_start.proofs.tests.is_separate.Goals.{After-narrow_row, After-rows_apart, After-rows_apart-2, After-rows_distinct, After-wide_row-bytes, Else-not-rows_apart, Else-not-rows_distinct, Start}

-- the sealed bytes
abbrev those : Start → ℕ → Bool
those s = sealed (seals_in s.args.seals.now)

-- the slice is short enough
short : (s : Start) → length s.args.memory.now < 2 ^ 63
short s = omega arith

-- the rows of C lie in memory
c-in : (c : After-wide_row-bytes) → let a = c.args in c_inside a.plan a.memory.now c.wide_row-bytes.result ≡ true
c-in c =
    let a = c.args in
    ap (c_inside a.plan a.memory.now) c.wide_row-bytes.ensures.0 ∙ (all-inside a.plan a.memory.now c.requires.memory_value).1.1.0

pub rows_distinct-requires : goal.rows_distinct-requires
rows_distinct-requires c = c-in c

-- the test of C's own rows
rows-test : (c : After-rows_distinct) → c.rows_distinct.result ≡ rows_differ c.args.plan
rows-test c = counted (c_distinct c.args.plan) c.wide_row-bytes.ensures.0 c.rows_distinct.ensures

pub returns-then-not-rows_distinct : goal.returns-then-not-rows_distinct
returns-then-not-rows_distinct c =
    rows-meet c.args.plan (those (goal.at.returns-then-not-rows_distinct c).Start) (test-failed c.rows_distinct.result (rows_differ c.args.plan) (rows-test (goal.at.returns-then-not-rows_distinct c).After-rows_distinct) (ap not c.if-not-rows_distinct.true))

rows-differ : (c : Else-not-rows_distinct) → rows_differ c.args.plan ≡ true
rows-differ c = test-passed c.rows_distinct.result (rows_differ c.args.plan) (rows-test (goal.at.Else-not-rows_distinct c).After-rows_distinct) (ap not c.if-not-rows_distinct.false)

pub narrow_row-requires : goal.narrow_row-requires
narrow_row-requires c =
    record {
      plan_value = c.requires.plan_value;
      elements_bound = subst (λ (x : ℕ). x ≤ 1024) (sym c.a_column-elements.ensures) (a-sizes c.args.plan c.requires.plan_value).1;
    }

-- the bytes of a row of A
a-bytes : (c : After-narrow_row) → let P = c.args.plan in c.narrow_row.result ≡ a_columns P * narrow P
a-bytes c = let P = c.args.plan in c.narrow_row.ensures.0 ∙ ap (λ (x : ℕ). x * narrow P) c.a_column-elements.ensures

pub rows_apart-requires : goal.rows_apart-requires
rows_apart-requires c =
    let a = c.args in
    record {
      bytes_value = ap₂ (a_inside a.plan a.memory.now) c.a_row-lines.ensures (a-bytes c) ∙ (all-inside a.plan a.memory.now c.requires.memory_value).0;
      size_value = c-in (goal.at.rows_apart-requires c).After-wide_row-bytes;
      len_bound = short (goal.at.rows_apart-requires c).Start;
      rows_bound = subst (λ (x : ℕ). x ≤ 1024) (sym c.a_row-lines.ensures) (a-sizes a.plan c.requires.plan_value).0;
      count_bound = (plan-sizes a.plan c.requires.plan_value).0;
    }

-- the test against A
a_test : (c : After-rows_apart) → c.rows_apart.result ≡ from_a c.args.plan
a_test c =
    counted-all (a_apart c.args.plan) c.a_row-lines.ensures (a-bytes (goal.at.After-rows_apart c).After-narrow_row) c.wide_row-bytes.ensures.0 c.rows_apart.ensures

pub returns-then-not-rows_apart : goal.returns-then-not-rows_apart
returns-then-not-rows_apart c =
    meets-a c.args.plan (those (goal.at.returns-then-not-rows_apart c).Start) (rows-differ (goal.at.returns-then-not-rows_apart c).Else-not-rows_distinct) (test-failed c.rows_apart.result (from_a c.args.plan) (a_test (goal.at.returns-then-not-rows_apart c).After-rows_apart) (ap not c.if-not-rows_apart.true))

from-a : (c : Else-not-rows_apart) → from_a c.args.plan ≡ true
from-a c = test-passed c.rows_apart.result (from_a c.args.plan) (a_test (goal.at.Else-not-rows_apart c).After-rows_apart) (ap not c.if-not-rows_apart.false)

pub narrow_row-requires-2 : goal.narrow_row-requires-2
narrow_row-requires-2 c =
    record {
      plan_value = c.requires.plan_value;
      elements_bound = (plan-sizes c.args.plan c.requires.plan_value).2;
    }

pub rows_apart-requires-2 : goal.rows_apart-requires-2
rows_apart-requires-2 c =
    let a = c.args in
    let z = plan-sizes a.plan c.requires.plan_value in
    record {
      bytes_value = ap (b_inside a.plan a.memory.now) c.narrow_row-2.ensures.0 ∙ (all-inside a.plan a.memory.now c.requires.memory_value).1.0;
      size_value = c-in (goal.at.rows_apart-requires-2 c).After-wide_row-bytes;
      len_bound = short (goal.at.rows_apart-requires-2 c).Start;
      rows_bound = z.1;
      count_bound = z.0;
    }

-- the test against B
b-test : (c : After-rows_apart-2) → c.rows_apart-2.result ≡ from_b c.args.plan
b-test c =
    counted-both (b_apart c.args.plan) c.narrow_row-2.ensures.0 c.wide_row-bytes.ensures.0 c.rows_apart-2.ensures

pub returns-then-not-rows_apart-2 : goal.returns-then-not-rows_apart-2
returns-then-not-rows_apart-2 c =
    meets-b c.args.plan (those (goal.at.returns-then-not-rows_apart-2 c).Start) (rows-differ (goal.at.returns-then-not-rows_apart-2 c).Else-not-rows_distinct) (from-a (goal.at.returns-then-not-rows_apart-2 c).Else-not-rows_apart) (test-failed c.rows_apart-2.result (from_b c.args.plan) (b-test (goal.at.returns-then-not-rows_apart-2 c).After-rows_apart-2) (ap not c.if-not-rows_apart-2.true))

pub several_missed-requires : goal.several_missed-requires
several_missed-requires c =
    record {
      block_value = c.requires.seals_value;
      bytes_value = c-in (goal.at.several_missed-requires c).After-wide_row-bytes;
      len_bound = short (goal.at.several_missed-requires c).Start;
      bytes_bound = omega (arith, mul-le-mul (plan-sizes c.args.plan c.requires.plan_value).0 c.wide_row-bytes.ensures.1);
    }

pub returns : goal.returns
returns c =
    counted (c_unsealed c.args.plan (those (goal.at.returns c).Start)) c.wide_row-bytes.ensures.0 c.several_missed.ensures
    ∙ seal-decides c.args.plan (those (goal.at.returns c).Start) (rows-differ (goal.at.returns c).Else-not-rows_distinct) (from-a (goal.at.returns c).Else-not-rows_apart) (test-passed c.rows_apart-2.result (from_b c.args.plan) (b-test (goal.at.returns c).After-rows_apart-2) (ap not c.if-not-rows_apart-2.false))
