use Rattle.numbers.proofs.Kit.{◌≡◌, sym, ap, ◌∙◌, subst, true, ℕ, ◌*◌, ◌≤◌, not}
use Rattle.unit_address.proofs.TestLaws.{test-failed, test-passed}
use Rattle.run.specs.Plan.{narrow}
use Rattle.run_start.proofs.StartLaws.{plan-sizes, a-sizes, counted, counted-both, a_inside, b_inside, c_inside, a_in, b_in, a-outside, b-outside, c-decides}
use Rattle.run_start.proofs.tests.is_lying.Goals as goal
use Rattle.run_start.proofs.tests.is_lying.Goals.{After-rows_inside, After-rows_inside-2, Else-not-rows_inside}

pub narrow_row-requires : goal.narrow_row-requires
narrow_row-requires c =
    record {
      plan_value = c.requires;
      elements_bound = subst (λ (x : ℕ). x ≤ 1024) (sym c.a_column-columns.ensures) (a-sizes c.args.plan c.requires).1;
    }

-- the test of A
a_test : (c : After-rows_inside) → let a = c.args in c.rows_inside.result ≡ a_in a.plan a.memory.now
a_test c =
    let a = c.args in
    counted-both (a_inside a.plan a.memory.now) c.a_row-rows.ensures
    (c.narrow_row.ensures.0 ∙ ap (λ (x : ℕ). x * narrow a.plan) c.a_column-columns.ensures) c.rows_inside.ensures

pub returns-then-not-rows_inside : goal.returns-then-not-rows_inside
returns-then-not-rows_inside c =
    let a = c.args in
    a-outside a.plan a.memory.now (test-failed c.rows_inside.result (a_in a.plan a.memory.now) (a_test (goal.at.returns-then-not-rows_inside c).After-rows_inside) (ap not c.if-not-rows_inside.true))

-- A passed
a_in_lem : (c : Else-not-rows_inside) → let a = c.args in a_in a.plan a.memory.now ≡ true
a_in_lem c =
    let a = c.args in
    test-passed c.rows_inside.result (a_in a.plan a.memory.now) (a_test (goal.at.Else-not-rows_inside c).After-rows_inside) (ap not c.if-not-rows_inside.false)

pub narrow_row-requires-2 : goal.narrow_row-requires-2
narrow_row-requires-2 c =
    record {
      plan_value = c.requires;
      elements_bound = (plan-sizes c.args.plan c.requires).2;
    }

-- the test of B
b-test : (c : After-rows_inside-2) → let a = c.args in c.rows_inside-2.result ≡ b_in a.plan a.memory.now
b-test c =
    let a = c.args in
    counted (b_inside a.plan a.memory.now) c.narrow_row-2.ensures.0 c.rows_inside-2.ensures

pub returns-then-not-rows_inside-2 : goal.returns-then-not-rows_inside-2
returns-then-not-rows_inside-2 c =
    let a = c.args in
    b-outside a.plan a.memory.now (a_in_lem (goal.at.returns-then-not-rows_inside-2 c).Else-not-rows_inside) (test-failed c.rows_inside-2.result (b_in a.plan a.memory.now) (b-test (goal.at.returns-then-not-rows_inside-2 c).After-rows_inside-2) (ap not c.if-not-rows_inside-2.true))

pub returns : goal.returns
returns c =
    let a = c.args in
    counted (c_inside a.plan a.memory.now) c.wide_row.ensures.0 c.rows_inside-3.ensures
    ∙ c-decides a.plan a.memory.now (a_in_lem (goal.at.returns c).Else-not-rows_inside) (test-passed c.rows_inside-2.result (b_in a.plan a.memory.now) (b-test (goal.at.returns c).After-rows_inside-2) (ap not c.if-not-rows_inside-2.false))
