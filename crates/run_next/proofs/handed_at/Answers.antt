use Rattle.numbers.proofs.Kit.{◌≡◌, subst, true, arith}
use Rattle.run.specs.declared.Place.{Place}
use Rattle.run_plan.specs.Parts.{in_matrices}
use Rattle.run_plan.proofs.PlanLaws.{at-m, at_store, at-multiply}
use Rattle.run_place.proofs.RunPlaceLaws.{run-numbered, run-placed, run-planned, run-sizes}
use Rattle.run_next.proofs.handed_at.Goals as goal

pub overflow_sub-plan : goal.overflow_sub-plan
overflow_sub-plan c =
    let R = c.args.run in
    let h = subst (λ (q : Place). in_matrices R.plan q ≡ true) c.in-AtM.is (run-placed R c.requires) in
    let z = run-sizes R (run-numbered R c.requires) in
    at-m R.plan c.in-AtM.row h

pub hand_setting-requires : goal.hand_setting-requires
hand_setting-requires c =
    let R = c.args.run in
    let h = subst (λ (q : Place). in_matrices R.plan q ≡ true) c.in-AtM.is (run-placed R c.requires) in
    let z = run-sizes R (run-numbered R c.requires) in
    (omega arith, omega (arith, z.0))

pub overflow_sub-plan-in-AtN : goal.overflow_sub-plan-in-AtN
overflow_sub-plan-in-AtN c =
    let R = c.args.run in
    let h = subst (λ (q : Place). in_matrices R.plan q ≡ true) c.in-AtN.is (run-placed R c.requires) in
    let z = run-sizes R (run-numbered R c.requires) in
    (at_store R.plan c.in-AtN.row c.in-AtN.column h).1

pub hand_setting-requires-in-AtN : goal.hand_setting-requires-in-AtN
hand_setting-requires-in-AtN c =
    let R = c.args.run in
    let h = subst (λ (q : Place). in_matrices R.plan q ≡ true) c.in-AtN.is (run-placed R c.requires) in
    let z = run-sizes R (run-numbered R c.requires) in
    (omega arith, omega (arith, z.2))

pub overflow_sub-plan-in-AtK : goal.overflow_sub-plan-in-AtK
overflow_sub-plan-in-AtK c =
    let R = c.args.run in
    let h = subst (λ (q : Place). in_matrices R.plan q ≡ true) c.in-AtK.is (run-placed R c.requires) in
    let z = run-sizes R (run-numbered R c.requires) in
    (at-multiply R.plan c.in-AtK.row c.in-AtK.column c.in-AtK.term h).1.1

pub hand_setting-requires-in-AtK : goal.hand_setting-requires-in-AtK
hand_setting-requires-in-AtK c =
    let R = c.args.run in
    let h = subst (λ (q : Place). in_matrices R.plan q ≡ true) c.in-AtK.is (run-placed R c.requires) in
    let z = run-sizes R (run-numbered R c.requires) in
    (omega arith, omega (arith, z.1))

pub hand_load_a-requires : goal.hand_load_a-requires
hand_load_a-requires c =
    let R = c.args.run in
    let h = subst (λ (q : Place). in_matrices R.plan q ≡ true) c.in-AtA.is (run-placed R c.requires) in
    let z = run-sizes R (run-numbered R c.requires) in
    let b = at-multiply R.plan c.in-AtA.row c.in-AtA.column c.in-AtA.term h in
    record {
      plan_value = run-planned R (run-numbered R c.requires);
      row_bound = (omega (arith, b.0, z.0), omega (arith, b.1.1, z.1));
    }

pub hand_load_b-requires : goal.hand_load_b-requires
hand_load_b-requires c =
    let R = c.args.run in
    let h = subst (λ (q : Place). in_matrices R.plan q ≡ true) c.in-AtB.is (run-placed R c.requires) in
    let z = run-sizes R (run-numbered R c.requires) in
    let b = at-multiply R.plan c.in-AtB.row c.in-AtB.column c.in-AtB.term h in
    record {
      plan_value = run-planned R (run-numbered R c.requires);
      term_bound = (omega (arith, b.1.1, z.1), omega (arith, b.1.0, z.2));
    }

pub hand_store-requires : goal.hand_store-requires
hand_store-requires c =
    let R = c.args.run in
    let h = subst (λ (q : Place). in_matrices R.plan q ≡ true) c.in-AtStore.is (run-placed R c.requires) in
    let z = run-sizes R (run-numbered R c.requires) in
    let b = at_store R.plan c.in-AtStore.row c.in-AtStore.column h in
    record {
      plan_value = run-planned R (run-numbered R c.requires);
      row_bound = (omega (arith, b.0, z.0), omega (arith, b.1, z.2));
    }
