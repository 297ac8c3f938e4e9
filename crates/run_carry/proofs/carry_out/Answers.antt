use Rattle.numbers.proofs.Kit.{◌≡◌, refl, ap, ◌∙◌, subst, true, ◌-◌, arith}
use Rattle.machine.specs.declared.Dimension.TheVariants.{DimensionM, DimensionK, DimensionN}
use Rattle.machine.specs.Answers.{reply}
use Rattle.machine.specs.Geometry.{bench_of}
use Rattle.unit_ranges.specs.Ranges.{seals_in}
use Rattle.run.specs.declared.Place.{Place}
use Rattle.run.specs.Words.{Op}
use Rattle.run.specs.Plan.{type_of}
use Rattle.run_plan.specs.Parts.{in_matrices}
use Rattle.run_plan.proofs.PlanLaws.{at_store, at-multiply}
use Rattle.run_place.proofs.RunPlaceLaws.{run-numbered, run-placed, run-planned, run-sizes}
use Rattle.run.proofs.WordLaws.{decode-type, decode-m, decode-n, decode-k}
use Rattle.run_carry.proofs.CarriedLaws.{numbers_apart, at-place, type-carried, size-carried, size-answers, plan-type}
use Rattle.run_carry.proofs.carry_out.Goals as goal

pub clear-requires : goal.clear-requires
clear-requires c =
    record {
      marks_value = c.requires.marks_value;
      plan_value = run-planned c.args.run (run-numbered c.args.run c.requires.run_value);
    }

pub load_a-requires : goal.load_a-requires
load_a-requires c =
    let R = c.args.run in
    let N = run-numbered R c.requires.run_value in
    let h = subst (λ (q : Place). in_matrices R.plan q ≡ true) c.in-AtA.is (run-placed R c.requires.run_value) in
    let z = run-sizes R N in
    let b = at-multiply R.plan c.in-AtA.row c.in-AtA.column c.in-AtA.term h in
    record {
      marks_value = c.requires.marks_value;
      plan_value = run-planned R N;
      row_bound = (omega (arith, b.0, z.0), omega (arith, b.1.1, z.1));
    }

pub load_b-requires : goal.load_b-requires
load_b-requires c =
    let R = c.args.run in
    let N = run-numbered R c.requires.run_value in
    let h = subst (λ (q : Place). in_matrices R.plan q ≡ true) c.in-AtB.is (run-placed R c.requires.run_value) in
    let z = run-sizes R N in
    let b = at-multiply R.plan c.in-AtB.row c.in-AtB.column c.in-AtB.term h in
    record {
      marks_value = c.requires.marks_value;
      plan_value = run-planned R N;
      term_bound = (omega (arith, b.1.1, z.1), omega (arith, b.1.0, z.2));
    }

pub multiply-requires : goal.multiply-requires
multiply-requires c =
    record {
      marks_value = c.requires.marks_value;
      plan_value = run-planned c.args.run (run-numbered c.args.run c.requires.run_value);
    }

pub store-requires : goal.store-requires
store-requires c =
    let R = c.args.run in
    let N = run-numbered R c.requires.run_value in
    let h = subst (λ (q : Place). in_matrices R.plan q ≡ true) c.in-AtStore.is (run-placed R c.requires.run_value) in
    let z = run-sizes R N in
    let b = at_store R.plan c.in-AtStore.row c.in-AtStore.column h in
    record {
      marks_value = c.requires.marks_value;
      plan_value = run-planned R N;
      row_bound = (omega (arith, b.0, z.0), omega (arith, b.1, z.2));
      seals_value = c.requires.seals_value;
    }

pub returns-in-AtType : goal.returns-in-AtType
returns-in-AtType c =
    let R = c.args.run in
    let N = run-numbered R c.requires.run_value in
    numbers_apart _ _ _ _ _ _ _ _ refl
    (type-carried R.plan Op.set_type c.args.m (seals_in c.args.seals.now) c.args.registers.now c.args.marks.now c.args.memory.now c.requires.marks_value c.requires.seals_value (type_of R.plan) (decode-type (type_of R.plan) (plan-type R.plan (run-planned R N)))
    ∙ at-place R (bench_of c.args.m (seals_in c.args.seals.now) c.args.registers.now c.args.marks.now c.args.memory.now) _ c.in-AtType.is)

pub returns-in-AtM : goal.returns-in-AtM
returns-in-AtM c =
    let R = c.args.run in
    let z = run-sizes R (run-numbered R c.requires.run_value) in
    let b = z.0 in
    let a = R.plan.m - c.in-AtM.row in
    numbers_apart _ _ _ _ _ _ _ _ (ap reply (c.size_answer.ensures ∙ size-answers c.args.m DimensionM a))
    (size-carried R.plan (Op.set_m a) c.args.m (seals_in c.args.seals.now) c.args.registers.now c.args.marks.now c.args.memory.now c.requires.marks_value c.requires.seals_value DimensionM a (decode-m a (omega (arith, b)))
    ∙ at-place R (bench_of c.args.m (seals_in c.args.seals.now) c.args.registers.now c.args.marks.now c.args.memory.now) _ c.in-AtM.is)

pub returns-in-AtN : goal.returns-in-AtN
returns-in-AtN c =
    let R = c.args.run in
    let z = run-sizes R (run-numbered R c.requires.run_value) in
    let b = z.2 in
    let a = R.plan.n - c.in-AtN.column in
    numbers_apart _ _ _ _ _ _ _ _ (ap reply (c.size_answer-in-AtN.ensures ∙ size-answers c.args.m DimensionN a))
    (size-carried R.plan (Op.set_n a) c.args.m (seals_in c.args.seals.now) c.args.registers.now c.args.marks.now c.args.memory.now c.requires.marks_value c.requires.seals_value DimensionN a (decode-n a (omega (arith, b)))
    ∙ at-place R (bench_of c.args.m (seals_in c.args.seals.now) c.args.registers.now c.args.marks.now c.args.memory.now) _ c.in-AtN.is)

pub returns-in-AtClear : goal.returns-in-AtClear
returns-in-AtClear c =
    numbers_apart _ _ _ _ _ _ _ _ refl (c.clear.ensures (seals_in c.args.seals.now) c.args.memory.now c.requires.seals_value ∙ at-place c.args.run (bench_of c.args.m (seals_in c.args.seals.now) c.args.registers.now c.args.marks.now c.args.memory.now) _ c.in-AtClear.is)

pub returns-in-AtK : goal.returns-in-AtK
returns-in-AtK c =
    let R = c.args.run in
    let z = run-sizes R (run-numbered R c.requires.run_value) in
    let b = z.1 in
    let a = R.plan.k - c.in-AtK.term in
    numbers_apart _ _ _ _ _ _ _ _ (ap reply (c.size_answer-in-AtK.ensures ∙ size-answers c.args.m DimensionK a))
    (size-carried R.plan (Op.set_k a) c.args.m (seals_in c.args.seals.now) c.args.registers.now c.args.marks.now c.args.memory.now c.requires.marks_value c.requires.seals_value DimensionK a (decode-k a (omega (arith, b)))
    ∙ at-place R (bench_of c.args.m (seals_in c.args.seals.now) c.args.registers.now c.args.marks.now c.args.memory.now) _ c.in-AtK.is)

pub returns-in-AtA : goal.returns-in-AtA
returns-in-AtA c =
    let R = c.args.run in
    numbers_apart _ _ _ _ _ _ _ _ refl
    (c.load_a.ensures (seals_in c.args.seals.now) c.requires.seals_value
    ∙ at-place R (bench_of c.args.m (seals_in c.args.seals.now) c.args.registers.now c.args.marks.now c.args.memory.now) _ c.in-AtA.is)

pub returns-in-AtB : goal.returns-in-AtB
returns-in-AtB c =
    numbers_apart _ _ _ _ _ _ _ _ refl
    (c.load_b.ensures (seals_in c.args.seals.now) c.requires.seals_value
    ∙ at-place c.args.run (bench_of c.args.m (seals_in c.args.seals.now) c.args.registers.now c.args.marks.now c.args.memory.now) _ c.in-AtB.is)

pub returns-in-AtMultiply : goal.returns-in-AtMultiply
returns-in-AtMultiply c =
    numbers_apart _ _ _ _ _ _ _ _ refl (c.multiply.ensures (seals_in c.args.seals.now) c.args.memory.now c.requires.seals_value ∙ at-place c.args.run (bench_of c.args.m (seals_in c.args.seals.now) c.args.registers.now c.args.marks.now c.args.memory.now) _ c.in-AtMultiply.is)

pub returns-in-AtStore : goal.returns-in-AtStore
returns-in-AtStore c =
    numbers_apart _ _ _ _ _ _ _ _ refl (c.store.ensures ∙ at-place c.args.run (bench_of c.args.m (seals_in c.args.seals.now) c.args.registers.now c.args.marks.now c.args.memory.now) _ c.in-AtStore.is)

pub returns-in-AtEnd : goal.returns-in-AtEnd
returns-in-AtEnd c =
    numbers_apart _ _ _ _ _ _ _ _ refl (at-place c.args.run (bench_of c.args.m (seals_in c.args.seals.now) c.args.registers.now c.args.marks.now c.args.memory.now) _ c.in-AtEnd.is)
