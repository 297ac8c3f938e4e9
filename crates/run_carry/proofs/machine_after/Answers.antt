use Rattle.numbers.proofs.Kit.{◌≡◌, ap, ◌∙◌, subst, true, ◌-◌, arith}
use Rattle.machine.specs.declared.Machine.{Machine}
use Rattle.machine.specs.declared.Dimension.TheVariants.{DimensionM, DimensionK, DimensionN}
use Rattle.machine.specs.Geometry.{bench_of}
use Rattle.machine.specs.Setting.{new_type}
use Rattle.unit_settings.specs.Parts.{with_type}
use Rattle.unit_settings.proofs.FaultLaws.{numbers-ready}
use Rattle.unit_settings.proofs.TypeLaws.{ready-elen}
use Rattle.run.specs.declared.Place.{Place}
use Rattle.run.specs.Words.{Op}
use Rattle.run.specs.Plan.{type_of}
use Rattle.run_plan.specs.Parts.{in_matrices}
use Rattle.run_plan.proofs.PlanLaws.{at-m, at_store, at-multiply}
use Rattle.run_place.proofs.RunPlaceLaws.{run-numbered, run-placed, run-planned, run-sizes}
use Rattle.run.proofs.WordLaws.{decode-type, decode-m, decode-n, decode-k}
use Rattle.run_carry.specs.Parts.{Carried}
use Rattle.run_carry.proofs.CarriedLaws.{at-place, type-carried, size-carried, clear-keeps, multiply-keeps, a-keeps, b-keeps, c-keeps, plan-type}
use Rattle.run_carry.proofs.machine_after.Goals as goal

abbrev numbers : Carried → Machine
numbers k = k.bench.machine

pub kept_type-requires : goal.kept_type-requires
kept_type-requires c = ready-elen c.args.m (numbers-ready c.args.m c.requires.m_value)

pub overflow_sub-plan : goal.overflow_sub-plan
overflow_sub-plan c =
    let R = c.args.run in
    let h = subst (λ (q : Place). in_matrices R.plan q ≡ true) c.in-AtM.is (run-placed R c.requires.run_value) in
    at-m R.plan c.in-AtM.row h

pub sized-requires : goal.sized-requires
sized-requires c = numbers-ready c.args.m c.requires.m_value

pub overflow_sub-plan-in-AtN : goal.overflow_sub-plan-in-AtN
overflow_sub-plan-in-AtN c =
    let R = c.args.run in
    let h = subst (λ (q : Place). in_matrices R.plan q ≡ true) c.in-AtN.is (run-placed R c.requires.run_value) in
    (at_store R.plan c.in-AtN.row c.in-AtN.column h).1

pub sized-requires-in-AtN : goal.sized-requires-in-AtN
sized-requires-in-AtN c = numbers-ready c.args.m c.requires.m_value

pub overflow_sub-plan-in-AtK : goal.overflow_sub-plan-in-AtK
overflow_sub-plan-in-AtK c =
    let R = c.args.run in
    let h = subst (λ (q : Place). in_matrices R.plan q ≡ true) c.in-AtK.is (run-placed R c.requires.run_value) in
    (at-multiply R.plan c.in-AtK.row c.in-AtK.column c.in-AtK.term h).1.1

pub sized-requires-in-AtK : goal.sized-requires-in-AtK
sized-requires-in-AtK c = numbers-ready c.args.m c.requires.m_value

pub returns-in-AtType : goal.returns-in-AtType
returns-in-AtType c =
    let R = c.args.run in
    let N = run-numbered R c.requires.run_value in
    let v = c.with_type.ensures ∙ ap (with_type c.args.m) (c.kept_type.ensures ∙ ap (new_type c.args.m.elen) c.type_of.ensures.value) in
    λ seals regs marks mem so fit. v ∙ ap numbers (type-carried R.plan Op.set_type c.args.m seals regs marks mem so fit (type_of R.plan) (decode-type (type_of R.plan) (plan-type R.plan (run-planned R N)))
    ∙ at-place R (bench_of c.args.m seals regs marks mem) _ c.in-AtType.is)

pub returns-in-AtM : goal.returns-in-AtM
returns-in-AtM c =
    let R = c.args.run in
    let z = run-sizes R (run-numbered R c.requires.run_value) in
    let b = z.0 in
    let a = R.plan.m - c.in-AtM.row in
    λ seals regs marks mem so fit. c.sized.ensures ∙ ap numbers (size-carried R.plan (Op.set_m a) c.args.m seals regs marks mem so fit DimensionM a (decode-m a (omega (arith, b)))
    ∙ at-place R (bench_of c.args.m seals regs marks mem) _ c.in-AtM.is)

pub returns-in-AtN : goal.returns-in-AtN
returns-in-AtN c =
    let R = c.args.run in
    let z = run-sizes R (run-numbered R c.requires.run_value) in
    let b = z.2 in
    let a = R.plan.n - c.in-AtN.column in
    λ seals regs marks mem so fit. c.sized-in-AtN.ensures ∙ ap numbers (size-carried R.plan (Op.set_n a) c.args.m seals regs marks mem so fit DimensionN a (decode-n a (omega (arith, b)))
    ∙ at-place R (bench_of c.args.m seals regs marks mem) _ c.in-AtN.is)

pub returns-in-AtClear : goal.returns-in-AtClear
returns-in-AtClear c =
    let R = c.args.run in
    λ seals regs marks mem so fit. clear-keeps R.plan (run-planned R (run-numbered R c.requires.run_value)) c.args.m seals regs marks mem so fit
    ∙ ap numbers (at-place R (bench_of c.args.m seals regs marks mem) _ c.in-AtClear.is)

pub returns-in-AtK : goal.returns-in-AtK
returns-in-AtK c =
    let R = c.args.run in
    let z = run-sizes R (run-numbered R c.requires.run_value) in
    let b = z.1 in
    let a = R.plan.k - c.in-AtK.term in
    λ seals regs marks mem so fit. c.sized-in-AtK.ensures ∙ ap numbers (size-carried R.plan (Op.set_k a) c.args.m seals regs marks mem so fit DimensionK a (decode-k a (omega (arith, b)))
    ∙ at-place R (bench_of c.args.m seals regs marks mem) _ c.in-AtK.is)

pub returns-in-AtA : goal.returns-in-AtA
returns-in-AtA c =
    let R = c.args.run in
    λ seals regs marks mem so fit. a-keeps R.plan (run-planned R (run-numbered R c.requires.run_value)) c.args.m seals regs marks mem so fit c.in-AtA.row c.in-AtA.term
    ∙ ap numbers (at-place R (bench_of c.args.m seals regs marks mem) _ c.in-AtA.is)

pub returns-in-AtB : goal.returns-in-AtB
returns-in-AtB c =
    let R = c.args.run in
    λ seals regs marks mem so fit. b-keeps R.plan (run-planned R (run-numbered R c.requires.run_value)) c.args.m seals regs marks mem so fit c.in-AtB.term c.in-AtB.column
    ∙ ap numbers (at-place R (bench_of c.args.m seals regs marks mem) _ c.in-AtB.is)

pub returns-in-AtMultiply : goal.returns-in-AtMultiply
returns-in-AtMultiply c =
    let R = c.args.run in
    λ seals regs marks mem so fit. multiply-keeps R.plan (run-planned R (run-numbered R c.requires.run_value)) c.args.m seals regs marks mem so fit
    ∙ ap numbers (at-place R (bench_of c.args.m seals regs marks mem) _ c.in-AtMultiply.is)

pub returns-in-AtStore : goal.returns-in-AtStore
returns-in-AtStore c =
    let R = c.args.run in
    λ seals regs marks mem so fit. c-keeps R.plan (run-planned R (run-numbered R c.requires.run_value)) c.args.m seals regs marks mem so fit c.in-AtStore.row c.in-AtStore.column
    ∙ ap numbers (at-place R (bench_of c.args.m seals regs marks mem) _ c.in-AtStore.is)

pub returns-in-AtEnd : goal.returns-in-AtEnd
returns-in-AtEnd c =
    let R = c.args.run in
    λ seals regs marks mem so fit. ap numbers (at-place R (bench_of c.args.m seals regs marks mem) _ c.in-AtEnd.is)
