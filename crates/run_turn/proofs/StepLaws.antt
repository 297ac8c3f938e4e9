-- The four turns of a step over k.
use Rattle.numbers.proofs.Kit.{◌≡◌, refl, sym, ap, ap₂, ◌∙◌, Bool, true, false, cond, List, ℕ, ◌+◌, ◌-◌, ◌≤◌, ◌<◌, arith, lt-ltb, le-ltb, Err}
use Rattle.numbers.specs.Bounds.{most_elen}
use Rattle.machine.specs.declared.Refusal.TheVariants.{IllegalType}
use Rattle.machine.specs.declared.Dimension.TheVariants.{DimensionK}
use Rattle.machine.specs.declared.Machine.{Machine}
use Rattle.machine.specs.Step.{Stepped}
use Rattle.machine.specs.Answers.{reply, Answer, Done}
use Rattle.machine.specs.Geometry.{Range, Bench, bench_of}
use Rattle.machine.specs.Setting.{chosen, mill}
use Rattle.machine.specs.Faults.{sound, seals_fit}
use Rattle.unit_settings.specs.Parts.{with_size, granted, size_stepped}
use Rattle.run.specs.declared.Place.{Place}
use Rattle.run.specs.declared.Place.TheVariants.{AtK, AtA, AtStore}
use Rattle.run.specs.declared.Run.{Run}
use Rattle.run.specs.Words.{Op, Shape, multiply, size_k}
use Rattle.run.specs.Places.{head_k}
use Rattle.run.specs.Start.{planned}
use Rattle.run.specs.Turn.{sound_run, run_shape, Running, running}
use Rattle.run.proofs.WordLaws.{decode-k}
use Rattle.run_plan.proofs.PlanLaws.{at-multiply}
use Rattle.run_place.specs.Parts.{at_place, numbered}
use Rattle.run_place.proofs.RunPlaceLaws.{run-numbered, run-placed, run-planned, run-sizes}
use Rattle.run_carry.specs.Parts.{carried, carried_for}
use Rattle.run_carry.proofs.CarriedLaws.{size-carried}
use Rattle.run_turn.specs.Parts.{Taking, Loaded}
use Rattle.run_turn.proofs.ProgressLaws.{none-taken, word-taken, more-taken, taken_as}

-- ---- the numbers of the run there

module _ (R : Run) (i j t : ℕ) (ok : sound_run chosen (at_place R (AtK i j t)) ≡ true) where
  pub here-planned : planned most_elen R.plan ≡ true
  here-planned = run-planned (at_place R (AtK i j t)) (run-numbered (at_place R (AtK i j t)) ok)

  pub here-numbered : numbered R ≡ true
  unfolding numbered
  here-numbered = run-numbered (at_place R (AtK i j t)) ok

  pub here-small : R.plan.k ≤ 1024
  here-small = (run-sizes (at_place R (AtK i j t)) (run-numbered (at_place R (AtK i j t)) ok)).1

  pub here-placed : (i ≤ 1024) × (j ≤ 1024) × (t ≤ R.plan.k)
  here-placed =
      let z = run-sizes (at_place R (AtK i j t)) (run-numbered (at_place R (AtK i j t)) ok) in
      let b = at-multiply R.plan i j t (run-placed (at_place R (AtK i j t)) ok) in
      (omega (arith, b.0, z.0), omega (arith, b.1.0, z.2), b.1.1)

  -- ---- the first: k is set

  pub set-taken : (m m' : Machine) (regs marks mem : List ℕ) → sound m regs marks ≡ true → mill m.mtype ≡ false → m' ≡ (size_stepped m DimensionK (R.plan.k - t)).machine
      → (seals : List Range) → seals_fit seals ≡ true → Taking (running (at_place R (AtK i j t)) (bench_of m seals regs marks mem)) 1 (at_place R (AtA i j t)) (bench_of m' seals regs marks mem)
  set-taken m m' regs marks mem s e em seals fit =
      let a : ℕ = R.plan.k - t in
      word-taken (none-taken ok s fit) (carried (reply Done) m' seals regs marks mem)
      (ap₂ (λ (x : Answer) (m : Machine). carried (reply x) m seals regs marks mem) (done-is a) em
      ∙ size-carried R.plan (Op.set_k a) m seals regs marks mem s fit DimensionK a (decode-k a (omega (arith, here-small))))
      refl (at_place R (AtA i j t)) refl
    where
      done-is : (a : ℕ) → Done ≡ (size_stepped m DimensionK a).answer
      done-is a = ap (λ (x : Bool). (cond {A = Stepped} x (record { answer = (Err IllegalType); machine = m }) (record { answer = Done; machine = with_size m DimensionK (granted m DimensionK a) })).answer) (sym e)

-- ---- the last: the multiply

pub head-next : (S : Shape) (i j s : ℕ) → s < S.k → AtK i j s ≡ head_k S i j s
head-next S i j s h = sym (rw (lt-ltb s S.k h))

pub head-past : (S : Shape) (i j s : ℕ) → S.k ≤ s → AtStore i j ≡ head_k S i j s
head-past S i j s h = sym (rw (le-ltb s S.k h))

pub multiply-taken : {r : Running} {n : ℕ} (R : Run) (i j t : ℕ) (B : Bench) → Taking r n (at_place R (AtK i j t)) B → (c : ℕ) (p : Place) (m : Machine) (seals : List Range) (regs marks mem : List ℕ)
    → Taking (running (at_place R (AtK i j t)) B) c (at_place R p) (bench_of m seals regs marks mem) → c ≡ 3 → Loaded R.plan i j t p m regs marks mem
    → (regs' : List ℕ) → carried (reply Done) m seals regs' marks mem ≡ carried_for R.plan multiply (bench_of m seals regs marks mem)
    → (q : Place) → q ≡ head_k (run_shape chosen R) i j (t + size_k (run_shape chosen R) t) → Taking r (n + 4) (at_place R q) (bench_of m seals regs' marks mem)
multiply-taken {r} {n} R i j t B T c p m seals regs marks mem U ec l regs' e q eq =
    let z : n + 3 + 1 ≡ n + 4 = omega arith in
    taken_as z refl refl
    (word-taken (taken_as (ap (λ (c : ℕ). n + c) ec) (ap (at_place R) l.place_is) refl (more-taken T U)) (carried (reply Done) m seals regs' marks mem) e refl (at_place R q) (ap (at_place R) eq))
