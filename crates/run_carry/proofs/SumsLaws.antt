-- Steps over k: after two loads that are answered 0 the multiply is too, where its widths and the marks of acc0 were found right before.
use Rattle.numbers.proofs.Kit.{◌≡◌, refl, sym, ap, ◌∙◌, subst, Bool, true, false, cond, not, List, [], ◌∷◌, ℕ, ◌*◌, leb, Err}
use Rattle.numbers.specs.Bounds.{most_elen}
use Rattle.numbers.specs.Tile.{mark_tile}
use Rattle.machine.specs.declared.Machine.{Machine}
use Rattle.machine.specs.declared.Refusal.TheVariants.{IllegalType}
use Rattle.machine.specs.Step.{Stepped}
use Rattle.machine.specs.declared.Dimension.TheVariants.{DimensionK}
use Rattle.machine.specs.declared.Factor.{Factor}
use Rattle.machine.specs.declared.Form.TheVariants.{Plain}
use Rattle.machine.specs.declared.Matrix.TheVariants.{MatrixA, MatrixB}
use Rattle.machine.specs.Answers.{reply, verdict, done, is_done, Answer, Done}
use Rattle.machine.specs.Geometry.{Range, State, bench_of, state_of, register_at, acc_at}
use Rattle.machine.specs.Setting.{mill, sew}
use Rattle.machine.specs.Refusals.{marked}
use Rattle.machine.specs.Meanings.{checks, state_after}
use Rattle.machine.specs.Faults.{sound, seals_fit}
use Rattle.machine.specs.Operation.{Operation, times}
use Rattle.machine.proofs.TestLaws.{every-each, false-true}
use Rattle.machine.proofs.CheckLaws.{Passed, passed, no-refusal}
use Rattle.unit_settings.specs.Parts.{ours, with_size, granted, size_stepped}
use Rattle.unit_checks.specs.Parts.{MarksReady, target_checks}
use Rattle.unit_execute.specs.Parts.{registers_after}
use Rattle.unit_execute.proofs.EffectLaws.{marks-ready, product-loads, float-loads}
use Rattle.unit_execute.proofs.SumLaws.{both-keep, width_is, product-passes}
use Rattle.run.specs.declared.Plan.{Plan}
use Rattle.run.specs.Words.{Op}
use Rattle.run.specs.Plan.{Elements, integers, floats, elements_of, narrow, form_of, a_row, a_column}
use Rattle.run.specs.Start.{format, kind_fit, planned}
use Rattle.run.specs.Encoding.{address_in}
use Rattle.run.proofs.NumberLaws.{Suits, multiply_of, multiply-passes}
use Rattle.run.proofs.StartLaws.{suits_of}
use Rattle.run.proofs.WordLaws.{formats}
use Rattle.run_carry.specs.Parts.{Carried, carried, carried_for, Multiplies, Steady}
use Rattle.run_carry.proofs.CarriedLaws.{plan-format, a-carried, b-carried, multiply-carried}

-- ---- another k

-- on a machine whose type is legal a size is set
sized-is : (m : Machine) (a : ℕ) → mill m.mtype ≡ false → (size_stepped m DimensionK a).machine ≡ with_size m DimensionK (granted m DimensionK a)
sized-is m a e = rw e

module _ (m : Machine) (marks : List ℕ) (a : ℕ) (m' : Machine) (em : m' ≡ (size_stepped m DimensionK a).machine) where
  pub steady-sized : (P : Plan) → Steady P m marks → Steady P m' marks
  steady-sized P h = subst (λ (n : Machine). Steady P n marks) (sym (em ∙ sized-is m a h.typed)) (record { typed = h.typed; wide = h.wide; written = h.written })

  abbrev stepped : Bool → Stepped
  stepped t = cond t (record { answer = (Err IllegalType); machine = m }) (record { answer = Done; machine = with_size m DimensionK (granted m DimensionK a) })

  pub ready-marks : (regs : List ℕ) → sound m regs marks ≡ true → MarksReady m' marks
  ready-marks regs s = subst (λ (n : Machine). MarksReady n marks) (sym em) (go (mill m.mtype))
    where
      go : (t : Bool) → MarksReady (stepped t).machine marks
      go true = marks-ready m regs marks s
      go false = let r = marks-ready m regs marks s in record { of-machine = record { lengths = r.of-machine.lengths; type-arises = r.of-machine.type-arises }; of_length = r.of_length }

  pub ready-steady : (P : Plan) → is_done (verdict (target_checks m' marks P.factor 0)) ≡ true → Steady P m marks
  ready-steady P d = go (mill m.mtype) refl (subst (λ (n : Machine). is_done (verdict (target_checks n marks P.factor 0)) ≡ true) em d)
    where
      illegal : (t : Bool) → t ≡ true → not t ≡ true → ⊥
      illegal true e h = false-true h
      illegal false e h = false-true e

      go : (t : Bool) → mill m.mtype ≡ t → is_done (verdict (target_checks (stepped t).machine marks P.factor 0)) ≡ true → Steady P m marks
      go true e d = absurd (illegal (mill m.mtype) e (passed (target_checks m marks P.factor 0) refl d).0)
      go false e d =
          let p = passed (target_checks (with_size m DimensionK (granted m DimensionK a)) marks P.factor 0) refl d in
          record { typed = e; wide = p.1.0; written = p.1.1.1.1.1.0 }

-- ---- a word, from the operation that it is

-- a state may hold no sealed range
pub none-fit : seals_fit [] ≡ true
unfolding seals_fit
none-fit = refl

module _ (P : Plan) (o : Op) (m : Machine) (seals : List Range) (regs marks mem : List ℕ) (O : Operation) where
  abbrev answer : Answer
  answer = verdict (checks (ours m) (λ q. false) O (state_of m regs marks) mem)

  abbrev left : State
  left = state_after (ours m) O (state_of m regs marks) mem

  -- where it is answered 0, the operation's checks passed and its marks are set
  word-done : carried (reply answer) m seals (cond (is_done answer) left.regs regs) (cond (is_done answer) left.marks marks) mem ≡ carried_for P o (bench_of m seals regs marks mem)
      → (r : Answer) (regs' marks' : List ℕ) → carried (reply r) m seals regs' marks' mem ≡ carried_for P o (bench_of m seals regs marks mem) → is_done r ≡ true
      → (is_done answer ≡ true) × (marks' ≡ left.marks)
  word-done k r regs' marks' e d =
      let q : is_done answer ≡ true = ap (λ (c : Carried). done c.answer) (k ∙ sym e) ∙ d in
      (q, ap (λ (c : Carried). c.bench.marks) (e ∙ sym k) ∙ ap (λ (t : Bool). cond t left.marks marks) q)

-- ---- the multiply

-- which bytes are sealed says nothing of it
unsealed-checks : (q : Elements) (m : Machine) (f : ℕ) (st : State) (mem : List ℕ) (z : ℕ → Bool) → verdict (checks (ours m) (λ q. false) (multiply_of q f) st mem) ≡ verdict (checks (ours m) z (multiply_of q f) st mem)
unsealed-checks integers m f st mem z = refl
unsealed-checks floats m f st mem z = refl

module _ (P : Plan) (ok : planned most_elen P ≡ true) (m : Machine) (seals : List Range) (regs marks mem : List ℕ) (s : sound m regs marks ≡ true) (fit : seals_fit seals ≡ true)
    (f : Factor) (e : times f ≡ P.factor) (q : Elements) (k : elements_of P ≡ q) where
  abbrev multiplied : Answer
  multiplied = verdict (checks (ours m) (λ q. false) (multiply_of q (times f)) (state_of m regs marks) mem)

  answered : done (reply multiplied) ≡ done (carried_for P Op.multiply (bench_of m seals regs marks mem)).answer
  answered =
      ap (λ (c : Carried). done c.answer)
      (multiply-carried P ok m seals regs marks mem s fit f e multiplied _ _ q k
      (record { answer-is = unsealed-checks q m (times f) (state_of m regs marks) mem; registers-are = refl; marks-are = refl }))

  pub multiply-permitted : done (carried_for P Op.multiply (bench_of m seals regs marks mem)).answer ≡ true → is_done multiplied ≡ true
  multiply-permitted d = answered ∙ d

  pub multiply-answered : is_done multiplied ≡ true → done (carried_for P Op.multiply (bench_of m seals regs marks mem)).answer ≡ true
  multiply-answered d = sym answered ∙ d

-- and what it leaves
pub multiply-left : (P : Plan) (ok : planned most_elen P ≡ true) (m : Machine) (regs : List ℕ) (f : Factor) (e : times f ≡ P.factor) (q : Elements) (k : elements_of P ≡ q) (regs' : List ℕ)
    → regs' ≡ registers_after m (multiply_of q (times f)) regs → (seals : List Range) (marks mem : List ℕ) → sound m regs marks ≡ true → seals_fit seals ≡ true
    → done (carried_for P Op.multiply (bench_of m seals regs marks mem)).answer ≡ true
    → carried (reply Done) m seals regs' marks mem ≡ carried_for P Op.multiply (bench_of m seals regs marks mem)
multiply-left P ok m regs f e integers k regs' er seals marks mem s fit d =
    let w = product-loads m regs marks s (times f) 0 0 1 (multiply-permitted P ok m seals regs marks mem s fit f e integers k d) regs' er in
    multiply-carried P ok m seals regs marks mem s fit f e Done regs' marks integers k (record { answer-is = w.answer-is; registers-are = w.registers-are; marks-are = w.marks-are })
multiply-left P ok m regs f e floats k regs' er seals marks mem s fit d =
    let w = float-loads m regs marks s 0 0 1 (multiply-permitted P ok m seals regs marks mem s fit f e floats k d) regs' er in
    multiply-carried P ok m seals regs marks mem s fit f e Done regs' marks floats k (record { answer-is = w.answer-is; registers-are = w.registers-are; marks-are = w.marks-are })

-- ---- the two loads, and then the multiply

plan-kind : (P : Plan) → planned most_elen P ≡ true → kind_fit P ≡ true
unfolding planned
plan-kind P h = (every-each (format most_elen P.sew P.factor ∷ leb P.m 1024 ∷ leb P.k 1024 ∷ leb P.n 1024 ∷ kind_fit P ∷ []) h).1.1.1.1.0

module _ (P : Plan) (ok : planned most_elen P ≡ true) (m : Machine) (regs marks mem : List ℕ) (s : sound m regs marks ≡ true) (h : Steady P m marks) (i j t : ℕ) (ra : Answer) (regs₁ marks₁ : List ℕ)
    (ea : (seals : List Range) → seals_fit seals ≡ true → carried (reply ra) m seals regs₁ marks₁ mem ≡ carried_for P (Op.load_a i t) (bench_of m seals regs marks mem))
    (da : is_done ra ≡ true) (s₁ : sound m regs₁ marks₁ ≡ true) (rb : Answer) (regs₂ marks₂ : List ℕ)
    (eb : (seals : List Range) → seals_fit seals ≡ true → carried (reply rb) m seals regs₂ marks₂ mem ≡ carried_for P (Op.load_b t j) (bench_of m seals regs₁ marks₁ mem))
    (db : is_done rb ≡ true) (s₂ : sound m regs₂ marks₂ ≡ true) where
  abbrev a : ℕ
  a = address_in P.a (a_row P i t) (a_column P i t * narrow P)

  abbrev b : ℕ
  b = address_in P.b t (j * narrow P)

  abbrev loads_a : Operation
  loads_a = Operation.load (form_of P) MatrixA 0 (narrow P) a P.a.stride

  abbrev loads_b : Operation
  loads_b = Operation.load Plain MatrixB 1 (narrow P) b P.b.stride

  first : (is_done (verdict (checks (ours m) (λ q. false) loads_a (state_of m regs marks) mem)) ≡ true) × (marks₁ ≡ (state_after (ours m) loads_a (state_of m regs marks) mem).marks)
  first =
      word-done P (Op.load_a i t) m [] regs marks mem loads_a
      (a-carried P ok m [] regs marks mem s none-fit _ i t _ _ (record { answer-is = λ z. refl; registers-are = refl; marks-are = refl })) ra regs₁ marks₁ (ea [] none-fit) da

  second : (is_done (verdict (checks (ours m) (λ q. false) loads_b (state_of m regs₁ marks₁) mem)) ≡ true) × (marks₂ ≡ (state_after (ours m) loads_b (state_of m regs₁ marks₁) mem).marks)
  second =
      word-done P (Op.load_b t j) m [] regs₁ marks₁ mem loads_b
      (b-carried P ok m [] regs₁ marks₁ mem s₁ none-fit _ t j _ _ (record { answer-is = λ z. refl; registers-are = refl; marks-are = refl })) rb regs₂ marks₂ (eb [] none-fit) db

  abbrev after : State
  after = state_after (ours m) loads_b (state_after (ours m) loads_a (state_of m regs marks) mem) mem

  marks-are : marks₂ ≡ after.marks
  marks-are = second.1 ∙ ap (mark_tile (register_at (ours m) MatrixB 1) m.tile_k (m.tile_n * narrow P)) first.1

  pub still-steady : Steady P m marks₂
  still-steady = record {
    typed = h.typed;
    wide = h.wide;
    written = subst (λ (ms : List ℕ). marked ms (acc_at (ours m) 0) m.tile_m (m.tile_n * (P.factor * sew m.mtype)) ≡ true) (sym marks-are)
        (both-keep m regs marks mem s (form_of P) (narrow P) a P.a.stride b P.b.stride _ _ _ h.written);
  }

  suits : Suits (elements_of P) P.factor (sew m.mtype)
  suits = subst (Suits (elements_of P) P.factor) (width_is m regs marks mem s (form_of P) (narrow P) a P.a.stride b P.b.stride first.0 second.0) (suits_of P (plan-kind P ok))

  passes : (mem' : List ℕ) → Passed (checks (ours m) (λ q. false) (multiply_of (elements_of P) P.factor) (state_of m regs₂ marks₂) mem')
  passes mem' =
      multiply-passes (ours m) (state_of m regs₂ marks₂) mem' P.factor (λ q. false) (elements_of P) suits
      (subst (λ (ms : List ℕ). Passed (checks (ours m) (λ q. false) (Operation.multiply P.factor 0 0 1) (state_of m regs₂ ms) mem')) (sym marks-are)
      (product-passes m regs marks mem s (form_of P) (narrow P) a P.a.stride b P.b.stride first.0 second.0 P.factor h.wide h.written))

  pub sums-answered : (mem' : List ℕ) (seals : List Range) → seals_fit seals ≡ true → done (carried_for P Op.multiply (bench_of m seals regs₂ marks₂ mem')).answer ≡ true
  sums-answered mem' seals fit =
      let F = (formats most_elen P.sew P.factor refl (plan-format P ok)).1 in
      multiply-answered P ok m seals regs₂ marks₂ mem' s₂ fit F.factor F.is (elements_of P) refl
      (subst (λ (f : ℕ). is_done (verdict (checks (ours m) (λ q. false) (multiply_of (elements_of P) f) (state_of m regs₂ marks₂) mem')) ≡ true) (sym F.is)
      (ap is_done (no-refusal (checks (ours m) (λ q. false) (multiply_of (elements_of P) P.factor) (state_of m regs₂ marks₂) mem') (passes mem'))))

  pub sums-multiply : Multiplies P m regs₂
  sums-multiply = record { marks = marks₂; is-sound = s₂; is-done = sums-answered [] [] none-fit }
