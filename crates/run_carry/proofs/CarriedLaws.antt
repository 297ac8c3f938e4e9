-- The word at each place is the instruction that code carries out there.
use Rattle.numbers.proofs.Kit.{◌≡◌, refl, sym, ap, ap₂, ◌∙◌, subst, Bool, true, false, cond, not, List, [], ◌∷◌, ℕ, ◌+◌, ◌*◌, ◌^◌, ◌<◌, leb, pos, Err}
use Rattle.numbers.specs.Reduce.{reduce}
use Rattle.machine.specs.declared.Machine.{Machine}
use Rattle.machine.specs.declared.Refusal.TheVariants.{IllegalType}
use Rattle.machine.specs.Step.{Stepped}
use Rattle.machine.specs.declared.Dimension.{Dimension}
use Rattle.machine.specs.declared.Factor.{Factor}
use Rattle.machine.specs.declared.Factor.TheVariants.{Single, Double, Quadruple}
use Rattle.machine.specs.declared.Form.TheVariants.{Plain}
use Rattle.machine.specs.declared.Matrix.TheVariants.{MatrixA, MatrixB, MatrixC}
use Rattle.machine.specs.declared.Instruction.{Instruction}
use Rattle.machine.specs.declared.Instruction.TheVariants.{SetTypeImmediate, SetTileImmediate, Load, Store, Multiply, ScaleImmediate, FloatMultiply}
use Rattle.machine.specs.declared.Reply.{Reply}
use Rattle.machine.specs.Answers.{reply, verdict, is_done, ◌otherwise◌, Answer, Done}
use Rattle.numbers.specs.Bounds.{most_elen}
use Rattle.machine.specs.Geometry.{Range, sealed, Bench, bench_of, state_of}
use Rattle.machine.specs.Setting.{chosen, new_type, mill}
use Rattle.machine.specs.Refusals.{typed}
use Rattle.machine.specs.Meanings.{checks, state_after}
use Rattle.machine.specs.Faults.{sound, seals_fit}
use Rattle.machine.specs.Listing.{decode}
use Rattle.machine.specs.Operation.{Operation, times}
use Rattle.machine.specs.Step.{Outcome, outcome}
use Rattle.machine.proofs.TestLaws.{every-each}
use Rattle.unit_settings.specs.Parts.{ours, with_type, with_size, granted, size_stepped}
use Rattle.unit_execute.specs.Parts.{WritesRegisters, WritesMemory}
use Rattle.unit_execute.proofs.OutcomeLaws.{step-decoded, type-outcome, size-outcome, loads-outcome, stores-outcome}
use Rattle.run.specs.declared.Plan.{Plan}
use Rattle.run.specs.declared.Run.{Run}
use Rattle.run.specs.declared.Place.{Place}
use Rattle.run.specs.Words.{Op}
use Rattle.run.specs.Plan.{Elements, integers, floats, elements_of, narrow, wide, msew, type_of, form_of, a_row, a_column}
use Rattle.run.specs.Places.{word_at}
use Rattle.run.specs.Encoding.{own, multiply_word, handed_for, address_in, log}
use Rattle.run.specs.Start.{format, kind_fit, planned}
use Rattle.run.specs.Turn.{run_shape}
use Rattle.run.proofs.NumberLaws.{multiply_of}
use Rattle.run.proofs.WordLaws.{formats, decode-float, decode-a, decode-b, decode-c, msew<4, narrow-is, wide<4, wide_is, type-small}
use Rattle.run_carry.specs.Parts.{Carried, carried, carried_for, carried_by, carried_at}

pub plan-format : (P : Plan) → planned most_elen P ≡ true → format most_elen P.sew P.factor ≡ true
unfolding planned
plan-format P h = (every-each (format most_elen P.sew P.factor ∷ leb P.m 1024 ∷ leb P.k 1024 ∷ leb P.n 1024 ∷ kind_fit P ∷ []) h).0

pub plan-type : (P : Plan) → planned most_elen P ≡ true → type_of P < 8192
plan-type P h = type-small (ours nothing) P (plan-format P h) (state_of nothing [] [])
  where
    nothing : Machine
    nothing = record { rlen = 0; mlen = 0; mtype = 0; tile_m = 0; tile_k = 0; tile_n = 0; rule = 0; elen = 0 }

pub factor-one : (P : Plan) → planned most_elen P ≡ true → ¬ (P.factor ≡ 4) → ¬ (P.factor ≡ 2) → 1 ≡ P.factor
factor-one P h p q = let F = (formats most_elen P.sew P.factor refl (plan-format P h)).1 in go F.factor F.is
  where
    go : (x : Factor) → times x ≡ P.factor → 1 ≡ P.factor
    go Single e = e
    go Double e = absurd (q (sym e))
    go Quadruple e = absurd (p (sym e))

-- ---- a word, from the instruction that it decodes to

-- but for the machine's numbers, which are those of the word
pub numbers_apart : (a a' : Reply) (m : Machine) (seals : List Range) (regs marks mem : List ℕ) (k : Carried) → a' ≡ a → carried a m seals regs marks mem ≡ k
    → carried a' k.bench.machine seals regs marks mem ≡ k
numbers_apart a a' m seals regs marks mem k e h =
    ap₂ (λ (a : Reply) (m : Machine). carried a m seals regs marks mem) e (sym (ap (λ (k : Carried). k.bench.machine) h)) ∙ h

pub numbers-joined : (a : Reply) (m : Machine) (seals : List Range) (regs marks mem : List ℕ) (k : Carried) → m ≡ k.bench.machine → carried a k.bench.machine seals regs marks mem ≡ k
    → carried a m seals regs marks mem ≡ k
numbers-joined a m seals regs marks mem k e h = ap (λ (m : Machine). carried a m seals regs marks mem) e ∙ h

-- the word at a place of the run
pub at-place : (R : Run) (B : Bench) (q : Place) → R.place ≡ q → carried_by R.plan (word_at (run_shape chosen R) q) B ≡ carried_at R B
at-place R B q e = ap (λ (q : Place). carried_by R.plan (word_at (run_shape chosen R) q) B) (sym e)

module _ (P : Plan) (o : Op) (m : Machine) (seals : List Range) (regs marks mem : List ℕ) (s : sound m regs marks ≡ true) (fit : seals_fit seals ≡ true) where
  abbrev B : Bench
  B = bench_of m seals regs marks mem

  abbrev xs : List ℕ
  xs = own (handed_for P o)

  by-decoding : (i : Instruction) → decode (handed_for P o).word ≡ i → (out : Outcome) → out ≡ outcome (ours m) i xs B
      → record { answer = out.answer; bench = out.bench } ≡ carried_for P o B
  by-decoding i d out e = ap (λ (out : Outcome). record { answer = out.answer; bench = out.bench }) (e ∙ step-decoded (handed_for P o).word xs B i (sym d))

  pub type-carried : (v : ℕ) → decode (handed_for P o).word ≡ SetTypeImmediate 0 v → carried (reply Done) (with_type m (new_type m.elen v)) seals regs marks mem ≡ carried_for P o B
  type-carried v d = by-decoding (SetTypeImmediate 0 v) d _ (type-outcome m seals (SetTypeImmediate 0 v) xs regs marks mem s fit refl v 0 refl refl)

  pub size-carried : (d : Dimension) (a : ℕ) → decode (handed_for P o).word ≡ SetTileImmediate d 0 a
      → carried (reply (size_stepped m d a).answer) (size_stepped m d a).machine seals regs marks mem ≡ carried_for P o B
  size-carried d a c = by-decoding (SetTileImmediate d 0 a) c _ (size-outcome m seals (SetTileImmediate d 0 a) xs regs marks mem s fit refl d a 0 refl refl)

-- answer 2 of a tile setting
pub size-answers : (m : Machine) (d : Dimension) (a : ℕ) → verdict (typed (state_of m [] []) ∷ []) ≡ (size_stepped m d a).answer
size-answers m d a = go (mill m.mtype) (granted m d a)
  where
    go : (t : Bool) (g : ℕ) → verdict ((not t otherwise IllegalType) ∷ [])
        ≡ (cond {A = Stepped} t (record { answer = (Err IllegalType); machine = m }) (record { answer = Done; machine = with_size m d g })).answer
    go true g = refl
    go false g = refl

-- ---- the clear and the multiply

pub zero-residue : reduce (2 ^ 64) (pos 0) ≡ 0
unfolding reduce
zero-residue = refl

module _ (P : Plan) (ok : planned most_elen P ≡ true) (m : Machine) (seals : List Range) (regs marks mem : List ℕ) (s : sound m regs marks ≡ true) (fit : seals_fit seals ≡ true) (f : Factor) (e : times f ≡ P.factor) (a : Answer) (regs' marks' : List ℕ) where
  pub clear-carried : WritesRegisters m (Operation.scale (times f) 0 0 (pos 0)) regs marks mem a regs' marks'
      → carried (reply a) m seals regs' marks' mem ≡ carried_for P Op.clear (bench_of m seals regs marks mem)
  clear-carried l =
      let F = (formats most_elen P.sew P.factor refl (plan-format P ok)).1 in
      by-decoding P Op.clear m seals regs marks mem s fit (ScaleImmediate F.factor 0 0 0) F.clears _
      (loads-outcome m seals (ScaleImmediate F.factor 0 0 0) (own (handed_for P Op.clear)) regs marks mem s fit refl (Operation.scale (times f) 0 0 (pos 0))
      (ap (λ (g : ℕ). Operation.scale g 0 0 (pos 0)) (F.is ∙ sym e)) refl a regs' marks' l refl refl)

  -- by the elements of the run
  pub multiply-carried : (q : Elements) → elements_of P ≡ q → WritesRegisters m (multiply_of q (times f)) regs marks mem a regs' marks'
      → carried (reply a) m seals regs' marks' mem ≡ carried_for P Op.multiply (bench_of m seals regs marks mem)
  multiply-carried integers k l =
      let F = (formats most_elen P.sew P.factor refl (plan-format P ok)).1 in
      by-decoding P Op.multiply m seals regs marks mem s fit (Multiply F.factor 0 0 1) (ap (λ (q : Elements). decode (multiply_word q P.factor)) k ∙ F.multiplies) _
      (loads-outcome m seals (Multiply F.factor 0 0 1) (own (handed_for P Op.multiply)) regs marks mem s fit refl (Operation.multiply (times f) 0 0 1)
      (ap (λ (g : ℕ). Operation.multiply g 0 0 1) (F.is ∙ sym e)) refl a regs' marks' l refl refl)
  multiply-carried floats k l =
      by-decoding P Op.multiply m seals regs marks mem s fit (FloatMultiply 0 0 1) (ap (λ (q : Elements). decode (multiply_word q P.factor)) k ∙ decode-float) _
      (loads-outcome m seals (FloatMultiply 0 0 1) (own (handed_for P Op.multiply)) regs marks mem s fit refl (Operation.float_multiply 0 0 1) refl refl a regs' marks' l refl refl)

-- ---- loads and the store

-- an operation whose numbers the code has found
pub loads-for : {m : Machine} {o o' : Operation} {regs marks mem : List ℕ} {a : Answer} {regs' marks' : List ℕ} → o ≡ o' → WritesRegisters m o regs marks mem a regs' marks'
    → WritesRegisters m o' regs marks mem a regs' marks'
loads-for {m} {o} {o'} {regs} {marks} {mem} {a} {regs'} {marks'} e l = subst (λ (o : Operation). WritesRegisters m o regs marks mem a regs' marks') e l

pub stores-for : {m : Machine} {o o' : Operation} {regs marks mem : List ℕ} {z : ℕ → Bool} {a : Answer} {mem' : List ℕ} → o ≡ o' → WritesMemory m o regs marks mem z a mem'
    → WritesMemory m o' regs marks mem z a mem'
stores-for {m} {o} {o'} {regs} {marks} {mem} {z} {a} {mem'} e l = subst (λ (o : Operation). WritesMemory m o regs marks mem z a mem') e l

module _ (P : Plan) (ok : planned most_elen P ≡ true) (m : Machine) (seals : List Range) (regs marks mem : List ℕ) (s : sound m regs marks ≡ true) (fit : seals_fit seals ≡ true) (a : Answer) where
  pub a-carried : (i t : ℕ) (regs' marks' : List ℕ)
      → WritesRegisters m (Operation.load (form_of P) MatrixA 0 (narrow P) (address_in P.a (a_row P i t) (a_column P i t * narrow P)) P.a.stride) regs marks mem a regs' marks'
      → carried (reply a) m seals regs' marks' mem ≡ carried_for P (Op.load_a i t) (bench_of m seals regs marks mem)
  a-carried i t regs' marks' l =
      let g = plan-format P ok in
      let k : Instruction = Load (form_of P) MatrixA (2 ^ msew P) 0 10 11 in
      let p = address_in P.a (a_row P i t) (a_column P i t * narrow P) in
      by-decoding P (Op.load_a i t) m seals regs marks mem s fit k (decode-a (form_of P) (msew P) (msew<4 (ours m) P g (state_of m regs marks))) _
      (loads-outcome m seals k (own (handed_for P (Op.load_a i t))) regs marks mem s fit refl (Operation.load (form_of P) MatrixA 0 (narrow P) p P.a.stride)
      (ap (λ (w : ℕ). Operation.load (form_of P) MatrixA 0 w p P.a.stride) (narrow-is (ours m) P g (state_of m regs marks))) refl a regs' marks' l refl refl)

  pub b-carried : (t j : ℕ) (regs' marks' : List ℕ) → WritesRegisters m (Operation.load Plain MatrixB 1 (narrow P) (address_in P.b t (j * narrow P)) P.b.stride) regs marks mem a regs' marks'
      → carried (reply a) m seals regs' marks' mem ≡ carried_for P (Op.load_b t j) (bench_of m seals regs marks mem)
  b-carried t j regs' marks' l =
      let g = plan-format P ok in
      let k : Instruction = Load Plain MatrixB (2 ^ msew P) 1 10 11 in
      let p = address_in P.b t (j * narrow P) in
      by-decoding P (Op.load_b t j) m seals regs marks mem s fit k (decode-b (msew P) (msew<4 (ours m) P g (state_of m regs marks))) _
      (loads-outcome m seals k (own (handed_for P (Op.load_b t j))) regs marks mem s fit refl (Operation.load Plain MatrixB 1 (narrow P) p P.b.stride)
      (ap (λ (w : ℕ). Operation.load Plain MatrixB 1 w p P.b.stride) (narrow-is (ours m) P g (state_of m regs marks))) refl a regs' marks' l refl refl)

  pub c-carried : (i j : ℕ) (mem' : List ℕ) → WritesMemory m (Operation.store Plain MatrixC 0 (wide P) (address_in P.c i (j * wide P)) P.c.stride) regs marks mem (sealed seals) a mem'
      → carried (reply a) m seals regs marks mem' ≡ carried_for P (Op.store i j) (bench_of m seals regs marks mem)
  c-carried i j mem' l =
      let g = plan-format P ok in
      let k : Instruction = Store Plain MatrixC (2 ^ (msew P + log P.factor)) 0 10 11 in
      let p = address_in P.c i (j * wide P) in
      by-decoding P (Op.store i j) m seals regs marks mem s fit k (decode-c (msew P + log P.factor) (wide<4 (ours m) P g (state_of m regs marks))) _
      (stores-outcome m seals k (own (handed_for P (Op.store i j))) regs marks mem s fit refl (Operation.store Plain MatrixC 0 (wide P) p P.c.stride)
      (ap (λ (w : ℕ). Operation.store Plain MatrixC 0 w p P.c.stride) (wide_is (ours m) P g (state_of m regs marks))) refl a mem' l refl)

-- ---- only a setting changes the machine's numbers

module _ (P : Plan) (ok : planned most_elen P ≡ true) (m : Machine) (seals : List Range) (regs marks mem : List ℕ) (s : sound m regs marks ≡ true) (fit : seals_fit seals ≡ true) where
  -- what an operation that writes registers leaves
  loaded : (o : Operation) → ((z : ℕ → Bool) → verdict (checks (ours m) (sealed seals) o (state_of m regs marks) mem) ≡ verdict (checks (ours m) z o (state_of m regs marks) mem))
      → let r : Answer = verdict (checks (ours m) (sealed seals) o (state_of m regs marks) mem) in
      WritesRegisters m o regs marks mem r (cond (is_done r) (state_after (ours m) o (state_of m regs marks) mem).regs regs) (cond (is_done r) (state_after (ours m) o (state_of m regs marks) mem).marks marks)
  loaded o e = record { answer-is = e; registers-are = refl; marks-are = refl }

  alike : (q : Elements) (f : ℕ) (z : ℕ → Bool) → verdict (checks (ours m) (sealed seals) (multiply_of q f) (state_of m regs marks) mem) ≡ verdict (checks (ours m) z (multiply_of q f) (state_of m regs marks) mem)
  alike integers f z = refl
  alike floats f z = refl

  abbrev numbers : Carried → Machine
  numbers k = k.bench.machine

  pub clear-keeps : m ≡ numbers (carried_for P Op.clear (bench_of m seals regs marks mem))
  clear-keeps = let F = (formats most_elen P.sew P.factor refl (plan-format P ok)).1 in ap numbers (clear-carried P ok m seals regs marks mem s fit F.factor F.is _ _ _ (loaded _ (λ z. refl)))

  pub multiply-keeps : m ≡ numbers (carried_for P Op.multiply (bench_of m seals regs marks mem))
  multiply-keeps = let F = (formats most_elen P.sew P.factor refl (plan-format P ok)).1 in ap numbers (multiply-carried P ok m seals regs marks mem s fit F.factor F.is _ _ _ (elements_of P) refl (loaded (multiply_of (elements_of P) (times F.factor)) (alike (elements_of P) (times F.factor))))

  pub a-keeps : (i t : ℕ) → m ≡ numbers (carried_for P (Op.load_a i t) (bench_of m seals regs marks mem))
  a-keeps i t = ap numbers (a-carried P ok m seals regs marks mem s fit _ i t _ _ (loaded _ (λ z. refl)))

  pub b-keeps : (t j : ℕ) → m ≡ numbers (carried_for P (Op.load_b t j) (bench_of m seals regs marks mem))
  b-keeps t j = ap numbers (b-carried P ok m seals regs marks mem s fit _ t j _ _ (loaded _ (λ z. refl)))

  pub c-keeps : (i j : ℕ) → m ≡ numbers (carried_for P (Op.store i j) (bench_of m seals regs marks mem))
  c-keeps i j = ap numbers (c-carried P ok m seals regs marks mem s fit _ i j _ (record { answer-is = refl; memory-is = refl }))
