-- The outcome of each family from its parts, in a state that is not at fault; and answer 8 of a step.
use Rattle.numbers.proofs.Kit.{◌≡◌, refl, sym, ap, ap₂, ◌∙◌, Bool, true, false, cond, not, List, [], ℕ, eqb, eqb-true, Err}
use Rattle.machine.specs.declared.Machine.{Machine}
use Rattle.machine.specs.declared.Refusal.TheVariants.{IllegalWord, IllegalType, BadArguments, WrongOpcode, LeftOutWord, WrongRegister}
use Rattle.machine.specs.declared.Wrong.{Wrong}
use Rattle.machine.specs.declared.Wrong.TheVariants.{Opcode, LeftOut, Unlisted, Register}
use Rattle.machine.specs.Step.{Stepped}
use Rattle.machine.specs.declared.Dimension.{Dimension}
use Rattle.machine.specs.declared.Dimension.TheVariants.{DimensionM, DimensionK, DimensionN}
use Rattle.machine.specs.declared.Instruction.{Instruction}
use Rattle.machine.proofs.StepLaws.{step-refused}
use Rattle.machine.specs.Listing.{decode}
use Rattle.machine.specs.Answers.{reply, verdict, is_done, Answer, Done}
use Rattle.machine.specs.Geometry.{Range, sealed, State, state_of, machine_after, Bench, bench_of, scalar, with_scalar}
use Rattle.machine.specs.Setting.{mill, new_type, maximum, smaller, chosen, size_in}
use Rattle.machine.specs.Operation.{Operation, asked_size}
use Rattle.machine.specs.Meanings.{state_after, memory_after, result_of, checks}
use Rattle.machine.specs.Refusals.{word_answer}
use Rattle.machine.specs.Faults.{sound, seals_fit, sound_bench, thirty_two}
use Rattle.machine.proofs.NoFault.{sound-bench}
use Rattle.machine.specs.Step.{Outcome, outcome, step, step_by, given, meant, left, destination}
use Rattle.machine.proofs.CodeLaws.{outcome-by, outcome-of}
use Rattle.unit_settings.specs.Parts.{ours, with_type, with_size, granted, size_stepped, size_scalars, cut_stepped, tile_stepped, tile_scalars}
use Rattle.unit_execute.specs.Parts.{WritesRegisters, WritesMemory}

-- ---- the outcome of each family

same : {A : Type 0} (t : Bool) (x : A) → x ≡ cond t x x
same true x = refl
same false x = refl

module _ (m : Machine) (seals : List Range) (i : Instruction) (xs regs marks mem : List ℕ) (s : sound m regs marks ≡ true) (f : seals_fit seals ≡ true) (t : thirty_two xs ≡ true) where
  abbrev B : Bench
  B = bench_of m seals regs marks mem

  good : sound_bench B ≡ true
  good = sound-bench B s f

  abbrev here : Outcome
  here = outcome (ours m) i xs B

  abbrev leaves : Answer → Machine → (xs regs marks mem : List ℕ) → Outcome
  leaves a m' xs' regs' marks' mem' = record { answer = reply a; bench = bench_of m' seals regs' marks' mem'; scalars = xs' }

  pub illegal-outcome : (wrong : Wrong) → meant (ours m) i xs B ≡ Operation.illegal wrong → leaves (Err (word_answer wrong)) m xs regs marks mem ≡ here
  illegal-outcome Opcode e = outcome-by (ours m) i xs B good t (Err WrongOpcode) (ap (λ (o : Operation). verdict (checks (ours m) (sealed seals) o (given (ours m) i xs B) mem)) e)
  illegal-outcome LeftOut e = outcome-by (ours m) i xs B good t (Err LeftOutWord) (ap (λ (o : Operation). verdict (checks (ours m) (sealed seals) o (given (ours m) i xs B) mem)) e)
  illegal-outcome Unlisted e = outcome-by (ours m) i xs B good t (Err IllegalWord) (ap (λ (o : Operation). verdict (checks (ours m) (sealed seals) o (given (ours m) i xs B) mem)) e)
  illegal-outcome Register e = outcome-by (ours m) i xs B good t (Err WrongRegister) (ap (λ (o : Operation). verdict (checks (ours m) (sealed seals) o (given (ours m) i xs B) mem)) e)

  pub type-outcome : (v rd : ℕ) → meant (ours m) i xs B ≡ Operation.set_type v → destination i ≡ rd
      → leaves Done (with_type m (new_type m.elen v)) (with_scalar xs rd (new_type m.elen v)) regs marks mem ≡ here
  type-outcome v rd e er =
      ap₂ (λ (o : Operation) (rd : ℕ). record {
        answer = reply Done;
        bench = bench_of (machine_after m (state_after (ours m) o (state_of m regs marks) mem)) seals (state_after (ours m) o (state_of m regs marks) mem).regs (state_after (ours m) o (state_of m regs marks) mem).marks (memory_after (ours m) o (state_of m regs marks) mem);
        scalars = with_scalar xs rd (result_of (ours m) o (state_of m regs marks));
      }) (sym e) (sym er)
      ∙ outcome-by (ours m) i xs B good t Done (ap (λ (o : Operation). verdict (checks (ours m) (sealed seals) o (given (ours m) i xs B) mem)) e)

  pub size-outcome : (d : Dimension) (a rd : ℕ) → meant (ours m) i xs B ≡ Operation.set_size d a → destination i ≡ rd
      → leaves (size_stepped m d a).answer (size_stepped m d a).machine (size_scalars m d a rd xs) regs marks mem ≡ here
  size-outcome d a rd e er = go (mill m.mtype) refl
    where
      v : verdict (checks (ours m) (sealed seals) (meant (ours m) i xs B) (given (ours m) i xs B) mem) ≡ cond (not (mill m.mtype)) Done (Err IllegalType)
      v = ap (λ (o : Operation). verdict (checks (ours m) (sealed seals) o (given (ours m) i xs B) mem)) e

      granted-is : (d : Dimension) → leaves Done (with_size m d (granted m d a)) (with_scalar xs rd (granted m d a)) regs marks mem
          ≡ record {
            answer = reply Done;
            bench = bench_of (machine_after m (state_after (ours m) (Operation.set_size d a) (state_of m regs marks) mem)) seals (state_after (ours m) (Operation.set_size d a) (state_of m regs marks) mem).regs (state_after (ours m) (Operation.set_size d a) (state_of m regs marks) mem).marks (memory_after (ours m) (Operation.set_size d a) (state_of m regs marks) mem);
            scalars = with_scalar xs rd (result_of (ours m) (Operation.set_size d a) (state_of m regs marks));
          }
      granted-is DimensionM = refl
      granted-is DimensionK = refl
      granted-is DimensionN = refl

      go : (b : Bool) → mill m.mtype ≡ b
          → leaves (cond {A = Stepped} b (record { answer = (Err IllegalType); machine = m }) (record { answer = Done; machine = with_size m d (granted m d a) })).answer (cond {A = Stepped} b (record { answer = (Err IllegalType); machine = m }) (record { answer = Done; machine = with_size m d (granted m d a) })).machine (cond b xs (with_scalar xs rd (granted m d a))) regs marks mem ≡ here
      go true b = outcome-by (ours m) i xs B good t (Err IllegalType) (v ∙ rw b)
      go false b =
          granted-is d
          ∙ ap₂ (λ (o : Operation) (rd : ℕ). record {
            answer = reply Done;
            bench = bench_of (machine_after m (state_after (ours m) o (state_of m regs marks) mem)) seals (state_after (ours m) o (state_of m regs marks) mem).regs (state_after (ours m) o (state_of m regs marks) mem).marks (memory_after (ours m) o (state_of m regs marks) mem);
            scalars = with_scalar xs rd (result_of (ours m) o (state_of m regs marks));
          }) (sym e) (sym er)
          ∙ outcome-by (ours m) i xs B good t Done (v ∙ rw b)

  pub cut-outcome : (d : Dimension) → meant (ours m) i xs B ≡ Operation.cut_size d → destination i ≡ 0
      → leaves (cut_stepped m d).answer (cut_stepped m d).machine xs regs marks mem ≡ here
  cut-outcome d e er = go (mill m.mtype) refl
    where
      v : verdict (checks (ours m) (sealed seals) (meant (ours m) i xs B) (given (ours m) i xs B) mem) ≡ cond (not (mill m.mtype)) Done (Err IllegalType)
      v = ap (λ (o : Operation). verdict (checks (ours m) (sealed seals) o (given (ours m) i xs B) mem)) e

      least : ℕ
      least = smaller (maximum (ours m) m.mtype d) (size_in d (state_of m [] []))

      cut-is : (d : Dimension) → leaves Done (with_size m d (smaller (maximum (ours m) m.mtype d) (size_in d (state_of m [] [])))) xs regs marks mem
          ≡ record {
            answer = reply Done;
            bench = bench_of (machine_after m (state_after (ours m) (Operation.cut_size d) (state_of m regs marks) mem)) seals (state_after (ours m) (Operation.cut_size d) (state_of m regs marks) mem).regs (state_after (ours m) (Operation.cut_size d) (state_of m regs marks) mem).marks mem;
            scalars = xs;
          }
      cut-is DimensionM = refl
      cut-is DimensionK = refl
      cut-is DimensionN = refl

      go : (b : Bool) → mill m.mtype ≡ b → leaves (cond {A = Stepped} b (record { answer = (Err IllegalType); machine = m }) (record { answer = Done; machine = with_size m d least })).answer (cond {A = Stepped} b (record { answer = (Err IllegalType); machine = m }) (record { answer = Done; machine = with_size m d least })).machine xs regs marks mem ≡ here
      go true b = outcome-by (ours m) i xs B good t (Err IllegalType) (v ∙ rw b)
      go false b =
          cut-is d
          ∙ ap₂ (λ (o : Operation) (rd : ℕ). record {
            answer = reply Done;
            bench = bench_of (machine_after m (state_after (ours m) o (state_of m regs marks) mem)) seals (state_after (ours m) o (state_of m regs marks) mem).regs (state_after (ours m) o (state_of m regs marks) mem).marks (memory_after (ours m) o (state_of m regs marks) mem);
            scalars = with_scalar xs rd (result_of (ours m) o (state_of m regs marks));
          }) (sym e) (sym er)
          ∙ outcome-by (ours m) i xs B good t Done (v ∙ rw b)

  -- a tile setting with rs1
  pub tile-outcome : (d : Dimension) (rd rs1 : ℕ) → meant (ours m) i xs B ≡ asked_size (ours m) (state_of m regs marks) d rd rs1 xs → destination i ≡ rd
      → leaves (tile_stepped m d rd rs1 xs).answer (tile_stepped m d rd rs1 xs).machine (tile_scalars m d rd rs1 xs) regs marks mem ≡ here
  tile-outcome d rd rs1 e er = go (eqb rs1 0) refl (eqb rd 0) refl
    where
      stepped : Bool → Bool → Stepped
      stepped b c = cond b (cond c (cut_stepped m d) (size_stepped m d (maximum (ours m) m.mtype d))) (size_stepped m d (scalar xs rs1))

      written : Bool → Bool → List ℕ
      written b c = cond b (cond c xs (size_scalars m d (maximum (ours m) m.mtype d) rd xs)) (size_scalars m d (scalar xs rs1) rd xs)

      asked : Bool → Bool → Operation
      asked b c = cond b (cond c (Operation.cut_size d) (Operation.set_size d (maximum (ours m) m.mtype d))) (Operation.set_size d (scalar xs rs1))

      go : (b : Bool) → eqb rs1 0 ≡ b → (c : Bool) → eqb rd 0 ≡ c → leaves (stepped b c).answer (stepped b c).machine (written b c) regs marks mem ≡ here
      go true eb true ec = cut-outcome d (e ∙ ap₂ asked eb ec) (er ∙ eqb-true rd 0 ec)
      go true eb false ec = size-outcome d (maximum (ours m) m.mtype d) rd (e ∙ ap₂ asked eb ec) er
      go false eb c ec = size-outcome d (scalar xs rs1) rd (e ∙ ap₂ asked eb ec) er

  -- one that writes registers
  pub loads-outcome : (o : Operation) → meant (ours m) i xs B ≡ o → destination i ≡ 0 → (a : Answer) (regs' marks' : List ℕ) → WritesRegisters m o regs marks mem a regs' marks'
      → memory_after (ours m) o (state_of m regs marks) mem ≡ mem → machine_after m (state_after (ours m) o (state_of m regs marks) mem) ≡ m
      → leaves a m xs regs' marks' mem ≡ here
  loads-outcome o e er a regs' marks' l no-memory no_number =
      outcome-of (ours m) i xs B good t a regs' marks' mem
      (l.answer-is (sealed seals) ∙ ap (λ (o : Operation). verdict (checks (ours m) (sealed seals) o (state_of m regs marks) mem)) (sym e))
      (l.registers-are ∙ ap (λ (o : Operation). cond (is_done a) (state_after (ours m) o (state_of m regs marks) mem).regs regs) (sym e))
      (l.marks-are ∙ ap (λ (o : Operation). cond (is_done a) (state_after (ours m) o (state_of m regs marks) mem).marks marks) (sym e))
      (same (is_done a) mem ∙ ap (λ (q : List ℕ). cond (is_done a) q mem) (sym no-memory ∙ ap (λ (o : Operation). memory_after (ours m) o (state_of m regs marks) mem) (sym e)))
      (ap (λ (o : Operation). machine_after m (state_after (ours m) o (state_of m regs marks) mem)) e ∙ no_number)
      (ap (λ (rd : ℕ). with_scalar xs rd (result_of (ours m) (meant (ours m) i xs B) (given (ours m) i xs B))) er)

  -- and one that writes memory
  pub stores-outcome : (o : Operation) → meant (ours m) i xs B ≡ o → destination i ≡ 0 → (a : Answer) (mem' : List ℕ) → WritesMemory m o regs marks mem (sealed seals) a mem'
      → state_after (ours m) o (state_of m regs marks) mem ≡ state_of m regs marks
      → leaves a m xs regs marks mem' ≡ here
  stores-outcome o e er a mem' l no-state =
      let st : State = state_of m regs marks in
      let k : left (ours m) i xs B ≡ st = ap (λ (o : Operation). state_after (ours m) o st mem) e ∙ no-state in
      outcome-of (ours m) i xs B good t a regs marks mem'
      (l.answer-is ∙ ap (λ (o : Operation). verdict (checks (ours m) (sealed seals) o st mem)) (sym e))
      (same (is_done a) regs ∙ ap (λ (z : State). cond (is_done a) z.regs regs) (sym k))
      (same (is_done a) marks ∙ ap (λ (z : State). cond (is_done a) z.marks marks) (sym k))
      (l.memory-is ∙ ap (λ (o : Operation). cond (is_done a) (memory_after (ours m) o st mem) mem) (sym e))
      (ap (machine_after m) k)
      (ap (λ (rd : ℕ). with_scalar xs rd (result_of (ours m) (meant (ours m) i xs B) (given (ours m) i xs B))) er)

-- ---- answer 8 of a step, and its word

pub step-fault : (word : ℕ) (xs : List ℕ) (B : Bench) → sound_bench B ≡ false → step word xs B ≡ record { answer = reply (Err BadArguments); bench = B; scalars = xs }
step-fault word xs B h = step-refused chosen word xs B (Err BadArguments) refl (rw h)

pub step-scalars : (word : ℕ) (xs : List ℕ) (B : Bench) → sound_bench B ≡ true → thirty_two xs ≡ false → step word xs B ≡ record { answer = reply (Err BadArguments); bench = B; scalars = xs }
step-scalars word xs B h t = step-refused chosen word xs B (Err BadArguments) refl (rw (h, t))

pub step-decoded : (word : ℕ) (xs : List ℕ) (B : Bench) (i : Instruction) → i ≡ decode word → outcome (ours B.machine) i xs B ≡ step word xs B
unfolding step_by
step-decoded word xs B i e = ap (λ (i : Instruction). outcome (ours B.machine) i xs B) e
