-- The outcome of a move from its parts, in a state that is not at fault; and of any other instruction beside a vector file.
use Rattle.numbers.proofs.Kit.{◌≡◌, refl, sym, ap, ap₂, ◌∙◌, Bool, true, false, cond, List, [], ℕ, eqb}
use Rattle.machine.specs.declared.Machine.{Machine}
use Rattle.machine.specs.declared.Form.{Form}
use Rattle.machine.specs.declared.Wrong.TheVariants.{Register}
use Rattle.machine.specs.declared.Instruction.{Instruction}
use Rattle.machine.specs.declared.Instruction.TheVariants.{Illegal, SetTypeImmediate, SetType, SetTileImmediate, SetTile, Load, Store, Multiply, Combine, Scale, ScaleImmediate, FloatMultiply, MoveOut, MoveIn}
use Rattle.machine.specs.Answers.{Check, reply, verdict, is_done, Answer, Done}
use Rattle.machine.specs.Geometry.{Range, sealed, Parameters, State, state_of, machine_after, Bench, bench_of, with_scalar}
use Rattle.machine.specs.Vectors.{Vectors, aligned}
use Rattle.machine.specs.Operation.{Operation}
use Rattle.machine.specs.Meanings.{state_after, memory_after, vectors_after, result_of, checks}
use Rattle.machine.specs.Faults.{sound, seals_fit, thirty_two}
use Rattle.machine.specs.Step
use Rattle.machine.specs.Step.{Outcome, VectorOutcome, beside, outcome, outcome_in, vectors_in, checks_in, meant_in, given_in, destination}
use Rattle.machine.proofs.TestLaws.{false-true}
use Rattle.machine.proofs.CodeLaws.{only-done}
use Rattle.unit_settings.specs.Parts.{ours}
use Rattle.unit_moves.specs.Parts.{moved, Moves}
use Rattle.unit_step.specs.Parts.{carried_beside}

-- ---- an instruction that is no move

abbrev pub is_move : Instruction → Bool
is_move (Illegal wrong) = false
is_move (SetTypeImmediate rd immediate) = false
is_move (SetType rd rs1) = false
is_move (SetTileImmediate dimension rd immediate) = false
is_move (SetTile dimension rd rs1) = false
is_move (Load form matrix width md rs1 rs2) = false
is_move (Store form matrix width ms3 rs1 rs2) = false
is_move (Multiply factor md ms1 ms2) = false
is_move (Combine sum factor md ms1) = false
is_move (Scale factor md ms1 rs2) = false
is_move (ScaleImmediate factor md ms1 immediate) = false
is_move (FloatMultiply md ms1 ms2) = false
is_move (MoveOut form vd ms1 rs2) = true
is_move (MoveIn form md vs1 rs2) = true

module _ (W : Vectors) (M : Parameters) (xs : List ℕ) (B : Bench) where
  -- nothing changes, whether it is carried out or not
  stays : (t : Bool) → W.file ≡ cond t W.file W.file
  stays true = refl
  stays false = refl

  file-stays : (i : Instruction) → is_move i ≡ false → W.file ≡ vectors_in W M i xs B
  file-stays i n = go i n (is_done (verdict (checks_in W M i xs B)))
    where
      asked : (a b t : Bool) (o p q : Operation) → vectors_after M o (given_in W M i xs B) W.file ≡ W.file → vectors_after M p (given_in W M i xs B) W.file ≡ W.file
          → vectors_after M q (given_in W M i xs B) W.file ≡ W.file → W.file ≡ cond t (vectors_after M (cond a (cond b o p) q) (given_in W M i xs B) W.file) W.file
      asked true true t o p q eo ep eq = stays t ∙ ap (λ (x : List ℕ). cond t x W.file) (sym eo)
      asked true false t o p q eo ep eq = stays t ∙ ap (λ (x : List ℕ). cond t x W.file) (sym ep)
      asked false b t o p q eo ep eq = stays t ∙ ap (λ (x : List ℕ). cond t x W.file) (sym eq)

      go : (i : Instruction) → is_move i ≡ false → (t : Bool) → W.file ≡ cond t (vectors_after M (meant_in W M i xs B) (given_in W M i xs B) W.file) W.file
      go (Illegal wrong) n t = stays t
      go (SetTypeImmediate rd immediate) n t = stays t
      go (SetType rd rs1) n t = stays t
      go (SetTileImmediate dimension rd immediate) n t = stays t
      go (SetTile dimension rd rs1) n t = asked (eqb rs1 0) (eqb rd 0) t _ _ _ refl refl refl
      go (Load form matrix width md rs1 rs2) n t = stays t
      go (Store form matrix width ms3 rs1 rs2) n t = stays t
      go (Multiply factor md ms1 ms2) n t = stays t
      go (Combine sum factor md ms1) n t = stays t
      go (Scale factor md ms1 rs2) n t = stays t
      go (ScaleImmediate factor md ms1 immediate) n t = stays t
      go (FloatMultiply md ms1 ms2) n t = stays t
      go (MoveOut form vd ms1 rs2) n t = absurd (false-true (sym n))
      go (MoveIn form md vs1 rs2) n t = absurd (false-true (sym n))

  -- it is what it is without one
  outcome-stays : (i : Instruction) → is_move i ≡ false → outcome M i xs B ≡ outcome_in W M i xs B
  unfolding outcome
  outcome-stays (Illegal wrong) n = refl
  outcome-stays (SetTypeImmediate rd immediate) n = refl
  outcome-stays (SetType rd rs1) n = refl
  outcome-stays (SetTileImmediate dimension rd immediate) n = refl
  outcome-stays (SetTile dimension rd rs1) n = refl
  outcome-stays (Load form matrix width md rs1 rs2) n = refl
  outcome-stays (Store form matrix width ms3 rs1 rs2) n = refl
  outcome-stays (Multiply factor md ms1 ms2) n = refl
  outcome-stays (Combine sum factor md ms1) n = refl
  outcome-stays (Scale factor md ms1 rs2) n = refl
  outcome-stays (ScaleImmediate factor md ms1 immediate) n = refl
  outcome-stays (FloatMultiply md ms1 ms2) n = refl
  outcome-stays (MoveOut form vd ms1 rs2) n = absurd (false-true (sym n))
  outcome-stays (MoveIn form md vs1 rs2) n = absurd (false-true (sym n))

  pub other-outcome : (i : Instruction) → is_move i ≡ false → beside W.file (outcome M i xs B) ≡ carried_beside W M i xs B
  other-outcome i n = ap₂ beside (file-stays i n) (outcome-stays i n)

-- ---- a move

module _ (m : Machine) (seals : List Range) (i : Instruction) (xs regs marks mem : List ℕ) (W : Vectors) (s : sound m regs marks ≡ true) (fit : seals_fit seals ≡ true) (t : thirty_two xs ≡ true) (to-zero : destination i ≡ 0) where
  abbrev M : Parameters
  M = ours m

  abbrev B : Bench
  B = bench_of m seals regs marks mem

  abbrev st : State
  st = state_of m regs marks

  abbrev checked : List Check
  checked = checks M (sealed seals) (meant_in W M i xs B) st mem

  abbrev out : Answer → VectorOutcome
  out a = beside (cond (is_done a) (vectors_after M (meant_in W M i xs B) st W.file) W.file) (cond (is_done a) (Step.carried_in W M i xs B) (Step.refused_in W M i xs B a))

  out-by : (a : Answer) → verdict checked ≡ a → out a ≡ carried_beside W M i xs B
  out-by a e = rw (s, fit, t) (ap out (sym e))

  abbrev leaving : Answer → (regs marks file : List ℕ) → VectorOutcome
  leaving a regs' marks' file = beside file (record { answer = reply a; bench = bench_of m seals regs' marks' mem; scalars = xs })

  -- of an operation that writes neither memory nor numbers
  moved-outcome : (o : Operation) → meant_in W M i xs B ≡ o → memory_after M o st mem ≡ mem → machine_after m (state_after M o st mem) ≡ m
      → (a : Answer) (regs' marks' file' : List ℕ) → a ≡ verdict (checks M (sealed seals) o st mem)
      → regs' ≡ cond (is_done a) (state_after M o st mem).regs regs → marks' ≡ cond (is_done a) (state_after M o st mem).marks marks
      → file' ≡ cond (is_done a) (vectors_after M o st W.file) W.file
      → leaving a regs' marks' file' ≡ carried_beside W M i xs B
  moved-outcome o e no-memory no_number a regs' marks' file' ea er em ef =
      go (is_done a) refl ∙ ap (λ (o : Operation). beside (cond (is_done a) (vectors_after M o st W.file) W.file) (cond (is_done a) (done o) (Step.refused_in W M i xs B a))) (sym e)
      ∙ out-by a (ap (λ (o : Operation). verdict (checks M (sealed seals) o st mem)) e ∙ sym ea)
    where
      done : Operation → Outcome
      done o = record {
        answer = reply Done;
        bench = bench_of (machine_after m (state_after M o st mem)) seals (state_after M o st mem).regs (state_after M o st mem).marks (memory_after M o st mem);
        scalars = with_scalar xs (destination i) (result_of M o st);
      }

      go : (d : Bool) → is_done a ≡ d
          → leaving a regs' marks' file' ≡ beside (cond (is_done a) (vectors_after M o st W.file) W.file) (cond (is_done a) (done o) (Step.refused_in W M i xs B a))
      go true d =
          rw d (ap₂ (λ (a : Answer) (f : List ℕ). leaving a regs' marks' f) (only-done a d) (ef ∙ rw d)
          ∙ ap₂ (λ (r k : List ℕ). leaving Done r k (vectors_after M o st W.file)) (er ∙ rw d) (em ∙ rw d)
          ∙ ap₂ (λ (n : Machine) (q : List ℕ). beside (vectors_after M o st W.file) (record { answer = reply Done; bench = bench_of n seals (state_after M o st mem).regs (state_after M o st mem).marks q; scalars = xs })) (sym no_number) (sym no-memory)
          ∙ ap (λ (rd : ℕ). beside (vectors_after M o st W.file) (record {
            answer = reply Done;
            bench = bench_of (machine_after m (state_after M o st mem)) seals (state_after M o st mem).regs (state_after M o st mem).marks (memory_after M o st mem);
            scalars = with_scalar xs rd (result_of M o st);
          })) (sym to-zero))
      go false d =
          rw d (ap (leaving a regs' marks') (ef ∙ rw d) ∙ ap₂ (λ (r k : List ℕ). leaving a r k W.file) (er ∙ rw d) (em ∙ rw d))

  module _ (inward : Bool) (f : Form) (r v first : ℕ) where
    -- by whether the group is aligned, and the way
    abbrev by : Bool → Bool → Operation
    by t u = cond t (cond u (Operation.move_in f r v first W.group W.file) (Operation.move_out f r v first W.group)) (Operation.illegal Register)

    -- it asks nothing of memory, and leaves that and the numbers
    same-checks : (t u : Bool) → checks M (sealed seals) (by t u) st [] ≡ checks M (sealed seals) (by t u) st mem
    same-checks true true = refl
    same-checks true false = refl
    same-checks false u = refl

    same-state : (t u : Bool) → state_after M (by t u) st [] ≡ state_after M (by t u) st mem
    same-state true true = refl
    same-state true false = refl
    same-state false u = refl

    same_memory : (t u : Bool) → memory_after M (by t u) st mem ≡ mem
    same_memory true true = refl
    same_memory true false = refl
    same_memory false u = refl

    same_numbers : (t u : Bool) → machine_after m (state_after M (by t u) st mem) ≡ m
    same_numbers true true = refl
    same_numbers true false = refl
    same_numbers false u = refl

    pub slice-outcome : meant_in W M i xs B ≡ moved inward W f r v first → (a : Answer) (regs' marks' file' : List ℕ)
        → Moves m (moved inward W f r v first) regs marks W.file a regs' marks' file' → leaving a regs' marks' file' ≡ carried_beside W M i xs B
    slice-outcome e a regs' marks' file' l =
        let al : Bool = aligned W v in
        let k = l.inside in
        moved-outcome (by al inward) e (same_memory al inward) (same_numbers al inward) a regs' marks' file'
        (k.answer-is (sealed seals) ∙ ap verdict (same-checks al inward))
        (k.registers-are ∙ ap (λ (z : State). cond (is_done a) z.regs regs) (same-state al inward))
        (k.marks-are ∙ ap (λ (z : State). cond (is_done a) z.marks marks) (same-state al inward))
        l.outside.vectors-are
