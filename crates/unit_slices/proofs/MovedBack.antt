-- A slice moved out and at once moved back leaves the accumulator as it was.
use Rattle.numbers.proofs.Kit.{◌≡◌, refl, sym, ap, ap₂, ◌∙◌, subst, Bool, true, false, cond, List, [], ◌∷◌, ℕ, ◌+◌, ◌*◌, ◌%◌, ◌^◌, ◌≤◌, ◌<◌, mod-eq_of_lt}
use Rattle.numbers.proofs.Kit.{mul-le-mul_right, arith, ltb, length, get_or, leb-true, ltb-true}
use Rattle.numbers.specs.Blocks.{Choice}
use Rattle.numbers.specs.Tile.{put_tile}
use Rattle.numbers.proofs.TileLaws.{put_tile-le, pitched, le-lt}
use Rattle.machine.specs.declared.Form.{Form}
use Rattle.machine.specs.declared.Form.TheVariants.{Plain, Transposed}
use Rattle.machine.specs.declared.Wrong.TheVariants.{Register}
use Rattle.machine.specs.declared.Instruction.{Instruction}
use Rattle.machine.specs.declared.Instruction.TheVariants.{MoveOut, MoveIn}
use Rattle.machine.specs.Geometry.{sealed, Parameters, parameters, State, state_of, Bench, bench_of, scalar, with_scalar, machine_after}
use Rattle.machine.specs.Vectors.{Vectors, vectors_of, vector_at, vector_bytes, aligned}
use Rattle.machine.specs.Setting.{sew}
use Rattle.machine.specs.Operation.{Operation, placed, element, memory_rows, memory_cols}
use Rattle.machine.specs.MoveWords.{line_of, slice_at, slice_rows, slice_cols}
use Rattle.machine.specs.Meanings.{state_after, memory_after, vectors_after, result_of, checks}
use Rattle.machine.specs.Answers.{reply, Done}
use Rattle.machine.specs.Step
use Rattle.machine.specs.Step.{VectorOutcome, beside, step_with}
use Rattle.machine.specs.Theorems.{Given}
use Rattle.machine.proofs.TestLaws.{false-true, every-each}
use Rattle.machine.proofs.CheckLaws.{Passed}
use Rattle.machine.proofs.CodeLaws.{bounded, decode-bounded}
use Rattle.machine.proofs.Stores.{Accepted, accepted-with}
use Rattle.unit_slices.specs.MovedBack.{Slice, OutAndBack, Restored, OutAndBackRestores, after_out, after_back}
use Rattle.unit_slices.proofs.GroupLaws.{group-room}
use Rattle.unit_slices.proofs.TileLaws.{put_tile-values, put_tile-self, mark_tile-self}

-- ---- the definitions: a slice out and back

module _ (M : Parameters) (f : Form) (r v first count : ℕ) (st : State) (file : List ℕ) where
  abbrev w : ℕ
  w = sew st.mtype

  abbrev at : ℕ → ℕ
  at = slice_at M f r first w

  abbrev rows : ℕ
  rows = slice_rows f st count

  abbrev cols : ℕ
  cols = slice_cols f st count

  abbrev file' : List ℕ
  file' = vectors_after M (Operation.move_out f r v first count) st file

  module _ (bytes : (q : ℕ) → get_or st.regs q 0 < 256) (line-fits : line_of f st * w ≤ vector_bytes) (room : v * vector_bytes + count * vector_bytes ≤ length file) where
    -- what a register of the group holds
    held : (g e : ℕ) → g < count → e < line_of f st → element file' (vector_at v) w g e ≡ placed f (element st.regs at w) g e % 256 ^ w
    held g e l k =
        put_tile-le (vector_at v) count (line_of f st) w (placed f (element st.regs at w)) file g l (omega (arith, mul-le-mul_right vector_bytes l)) e k
        (λ h n m q x y. pitched (v * vector_bytes) vector_bytes (line_of f st * w) line-fits g h m q x y)

    small : (i j : ℕ) → element st.regs at w i j % 256 ^ w ≡ element st.regs at w i j
    small i j = mod-eq_of_lt (le-lt st.regs bytes (at i + j * w) w)

    -- each element comes back
    back : (i j : ℕ) → i < rows → j < cols → placed f (element file' (vector_at v) w) i j ≡ element st.regs at w i j
    back = by f held
      where
        by : (f : Form) → ((g e : ℕ) → g < count → e < line_of f st → element file' (vector_at v) w g e ≡ placed f (element st.regs at w) g e % 256 ^ w)
            → (i j : ℕ) → i < memory_rows f count (line_of f st) → j < memory_cols f count (line_of f st) → placed f (element file' (vector_at v) w) i j ≡ element st.regs at w i j
        by Plain h i j l k = h i j l k ∙ small i j
        by Transposed h i j l k = h j i k l ∙ small i j

    pub registers-back : put_tile at rows cols w (placed f (element file' (vector_at v) w)) st.regs ≡ st.regs
    registers-back = put_tile-values at rows cols w _ _ st.regs back ∙ put_tile-self at rows cols w st.regs bytes

-- ---- two words

module _ (grant : Choice) (S : Slice) (out : Given) (back-word : ℕ) (ys : List ℕ) (B : Bench) (h : OutAndBack grant S out back-word ys B) where
  abbrev N : Parameters
  N = parameters grant B.machine

  abbrev W : Vectors
  W = out.vectors

  abbrev xs : List ℕ
  xs = out.scalars

  abbrev lies : State
  lies = state_of B.machine B.registers B.marks

  abbrev i₁ : Instruction
  i₁ = MoveOut S.form S.vector S.accumulator S.out_first

  abbrev i₂ : Instruction
  i₂ = MoveIn S.form S.accumulator S.vector S.back-first

  A : Accepted grant i₁ xs W B (after_out grant S out back-word ys B)
  A = accepted-with grant out.word i₁ xs W B h.moves_out h.out-accepted

  abbrev moved : Operation
  moved = Operation.move_out S.form S.accumulator S.vector (scalar xs S.out_first) W.group

  -- the group is aligned, else the word is refused with 12
  on-group : aligned W S.vector ≡ true
  on-group = go (aligned W S.vector) A.passes
    where
      go : (t : Bool) → Passed (checks N (sealed B.seals) (cond t moved (Operation.illegal Register)) lies B.memory) → t ≡ true
      go true p = refl
      go false p = absurd (false-true p.0)

  passes : Passed (checks N (sealed B.seals) moved lies B.memory)
  passes = subst (λ (t : Bool). Passed (checks N (sealed B.seals) (cond t moved (Operation.illegal Register)) lies B.memory)) on-group A.passes

  -- what the first word leaves
  abbrev file₁ : List ℕ
  file₁ = vectors_after N moved lies W.file

  abbrev leaving : List ℕ → Bench → List ℕ → VectorOutcome
  leaving scalars C file = beside file (record { answer = reply Done; bench = C; scalars = scalars })

  left_out : after_out grant S out back-word ys B ≡ leaving xs B file₁
  left_out = A.leaves ∙ ap (λ (t : Bool). by (cond t moved (Operation.illegal Register))) on-group
    where
      by : Operation → VectorOutcome
      by o = leaving (with_scalar xs 0 (result_of N o lies))
          (bench_of (machine_after B.machine (state_after N o lies B.memory)) B.seals
          (state_after N o lies B.memory).regs (state_after N o lies B.memory).marks
          (memory_after N o lies B.memory))
          (vectors_after N o lies W.file)

  -- the second word
  abbrev W₂ : Vectors
  W₂ = vectors_of file₁ W.group

  second : after_back grant S out back-word ys B ≡ step_with grant back-word ys W₂ B
  second = ap (λ (o : VectorOutcome). step_with grant back-word ys (vectors_of o.vectors W.group) o.bench) left_out

  A₂ : Accepted grant i₂ ys W₂ B (step_with grant back-word ys W₂ B)
  A₂ = accepted-with grant back-word i₂ ys W₂ B h.moves-back (ap (λ (o : VectorOutcome). o.answer.number) (sym second) ∙ h.back-accepted)

  abbrev returned : ℕ → Operation
  returned first = Operation.move_in S.form S.accumulator S.vector first W.group file₁

  abbrev after : ℕ → State
  after first = state_after N (returned first) lies B.memory

  left_back : step_with grant back-word ys W₂ B ≡ leaving ys (bench_of B.machine B.seals (after (scalar xs S.out_first)).regs (after (scalar xs S.out_first)).marks B.memory) file₁
  left_back =
      A₂.leaves ∙ ap (λ (t : Bool). by (cond t (returned (scalar ys S.back-first)) (Operation.illegal Register))) on-group
      ∙ ap (λ (first : ℕ). leaving ys (bench_of B.machine B.seals (after first).regs (after first).marks B.memory) file₁) h.same_first
    where
      by : Operation → VectorOutcome
      by o = leaving (with_scalar ys 0 (result_of N o lies))
          (bench_of (machine_after B.machine (state_after N o lies B.memory)) B.seals
          (state_after N o lies B.memory).regs (state_after N o lies B.memory).marks
          (memory_after N o lies B.memory))
          (vectors_after N o lies file₁)

  vector-small : S.vector < 32
  vector-small =
      let b = (decode-bounded out.word).0 in
      let c : bounded i₁ ≡ true = subst (λ (i : Instruction). bounded i ≡ true) h.moves_out b in
      ltb-true S.vector 32 (every-each (ltb S.vector 32 ∷ ltb S.out_first 32 ∷ []) c).0

  regs_same : (after (scalar xs S.out_first)).regs ≡ B.registers
  regs_same =
      registers-back N S.form S.accumulator S.vector (scalar xs S.out_first) W.group lies W.file h.bytes
      (leb-true (line_of S.form lies * sew B.machine.mtype) vector_bytes passes.1.1.1.1.0)
      (group-room W A.fit S.vector on-group vector-small)

  marks-same : (after (scalar xs S.out_first)).marks ≡ B.marks
  marks-same =
      mark_tile-self (slice_at N S.form S.accumulator (scalar xs S.out_first) (sew B.machine.mtype)) (slice_rows S.form lies W.group)
      (slice_cols S.form lies W.group * sew B.machine.mtype) B.marks passes.1.1.1.1.1.0

  restored : step_with grant back-word ys W₂ B ≡ leaving ys B file₁
  restored = left_back ∙ ap₂ (λ (regs marks : List ℕ). leaving ys (bench_of B.machine B.seals regs marks B.memory) file₁) regs_same marks-same

  pub out-and-back : Restored grant S out back-word ys B
  out-and-back =
      let e : after_back grant S out back-word ys B ≡ leaving ys B file₁ = second ∙ restored in
      record {
        same-bench = ap (λ (o : VectorOutcome). o.bench) e;
        same-vectors = ap (λ (o : VectorOutcome). o.vectors) e ∙ sym (ap (λ (o : VectorOutcome). o.vectors) left_out);
        same-scalars = (ap (λ (o : VectorOutcome). o.scalars) left_out, ap (λ (o : VectorOutcome). o.scalars) e);
      }

pub out-and-back-restores : OutAndBackRestores
out-and-back-restores grant S out back-word ys B h = out-and-back grant S out back-word ys B h
