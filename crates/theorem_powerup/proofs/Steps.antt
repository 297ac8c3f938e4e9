-- Request Nine: what a word answers, leaves in the scalars and in memory, and marks does not depend on unmarked register bytes.
-- A new instruction adds a case to `meant-same` (by refl) and one to `unseen`.
use Rattle.numbers.proofs.Kit.{◌≡◌, refl, sym, ap, ap₂, ◌∙◌, subst, Bool, true, false, cond, ◌&&◌, List, [], ◌∷◌, ℕ, zero, suc, ◌*◌, ◌^◌, ◌<◌, mul-pos}
use Rattle.numbers.proofs.Kit.{one-mul, arith, eqb, ltb, length, ℤ, pos, negsuc, ◌+ℤ◌, ◌*ℤ◌, *ℤ-zero, ne_eqb, Err}
use Rattle.numbers.specs.Blocks.{Choice}
use Rattle.numbers.specs.Reduce.{signed, reduce}
use Rattle.numbers.specs.Binary32.{float_product}
use Rattle.numbers.proofs.ReduceLaws.{sumℤ-cong}
use Rattle.numbers.proofs.Binary32Laws.{product-cong}
use Rattle.machine.specs.declared.Refusal.TheVariants.{BadArguments, TooManySeals}
use Rattle.machine.specs.declared.Machine.{Machine}
use Rattle.machine.specs.declared.Dimension.{Dimension}
use Rattle.machine.specs.declared.Dimension.TheVariants.{DimensionM, DimensionK, DimensionN}
use Rattle.machine.specs.declared.Form.{Form}
use Rattle.machine.specs.declared.Form.TheVariants.{Plain, Transposed}
use Rattle.machine.specs.declared.Instruction.{Instruction}
use Rattle.machine.specs.declared.Instruction.TheVariants.{Illegal, SetTypeImmediate, SetType, SetTileImmediate, SetTile, Load, Store, Multiply, Combine, Scale, ScaleImmediate, FloatMultiply, MoveOut, MoveIn}
use Rattle.machine.specs.Answers.{reply, Check, ◌otherwise◌, verdict, is_done, Answer, Done}
use Rattle.machine.specs.Geometry.{Range, sealed, Parameters, parameters, State, machine_after, Bench, bench_of, register_at, tile_at, acc_at, with_scalar}
use Rattle.machine.specs.Setting.{sew, maximum, size_in, smaller}
use Rattle.machine.specs.Listing.{decode}
use Rattle.machine.specs.Memory.{row_at}
use Rattle.machine.specs.Operation.{Operation, operation_in, element, written, rows_of, columns_of, tile_rows, tile_cols, memory_rows, memory_cols, placed}
use Rattle.machine.specs.SettingWords.{resized}
use Rattle.machine.specs.ArithmeticWords.{product_at, float_product_at, sum_of, is_zero}
use Rattle.machine.specs.MoveWords.{slice_at}
use Rattle.machine.specs.Meanings.{state_after, memory_after, vectors_after, result_of, checks}
use Rattle.machine.specs.Refusals.{marked, needs}
use Rattle.machine.specs.Faults.{sound, seals_fit, sound_bench, thirty_two}
use Rattle.machine.specs.Starting.{seal_ends, most_seals}
use Rattle.machine.specs.Sealing.{add_seal, seal_checks, with_seal}
use Rattle.machine.specs.Vectors.{Vectors, vectors_of, vectors_fit, vector_at, idle}
use Rattle.machine.specs.Step
use Rattle.machine.specs.Step.{Outcome, outcome, step_by, VectorOutcome, beside, outcome_in, vectors_in, step_with, given_in, meant_in, destination}
use Rattle.machine.specs.Alike.{Agree}
use Rattle.machine.proofs.TestLaws.{or-not}
use Rattle.machine.proofs.StoreLaws.{stored-puts, store-ends}
use Rattle.machine.proofs.CheckLaws.{Passed, passed}
use Rattle.machine.proofs.Sealing.{refusing}
use Rattle.theorem_powerup.specs.Steps.{AlikeBenches, SameOutcome, EachSame, outcomes, StepIgnoresUnmarked, WordsIgnoreUnmarked, GivenWordsIgnoreUnmarked}
use Rattle.theorem_powerup.proofs.Agree.{element-same, put_tile-cong, tile-agree}

-- ---- states

-- a state with other register bytes
abbrev pub with_regs : State → List ℕ → State
with_regs st ys = record { regs = ys; marks = st.marks; mtype = st.mtype; tile_m = st.tile_m; tile_k = st.tile_k; tile_n = st.tile_n }

-- two states that differ at most in unmarked register bytes
pub record AlikeStates (st st' : State) : Type 0 where
  pub same_rest : with_regs st st'.regs ≡ st'
  pub agree : Agree st.marks st.regs st'.regs

-- ---- one operation

-- an operation cannot tell the register bytes of st from ys: the checks and the result are equal, and where it is carried out,
-- so is the memory, and the states it leaves are alike
pub record Unseen (M : Parameters) (isSealed : ℕ → Bool) (st : State) (ys mem : List ℕ) (o : Operation) : Type 0 where
  pub same-checks : checks M isSealed o st mem ≡ checks M isSealed o (with_regs st ys) mem
  pub same-result : result_of M o st ≡ result_of M o (with_regs st ys)
  pub same_memory : Passed (checks M isSealed o st mem) → memory_after M o st mem ≡ memory_after M o (with_regs st ys) mem
  pub alike-after : Passed (checks M isSealed o st mem) → AlikeStates (state_after M o st mem) (state_after M o (with_regs st ys) mem)
  pub same-file : Passed (checks M isSealed o st mem) → (file : List ℕ) → vectors_after M o st file ≡ vectors_after M o (with_regs st ys) file

-- values that are equal over the tile in the register are so over the tile in memory
placed-cong : (f : Form) (rows cols : ℕ) (v u : ℕ → ℕ → ℕ) → ((i j : ℕ) → i < rows → j < cols → v i j ≡ u i j)
    → (i j : ℕ) → i < memory_rows f rows cols → j < memory_cols f rows cols → placed f v i j ≡ placed f u i j
placed-cong Plain rows cols v u h i j l m = h i j l m
placed-cong Transposed rows cols v u h i j l m = h j i m l

-- the operands of a multiply at an element of C, read from two registers' bytes
pub record SameOperands (M : Parameters) (xs ys : List ℕ) (wide narrow d s t terms i j : ℕ) : Type 0 where
  pub same_old : element xs (acc_at M d) wide i j ≡ element ys (acc_at M d) wide i j
  pub same_left : (k : ℕ) → k < terms → element xs (tile_at M s) narrow i k ≡ element ys (tile_at M s) narrow i k
  pub same-right : (k : ℕ) → k < terms → element xs (tile_at M t) narrow k j ≡ element ys (tile_at M t) narrow k j

-- equal operands, equal values
product-same : (M : Parameters) (xs ys : List ℕ) (wide narrow d s t terms i j : ℕ) → SameOperands M xs ys wide narrow d s t terms i j
    → product_at M xs wide narrow d s t terms i j ≡ product_at M ys wide narrow d s t terms i j
product-same M xs ys wide narrow d s t terms i j e =
    ap₂ (λ (x y : ℤ). reduce (256 ^ wide) (x +ℤ y))
    (ap (signed (256 ^ wide)) e.same_old)
    (sumℤ-cong terms
    (λ k. signed (256 ^ narrow) (element xs (tile_at M s) narrow i k) *ℤ signed (256 ^ narrow) (element xs (tile_at M t) narrow k j))
    (λ k. signed (256 ^ narrow) (element ys (tile_at M s) narrow i k) *ℤ signed (256 ^ narrow) (element ys (tile_at M t) narrow k j))
    (λ k l. ap₂ (λ (x y : ℕ). signed (256 ^ narrow) x *ℤ signed (256 ^ narrow) y) (e.same_left k l) (e.same-right k l)))

float_same : (M : Parameters) (xs ys : List ℕ) (w d s t terms i j : ℕ) → SameOperands M xs ys w w d s t terms i j
    → float_product_at M xs w d s t terms i j ≡ float_product_at M ys w d s t terms i j
float_same M xs ys w d s t terms i j e =
    ap (λ (o : ℕ). float_product terms o (λ k. element xs (tile_at M s) w i k) (λ k. element xs (tile_at M t) w k j)) e.same_old
    ∙ product-cong (element ys (acc_at M d) w i j) terms (λ k. element xs (tile_at M s) w i k) (λ k. element xs (tile_at M t) w k j)
    (λ k. element ys (tile_at M s) w i k) (λ k. element ys (tile_at M t) w k j) e.same_left e.same-right

-- a multiplier of 0 makes 0 of any element; any other is given equal ones
zero-or-same : (n u v : ℕ) (x : ℤ) → (is_zero x ≡ false → u ≡ v) → signed n u *ℤ x ≡ signed n v *ℤ x
zero-or-same n u v (pos zero) e = *ℤ-zero (signed n u) ∙ sym (*ℤ-zero (signed n v))
zero-or-same n u v (pos (suc x)) e = ap (λ (y : ℕ). signed n y *ℤ pos (suc x)) (e refl)
zero-or-same n u v (negsuc x) e = ap (λ (y : ℕ). signed n y *ℤ negsuc x) (e refl)

module _ (M : Parameters) (st : State) (ys mem : List ℕ) (a : Agree st.marks st.regs ys) where
  -- elements of a tile that a check has found marked are read alike
  read : (at : ℕ → ℕ) (rows cols w : ℕ) (unless : Bool) → (needs unless st.marks at rows cols w).holds ≡ true → unless ≡ false
      → (i j : ℕ) → i < rows → j < cols → element st.regs at w i j ≡ element ys at w i j
  read at rows cols w unless h e = element-same st.marks st.regs ys a at rows cols w (or-not unless (marked st.marks at rows (cols * w)) h e)

  -- a tile of equal values written
  wrote : (at : ℕ → ℕ) (rows cols w : ℕ) (f g : ℕ → ℕ → ℕ) → ((i j : ℕ) → i < rows → j < cols → f i j ≡ g i j)
      → AlikeStates (written st at rows cols w f) (written (with_regs st ys) at rows cols w g)
  wrote at rows cols w f g e = record { same_rest = refl; agree = tile-agree at rows cols w f g st.marks st.regs ys e a }

  -- the sizes, by a dimension that is not known
  size_same : (d : Dimension) → size_in d (with_regs st ys) ≡ size_in d st
  size_same DimensionM = refl
  size_same DimensionK = refl
  size_same DimensionN = refl

  -- a size set
  sized-alike : (d : Dimension) (n : ℕ) → AlikeStates (resized d n st) (resized d n (with_regs st ys))
  sized-alike DimensionM n = record { same_rest = refl; agree = a }
  sized-alike DimensionK n = record { same_rest = refl; agree = a }
  sized-alike DimensionN n = record { same_rest = refl; agree = a }

  -- the operands of a multiply, of any kind, at each element that it writes
  operands_same : (wide narrow d s t : ℕ)
      → (needs (eqb (st.tile_m * st.tile_n) 0) st.marks (tile_at M s) st.tile_m st.tile_k narrow).holds ≡ true
      → (needs (eqb (st.tile_m * st.tile_n) 0) st.marks (tile_at M t) st.tile_k st.tile_n narrow).holds ≡ true
      → (needs false st.marks (acc_at M d) st.tile_m st.tile_n wide).holds ≡ true
      → (i j : ℕ) → i < st.tile_m → j < st.tile_n → SameOperands M st.regs ys wide narrow d s t st.tile_k i j
  operands_same wide narrow d s t hs ht hd i j l m =
      let some : eqb (st.tile_m * st.tile_n) 0 ≡ false = ne_eqb (st.tile_m * st.tile_n) 0 (λ z. omega (arith, mul-pos {m = st.tile_m} {n = st.tile_n} (omega arith) (omega arith))) in
      record {
        same_old = read (acc_at M d) st.tile_m st.tile_n wide false hd refl i j l m;
        same_left = λ k n. read (tile_at M s) st.tile_m st.tile_k narrow (eqb (st.tile_m * st.tile_n) 0) hs some i k l n;
        same-right = λ k n. read (tile_at M t) st.tile_k st.tile_n narrow (eqb (st.tile_m * st.tile_n) 0) ht some k j n m;
      }

  kept : AlikeStates st (with_regs st ys)
  kept = record { same_rest = refl; agree = a }

  pub unseen : (z : ℕ → Bool) (o : Operation) → Unseen M z st ys mem o
  unseen z (Operation.illegal wrong) = record { same-checks = refl; same-result = refl; same_memory = λ p. refl; alike-after = λ p. kept; same-file = λ p file. refl }
  unseen z (Operation.set_type v) = record { same-checks = refl; same-result = refl; same_memory = λ p. refl; alike-after = λ p. record { same_rest = refl; agree = a }; same-file = λ p file. refl }
  unseen z (Operation.set_size d n) = record { same-checks = refl; same-result = refl; same_memory = λ p. refl; alike-after = λ p. sized-alike d (M.grant (maximum M st.mtype d) n); same-file = λ p file. refl }
  unseen z (Operation.cut_size d) = record {
    same-checks = refl;
    same-result = refl;
    same_memory = λ p. refl;
    alike-after = λ p. rw (size_same d) (sized-alike d (smaller (maximum M st.mtype d) (size_in d st)));
    same-file = λ p file. refl;
  }
  unseen z (Operation.load f k r w b s) = record {
    same-checks = rw (size_same (rows_of k), size_same (columns_of k));
    same-result = refl;
    same_memory = λ p. refl;
    alike-after = λ p. rw (size_same (rows_of k), size_same (columns_of k)) (wrote (register_at M k r) _ _ w _ _ (λ i j l m. refl));
    same-file = λ p file. refl;
  }
  unseen z (Operation.store f k r w b s) = record {
    same-checks = rw (size_same (rows_of k), size_same (columns_of k));
    same-result = refl;
    same_memory = λ p.
        let apart = p.1.1.1.1.1.1.0 in
        let ends = store-ends M z st mem f k r w b s p in
        rw (size_same (rows_of k), size_same (columns_of k))
        (stored-puts (row_at b s) _ _ w _ mem apart ends
        ∙ put_tile-cong (row_at b s) _ _ w _ _ mem (placed-cong f (tile_rows st k) (tile_cols st k) (element st.regs (register_at M k r) w) (element ys (register_at M k r) w)
        (read (register_at M k r) (tile_rows st k) (tile_cols st k) w false p.1.1.1.1.0 refl))
        ∙ sym (stored-puts (row_at b s) _ _ w _ mem apart ends));
    alike-after = λ p. kept;
    same-file = λ p file. refl;
  }
  unseen z (Operation.multiply f d s t) = record {
    same-checks = refl;
    same-result = refl;
    same_memory = λ p. refl;
    alike-after = λ p.
        let q = p.1.1.1.1.1 in
        wrote (acc_at M d) _ _ _ _ _ (λ i j l m.
        product-same M st.regs ys (f * sew st.mtype) (sew st.mtype) d s t st.tile_k i j
        (operands_same (f * sew st.mtype) (sew st.mtype) d s t q.0 q.1.0 q.1.1.0 i j l m));
    same-file = λ p file. refl;
  }
  unseen z (Operation.combine o f d s) = record {
    same-checks = refl;
    same-result = refl;
    same_memory = λ p. refl;
    alike-after = λ p.
        let q = p.1.1.1.1 in
        wrote (acc_at M d) _ _ _ _ _ (λ i j l m.
        ap₂ (λ (x y : ℕ). reduce (256 ^ (f * sew st.mtype)) (sum_of o (signed (256 ^ (f * sew st.mtype)) x) (signed (256 ^ sew st.mtype) y)))
        (read (acc_at M d) st.tile_m st.tile_n (f * sew st.mtype) false q.1.0 refl i j l m)
        (read (acc_at M s) st.tile_m st.tile_n (sew st.mtype) false q.0 refl i j l m));
    same-file = λ p file. refl;
  }
  unseen z (Operation.scale f d s x) = record {
    same-checks = refl;
    same-result = refl;
    same_memory = λ p. refl;
    alike-after = λ p.
        let v = sew st.mtype in
        wrote (acc_at M d) _ _ _ _ _ (λ i j l m.
        ap (reduce (256 ^ (f * v))) (zero-or-same (256 ^ v) (element st.regs (acc_at M s) v i j) (element ys (acc_at M s) v i j) x
        (λ e. read (acc_at M s) st.tile_m st.tile_n v (is_zero x) p.1.1.1.1.0 e i j l m)));
    same-file = λ p file. refl;
  }
  unseen z (Operation.float_multiply d s t) = record {
    same-checks = refl;
    same-result = refl;
    same_memory = λ p. refl;
    alike-after = λ p.
        let q = p.1.1.1.1.1 in
        let v = sew st.mtype in
        let hd = subst (λ (w : ℕ). (needs false st.marks (acc_at M d) st.tile_m st.tile_n w).holds ≡ true) (one-mul v) q.1.1.0 in
        wrote (acc_at M d) _ _ _ _ _ (λ i j l m. float_same M st.regs ys v d s t st.tile_k i j (operands_same v v d s t q.0 q.1.0 hd i j l m));
    same-file = λ p file. refl;
  }
  unseen z (Operation.move_out Plain s v start count) = record {
    same-checks = refl;
    same-result = refl;
    same_memory = λ p. refl;
    alike-after = λ p. kept;
    same-file = λ p file.
        put_tile-cong (vector_at v) count st.tile_n (sew st.mtype) _ _ file (λ i j l m.
        element-same st.marks st.regs ys a (slice_at M Plain s start (sew st.mtype)) count st.tile_n (sew st.mtype) p.1.1.1.1.1.0 i j l m);
  }
  unseen z (Operation.move_out Transposed s v start count) = record {
    same-checks = refl;
    same-result = refl;
    same_memory = λ p. refl;
    alike-after = λ p. kept;
    same-file = λ p file.
        put_tile-cong (vector_at v) count st.tile_m (sew st.mtype) _ _ file (λ i j l m.
        element-same st.marks st.regs ys a (slice_at M Transposed s start (sew st.mtype)) st.tile_m count (sew st.mtype) p.1.1.1.1.1.0 j i m l);
  }
  unseen z (Operation.move_in Plain d v start count source) = record {
    same-checks = refl;
    same-result = refl;
    same_memory = λ p. refl;
    alike-after = λ p. wrote (slice_at M Plain d start (sew st.mtype)) _ _ _ _ _ (λ i j l m. refl);
    same-file = λ p file. refl;
  }
  unseen z (Operation.move_in Transposed d v start count source) = record {
    same-checks = refl;
    same-result = refl;
    same_memory = λ p. refl;
    alike-after = λ p. wrote (slice_at M Transposed d start (sew st.mtype)) _ _ _ _ _ (λ i j l m. refl);
    same-file = λ p file. refl;
  }

-- an instruction means the same operation
meant-same : (W : Vectors) (M : Parameters) (st : State) (ys xs : List ℕ) (i : Instruction) → operation_in W M st xs i ≡ operation_in W M (with_regs st ys) xs i
meant-same W M st ys xs (Illegal wrong) = refl
meant-same W M st ys xs (SetTypeImmediate rd immediate) = refl
meant-same W M st ys xs (SetType rd rs1) = refl
meant-same W M st ys xs (SetTileImmediate dimension rd immediate) = refl
meant-same W M st ys xs (SetTile dimension rd rs1) = refl
meant-same W M st ys xs (Load form matrix width md rs1 rs2) = refl
meant-same W M st ys xs (Store form matrix width ms3 rs1 rs2) = refl
meant-same W M st ys xs (Multiply factor md ms1 ms2) = refl
meant-same W M st ys xs (Combine sum factor md ms1) = refl
meant-same W M st ys xs (Scale factor md ms1 rs2) = refl
meant-same W M st ys xs (ScaleImmediate factor md ms1 immediate) = refl
meant-same W M st ys xs (FloatMultiply md ms1 ms2) = refl
meant-same W M st ys xs (MoveOut form vd ms1 rs2) = refl
meant-same W M st ys xs (MoveIn form md vs1 rs2) = refl

-- ---- one step

-- a bench with other register bytes
abbrev lent : Bench → List ℕ → Bench
lent B ys = bench_of B.machine B.seals ys B.marks B.memory

pub sound-same : (m : Machine) (xs ys ms : List ℕ) → length xs ≡ length ys → sound m xs ms ≡ sound m ys ms
unfolding sound
sound-same m xs ys ms e = rw e

-- and of the ranges too
pub sound-bench-same : (B : Bench) (ys : List ℕ) → length B.registers ≡ length ys → sound_bench B ≡ sound_bench (lent B ys)
sound-bench-same B ys e = ap (λ (t : Bool). t && seals_fit B.seals) (sound-same B.machine B.registers ys B.marks e)

benches-of : (m m' : Machine) (seals : List Range) (st st' : State) (mem mem' : List ℕ) → m ≡ m' → AlikeStates st st' → mem ≡ mem'
    → AlikeBenches (bench_of (machine_after m st) seals st.regs st.marks mem) (bench_of (machine_after m' st') seals st'.regs st'.marks mem')
benches-of m m' seals st st' mem mem' em a e = record {
  alike = record {
    same-machine = ap₂ machine_after em a.same_rest;
    same-seals = refl;
    same-marks = ap (λ (s : State). s.marks) a.same_rest;
    agree = a.agree;
  };
  same_memory = cc;
}

module _ (W : Vectors) (M : Parameters) (i : Instruction) (xs : List ℕ) where
  -- the checks and the outcome of a step, by what the state's test says and what the word means
  abbrev checks_as : Bench → Bool → Operation → List Check
  checks_as B s o = (s otherwise BadArguments) ∷ (thirty_two xs otherwise BadArguments) ∷ checks M (sealed B.seals) o (given_in W M i xs B) B.memory

  abbrev after : Bench → Operation → State
  after B o = state_after M o (given_in W M i xs B) B.memory

  abbrev outcome_as : Bench → Operation → Answer → VectorOutcome
  outcome_as B o a =
      beside (cond (is_done a) (vectors_after M o (given_in W M i xs B) W.file) W.file) (cond (is_done a)
      (record {
        answer = reply Done;
        bench = bench_of (machine_after B.machine (after B o)) B.seals (after B o).regs (after B o).marks (memory_after M o (given_in W M i xs B) B.memory);
        scalars = with_scalar xs (destination i) (result_of M o (given_in W M i xs B));
      })
      (record { answer = reply a; bench = B; scalars = xs }))

  abbrev here : Bench → VectorOutcome
  here B = beside (vectors_in W M i xs B) (outcome_in W M i xs B)

  outcome-same : (B : Bench) (ys : List ℕ) → Agree B.marks B.registers ys → SameOutcome (here B) (here (lent B ys))
  outcome-same B ys a =
      subst (λ (q : Operation). SameOutcome (here B) (outcome_as (lent B ys) q (verdict (checks_as (lent B ys) (sound_bench (lent B ys)) q)))) (meant-same W M (given_in W M i xs B) ys xs i)
      (subst (λ (b : Bool). SameOutcome (here B) (outcome_as (lent B ys) o (verdict (checks_as (lent B ys) b o)))) (sound-bench-same B ys a.same_length)
      (subst (λ (cs : List Check). SameOutcome (here B) (outcome_as (lent B ys) o (verdict ((sound_bench B otherwise BadArguments) ∷ (thirty_two xs otherwise BadArguments) ∷ cs)))) u.same-checks
      (go (is_done (verdict (checks_as B (sound_bench B) o))) refl)))
    where
      o : Operation
      o = meant_in W M i xs B

      u : Unseen M (sealed B.seals) (given_in W M i xs B) ys B.memory o
      u = unseen M (given_in W M i xs B) ys B.memory a (sealed B.seals) o

      v : Answer
      v = verdict (checks_as B (sound_bench B) o)

      go : (t : Bool) → is_done v ≡ t → SameOutcome (outcome_as B o v) (outcome_as (lent B ys) o v)
      go true e =
          let p = passed (checks_as B (sound_bench B) o) (refusing M (sealed B.seals) o (given_in W M i xs B) B.memory) e in
          rw e (record {
            same_answer = refl;
            same-scalars = ap (with_scalar xs (destination i)) u.same-result;
            same-vectors = u.same-file p.1.1 W.file;
            alike-after = benches-of B.machine B.machine B.seals (after B o) (after (lent B ys) o) (memory_after M o (given_in W M i xs B) B.memory) (memory_after M o (given_in W M i xs (lent B ys)) B.memory) refl (u.alike-after p.1.1) (u.same_memory p.1.1);
          })
      go false e =
          rw e (record {
            same_answer = refl;
            same-scalars = refl;
            same-vectors = refl;
            alike-after = record {
              alike = record { same-machine = refl; same-seals = refl; same-marks = refl; agree = a };
              same_memory = refl;
            };
          })

pub lent_is : (B B' : Bench) → AlikeBenches B B' → lent B B'.registers ≡ B'
lent_is B B' t =
    ap₂ (λ (m : Machine) (ms : List ℕ). bench_of m B.seals B'.registers ms B.memory) t.alike.same-machine t.alike.same-marks
    ∙ ap₂ (λ (rs : List Range) (mem : List ℕ). bench_of B'.machine rs B'.registers B'.marks mem) t.alike.same-seals t.same_memory

-- ---- adding a range

pub seal-ignores-unmarked : (start size : ℕ) (B B' : Bench) → AlikeBenches B B'
    → ((add_seal start size B).answer ≡ (add_seal start size B').answer) × AlikeBenches (add_seal start size B).bench (add_seal start size B').bench
unfolding add_seal
seal-ignores-unmarked start size B B' t =
    subst (λ (C : Bench). ((add_seal start size B).answer ≡ (add_seal start size C).answer) × AlikeBenches (add_seal start size B).bench (add_seal start size C).bench) (lent_is B B' t)
    (ap reply v, subst (λ (a : Answer). AlikeBenches (add_seal start size B).bench (cond (is_done a) (with_seal start size C) C)) v (go (is_done (verdict (seal_checks start size B)))))
  where
    C : Bench
    C = lent B B'.registers

    v : verdict (seal_checks start size B) ≡ verdict (seal_checks start size C)
    v = ap (λ (s : Bool). verdict ((s otherwise BadArguments) ∷ (seal_ends start size otherwise BadArguments) ∷ (ltb (length B.seals) most_seals otherwise TooManySeals) ∷ []))
        (sound-bench-same B B'.registers t.alike.agree.same_length)

    go : (d : Bool) → AlikeBenches (cond d (with_seal start size B) B) (cond d (with_seal start size C) C)
    go true = record { alike = record { same-machine = refl; same-seals = refl; same-marks = refl; agree = t.alike.agree }; same_memory = refl }
    go false = record { alike = record { same-machine = refl; same-seals = refl; same-marks = refl; agree = t.alike.agree }; same_memory = refl }

pub step-ignores-unmarked : StepIgnoresUnmarked
unfolding step_with
step-ignores-unmarked grant word xs W B B' t =
    subst (λ (C : Bench). SameOutcome (step_with grant word xs W B) (step_with grant word xs W C)) (lent_is B B' t) (go (vectors_fit W))
  where
    M : Parameters
    M = parameters grant B.machine

    C : Bench
    C = lent B B'.registers

    go : (f : Bool) → SameOutcome (cond f (here W M (decode word) xs B) (beside W.file (Step.refused_in W M (decode word) xs B (Err BadArguments))))
        (cond f (here W M (decode word) xs C) (beside W.file (Step.refused_in W M (decode word) xs C (Err BadArguments))))
    go true = outcome-same W M (decode word) xs B B'.registers t.alike.agree
    go false = record {
      same_answer = refl;
      same-scalars = refl;
      same-vectors = refl;
      alike-after = record {
        alike = record { same-machine = refl; same-seals = refl; same-marks = refl; agree = t.alike.agree };
        same_memory = refl;
      };
    }

-- of a step that is lent no vector file
pub record SameBy (o o' : Outcome) : Type 0 where
  pub same_answer : o.answer ≡ o'.answer
  pub same-scalars : o.scalars ≡ o'.scalars
  pub alike-after : AlikeBenches o.bench o'.bench

pub step-by-ignores-unmarked : (grant : Choice) (word : ℕ) (xs : List ℕ) (B B' : Bench) → AlikeBenches B B' → SameBy (step_by grant word xs B) (step_by grant word xs B')
unfolding step_by outcome
step-by-ignores-unmarked grant word xs B B' t =
    subst (λ (C : Bench). SameBy (step_by grant word xs B) (step_by grant word xs C)) (lent_is B B' t)
    (let s = outcome-same idle (parameters grant B.machine) (decode word) xs B B'.registers t.alike.agree in
    record { same_answer = s.same_answer; same-scalars = s.same-scalars; alike-after = s.alike-after })

-- ---- any number of words

pub words-ignore-unmarked : WordsIgnoreUnmarked
words-ignore-unmarked grant [] xs W B B' t = tt
words-ignore-unmarked grant (w ∷ ws) xs W B B' t =
    let s = step-ignores-unmarked grant w xs W B B' t in
    let o : VectorOutcome = step_with grant w xs W B in
    let o' : VectorOutcome = step_with grant w xs W B' in (
      s,
      subst (λ (ys : List ℕ). EachSame (outcomes grant ws o.scalars (vectors_of o.vectors W.group) o.bench) (outcomes grant ws ys (vectors_of o'.vectors W.group) o'.bench)) s.same-scalars
          (subst (λ (f : List ℕ). EachSame (outcomes grant ws o.scalars (vectors_of o.vectors W.group) o.bench) (outcomes grant ws o.scalars (vectors_of f W.group) o'.bench)) s.same-vectors
          (words-ignore-unmarked grant ws o.scalars (vectors_of o.vectors W.group) o.bench o'.bench s.alike-after)),
    )

pub given-words-ignore-unmarked : GivenWordsIgnoreUnmarked
given-words-ignore-unmarked grant [] B B' t = tt
given-words-ignore-unmarked grant (w ∷ ws) B B' t =
    let s = step-ignores-unmarked grant w.word w.scalars w.vectors B B' t in
    (s, given-words-ignore-unmarked grant ws (step_with grant w.word w.scalars w.vectors B).bench (step_with grant w.word w.scalars w.vectors B').bench s.alike-after)
