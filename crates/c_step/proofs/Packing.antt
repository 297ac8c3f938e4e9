-- No row and no column of a step's answer is too large for its bits in a result.
use Rattle.numbers.proofs.Kit.{Err}
use mathlib.Core.Path.{◌≡◌, refl}
use mathlib.Core.Bool.{Bool, true, false, cond}
use mathlib.Core.List.{List, [], ◌∷◌}
use Prim.Native.Nat.{ℕ, ◌+◌, ◌/◌, ◌%◌, ◌^◌, ◌≤◌, ◌<◌}
use native.Mathlib.Nat.{mul-le-mul_left}
use native.Mathlib.Omega.{arith}
use lib.ListN.{length}
use lib.Dec.{leb}
use borrow.Author.Tests.{eq-eqb, leb-true}
use Rattle.machine.specs.declared.Wrong.TheVariants.{Opcode, LeftOut, Unlisted, Register}
use Rattle.machine.specs.declared.Matrix.{Matrix}
use Rattle.machine.specs.declared.Matrix.TheVariants.{MatrixA, MatrixB, MatrixC}
use Rattle.machine.specs.Tests.{first}
use Rattle.machine.specs.declared.Reply.{Reply}
use Rattle.machine.specs.Answers.{reply, number, is_done, Check, verdict}
use Rattle.machine.specs.Geometry.{sealed, Parameters, parameters, State, Bench, bench_of}
use Rattle.machine.specs.Setting.{chosen}
use Rattle.machine.specs.Listing.{decode}
use Rattle.machine.specs.Operation.{Operation, illegal, set_type, set_size, cut_size, load, store, multiply, combine, scale, float_multiply, move_out, move_in, tile_rows, tile_cols}
use Rattle.machine.specs.MoveWords.{lines_of, slice_rows, slice_cols, unwritten_in}
use Rattle.machine.specs.Meanings.{checks}
use Rattle.machine.specs.Faults.{sound_bench}
use Rattle.machine.specs.Step
use Rattle.machine.specs.Step.{beside, vectors_in, stepped_in, step_with, vector_step, checks_in, given_in, meant_in}
use Rattle.machine.specs.Vectors.{Vectors, vectors_of, vectors_fit}
use Rattle.machine.specs.declared.Refusal.TheVariants.{BadArguments}
use Rattle.machine.specs.declared.Form.{Form}
use Rattle.machine.specs.declared.Form.TheVariants.{Plain, Transposed}
use Rattle.machine.proofs.TestLaws.{first-le}
use Rattle.machine.proofs.AnswerLaws.{number_small}
use Rattle.machine.proofs.StepLaws.{permitted-bounds}
use Rattle.machine.proofs.NoFault.{bench-sound, sound-is}
use Rattle.unit_ranges.specs.Ranges.{seals_in}
use Rattle.c_blocks.specs.Blocks.{machine_bytes, machine_of, packed, scalar_bytes, values_of}
use Rattle.c_step.specs.BenchCalls.{host_step}
use Rattle.c_step.specs.Theorems.{StepPacksWhole}

-- ---- answers with small rows and columns

abbrev pub Small : Reply → Type 0
Small a = (a.row ≤ 1024) × (a.column ≤ 1024)

pub whole : (a : Reply) → a.number < 2 ^ 16 → Small a → (packed a % 2 ^ 16 ≡ a.number) × (packed a / 2 ^ 16 % 2 ^ 16 ≡ a.row) × (packed a / 2 ^ 32 ≡ a.column)
whole a n s = (omega arith, omega arith, omega arith)

-- ---- checks whose answers are small, where those before have passed

abbrev EachSmall : List Check → Type 0
EachSmall [] = Unit
EachSmall (c ∷ cs) = Small (reply (Err c.answer)) × (c.holds ≡ true → EachSmall cs)

zeros : (◌≤◌ 0 1024) × (◌≤◌ 0 1024)
zeros = (omega arith, omega arith)

verdict-small : (cs : List Check) → EachSmall cs → Small (reply (verdict cs))
verdict-small [] s = zeros
verdict-small (c ∷ cs) s = go c.holds refl (λ e. verdict-small cs (s.1 e))
  where
    go : (t : Bool) → c.holds ≡ t → (c.holds ≡ true → Small (reply (verdict cs))) → Small (reply (cond t (verdict cs) (Err c.answer)))
    go true e h = h e
    go false e h = s.0

module _ (M : Parameters) (st : State) (mem : List ℕ) (hm : st.tile_m ≤ 1024) (hk : st.tile_k ≤ 1024) (hn : st.tile_n ≤ 1024) where
  rows-small : (k : Matrix) → tile_rows st k ≤ 1024
  rows-small MatrixA = hm
  rows-small MatrixB = hk
  rows-small MatrixC = hm

  cols-small : (k : Matrix) → tile_cols st k ≤ 1024
  cols-small MatrixA = hk
  cols-small MatrixB = hn
  cols-small MatrixC = hn

  -- of a tile of so many rows and columns
  within : (rows cols : ℕ) (p q : ℕ → Bool) → rows ≤ 1024 → cols ≤ 1024 → (first rows p ≤ 1024) × (first cols q ≤ 1024)
  within rows cols p q hr hc = (omega (arith, first-le rows p), omega (arith, first-le cols q))

  -- what a slice names lies in its tile
  slice-small : (f : Form) (start count : ℕ) (p q : ℕ → Bool) → leb (start + count) (lines_of f st) ≡ true
      → Small (reply (Err (unwritten_in f start (first (slice_rows f st count) p) (first (slice_cols f st count) q))))
  slice-small Plain start count p q h = (omega (arith, leb-true (start + count) st.tile_m h, first-le count p), omega (arith, first-le st.tile_n q))
  slice-small Transposed start count p q h = (omega (arith, first-le st.tile_m p), omega (arith, leb-true (start + count) st.tile_n h, first-le count q))

  checks-small : (isSealed : ℕ → Bool) (o : Operation) → EachSmall (checks M isSealed o st mem)
  checks-small z (illegal Opcode) = (zeros, λ _. tt)
  checks-small z (illegal LeftOut) = (zeros, λ _. tt)
  checks-small z (illegal Unlisted) = (zeros, λ _. tt)
  checks-small z (illegal Register) = (zeros, λ _. tt)
  checks-small z (set_type v) = tt
  checks-small z (set_size d a) = (zeros, λ _. tt)
  checks-small z (cut_size d) = (zeros, λ _. tt)
  checks-small z (load f k r w base stride) = (zeros, λ _. (zeros, λ _. (zeros, λ _. (zeros, λ _. (zeros, λ _. tt)))))
  checks-small z (store f k r w base stride) = (zeros, λ _. (zeros, λ _. (zeros, λ _. (zeros, λ _. (within _ _ _ _ (rows-small k) (cols-small k), λ _. (zeros, λ _. (zeros, λ _. (zeros, λ _. tt))))))))
  checks-small z (multiply f d a b) = (zeros, λ _. (zeros, λ _. (zeros, λ _. (zeros, λ _. (zeros, λ _. (within _ _ _ _ hm hk, λ _. (within _ _ _ _ hk hn, λ _. (within _ _ _ _ hm hn, λ _. tt))))))))
  checks-small z (combine o f d a) = (zeros, λ _. (zeros, λ _. (zeros, λ _. (zeros, λ _. (within _ _ _ _ hm hn, λ _. (within _ _ _ _ hm hn, λ _. tt))))))
  checks-small z (scale f d a x) = (zeros, λ _. (zeros, λ _. (zeros, λ _. (zeros, λ _. (within _ _ _ _ hm hn, λ _. tt)))))
  checks-small z (float_multiply d a b) = (zeros, λ _. (zeros, λ _. (zeros, λ _. (zeros, λ _. (zeros, λ _. (within _ _ _ _ hm hk, λ _. (within _ _ _ _ hk hn, λ _. (within _ _ _ _ hm hn, λ _. tt))))))))
  checks-small z (move_out f a v start count) = (zeros, λ _. (zeros, λ _. (zeros, λ _. (zeros, λ h. (zeros, λ _. (slice-small f start count _ _ h, λ _. tt))))))
  checks-small z (move_in f d v start count file) = (zeros, λ _. (zeros, λ _. (zeros, λ _. (zeros, λ _. (zeros, λ _. tt)))))

-- ---- a step

-- a state that is not at fault has at most 1,024 rows and columns in its tiles
sizes-small : (B : Bench) → sound_bench B ≡ true → (B.machine.tile_m ≤ 1024) × (B.machine.tile_k ≤ 1024) × (B.machine.tile_n ≤ 1024)
sizes-small B h =
    let m = B.machine in
    let s = sound-is m B.registers B.marks (bench-sound B h) in
    let b = permitted-bounds m.rlen m.mlen m.elen s.lengths in
    let r : m.mlen / m.rlen ≤ 1024 = omega (arith, mul-le-mul_left (m.mlen / m.rlen) b.0) in
    (omega (arith, s.state.m-fits), omega (arith, s.state.k-fits), omega (arith, s.state.n-fits))

pub answer-small : (W : Vectors) (M : Parameters) (word : ℕ) (xs : List ℕ) (B : Bench) → let a = (stepped_in W M (decode word) xs B).answer in (a.number < 2 ^ 16) × Small a
answer-small W M word xs B = last (vectors_fit W) (is_done (verdict cs)) (go (sound_bench B) refl)
  where
    cs : List Check
    cs = checks_in W M (decode word) xs B

    go : (t : Bool) → sound_bench B ≡ t → Small (reply (verdict cs))
    go true e =
        let z = sizes-small B e in
        verdict-small cs (zeros, λ _. (zeros, λ _. checks-small M (given_in W M (decode word) xs B) B.memory z.0 z.1 z.2 (sealed B.seals) (meant_in W M (decode word) xs B)))
    go false e = rw e zeros

    last : (f t : Bool) → Small (reply (verdict cs))
        → let a = (cond f (beside (vectors_in W M (decode word) xs B) (cond t (Step.carried_in W M (decode word) xs B) (Step.refused_in W M (decode word) xs B (verdict cs))))
        (beside W.file (Step.refused_in W M (decode word) xs B (Err BadArguments)))).answer in (a.number < 2 ^ 16) × Small a
    last true true h = (omega arith, zeros)
    last true false h = (number_small (verdict cs), h)
    last false t h = (omega arith, zeros)

step-packs : (word : ℕ) (xs : List ℕ) (W : Vectors) (B : Bench)
    → let a = (vector_step word xs W B).answer in
    (packed a % 2 ^ 16 ≡ a.number) × (packed a / 2 ^ 16 % 2 ^ 16 ≡ a.row) × (packed a / 2 ^ 32 ≡ a.column)
unfolding step_with
step-packs word xs W B = let s = answer-small W (parameters chosen B.machine) word xs B in whole (vector_step word xs W B).answer s.0 s.1

pub packs-whole : StepPacksWhole
unfolding host_step
packs-whole word group machine registers marks scalars memory file lm ls =
    rw (eq-eqb (length machine) machine_bytes lm, eq-eqb (length scalars) scalar_bytes ls)
    (step-packs word (values_of scalars) (vectors_of file group) (bench_of (machine_of machine) (seals_in machine) registers marks memory))
