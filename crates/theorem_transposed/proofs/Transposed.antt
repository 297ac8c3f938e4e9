-- 02, Two: a plain load, then the matching transposed store, leaves the transposed tile.
use Rattle.numbers.proofs.Kit.{◌≡◌, refl, sym, ap, ◌∙◌, subst, true, List, ℕ, zero, ◌+◌, ◌*◌, ◌%◌, ◌^◌, ◌≤◌, ◌<◌, mod-eq_of_lt, arith, length, get_or, set}
use Rattle.numbers.proofs.Kit.{get_or-set_other, ltb-true}
use Rattle.numbers.specs.Blocks.{Choice}
use Rattle.numbers.specs.Tile.{put_tile, mark_tile, mark_row, In}
use Rattle.numbers.proofs.UptoLaws.{upto-keeps}
use Rattle.numbers.proofs.PutLaws.{row_fits}
use Rattle.numbers.proofs.TileLaws.{put_tile-le, put_tile-out, pitched, le_bytes, le-lt}
use Rattle.machine.specs.declared.Matrix.{Matrix}
use Rattle.machine.specs.declared.Matrix.TheVariants.{MatrixA, MatrixB, MatrixC}
use Rattle.machine.specs.declared.Form.TheVariants.{Plain, Transposed}
use Rattle.machine.specs.declared.Instruction.{Instruction}
use Rattle.machine.specs.declared.Instruction.TheVariants.{Load, Store}
use Rattle.machine.specs.Answers.{number}
use Rattle.machine.specs.Geometry.{sealed, Parameters, parameters, State, state_of, Bench, bench_of, register_at, start_of, pitch_of, register_count, scalar}
use Rattle.machine.specs.Listing.{in_range}
use Rattle.machine.specs.Memory.{row_at}
use Rattle.machine.specs.Operation.{element, written, tile_rows, tile_cols}
use Rattle.machine.specs.Meanings.{memory_after, checks}
use Rattle.machine.specs.Faults.{sound_bench}
use Rattle.machine.specs.Step
use Rattle.machine.specs.Step.{VectorOutcome, beside, step_with, given, meant}
use Rattle.machine.specs.Theorems.{Given}
use Rattle.machine.proofs.CheckLaws.{Passed}
use Rattle.machine.proofs.CodeLaws.{decode-bounded}
use Rattle.machine.proofs.NoFault.{bench-sound}
use Rattle.machine.proofs.StoreLaws.{length-stored, stored-out, store_byte}
use Rattle.machine.proofs.Stores.{Accepted, accepted-with}
use Rattle.unit_transfer.proofs.Room.{transfer-requires}
use Rattle.unit_transfer.proofs.WalkLaws.{width_some}
use Rattle.theorem_transposed.specs.Transposed.{Pair, LoadThenStore, Transposes, LoadThenStoreTransposes}

-- ---- tiles

mark_row-out : (p n : ℕ) (ms : List ℕ) (q : ℕ) → ¬ In p n q → get_or (mark_row p n ms) q 0 ≡ get_or ms q 0
unfolding mark_row
mark_row-out p n ms q h =
    upto-keeps (λ ys. get_or ys q 0 ≡ get_or ms q 0) n (λ b ys. set ys (p + b) 1) ms (λ b l ys e. get_or-set_other ys (p + b) q 1 0 (λ s. h (omega arith)) ∙ e) refl

mark_tile-out : (at : ℕ → ℕ) (rows n : ℕ) (ms : List ℕ) (q : ℕ) → ((i : ℕ) → i < rows → ¬ In (at i) n q) → get_or (mark_tile at rows n ms) q 0 ≡ get_or ms q 0
unfolding mark_tile
mark_tile-out at rows n ms q h =
    upto-keeps (λ ys. get_or ys q 0 ≡ get_or ms q 0) rows (λ i ys. mark_row (at i) n ys) ms (λ i l ys e. mark_row-out (at i) n ys q (h i l) ∙ e) refl

-- ---- the two words

-- a load leaves the sizes
rows_same : (st : State) (at : ℕ → ℕ) (n m w : ℕ) (v : ℕ → ℕ → ℕ) (k : Matrix) → (tile_rows (written st at n m w v) k ≡ tile_rows st k) × (tile_cols (written st at n m w v) k ≡ tile_cols st k)
rows_same st at n m w v MatrixA = (refl, refl)
rows_same st at n m w v MatrixB = (refl, refl)
rows_same st at n m w v MatrixC = (refl, refl)

module _ (grant : Choice) (k : Matrix) (w r a b c d : ℕ) (xs ys : List ℕ) (B : Bench) where
  abbrev M : Parameters
  M = parameters grant B.machine

  abbrev loading : Instruction
  loading = Load Plain k w r a b

  abbrev storing : Instruction
  storing = Store Transposed k w r c d

  abbrev st : State
  st = state_of B.machine B.registers B.marks

  abbrev rows : ℕ
  rows = tile_rows st k

  abbrev cols : ℕ
  cols = tile_cols st k

  abbrev from : ℕ → ℕ
  from = row_at (scalar xs a) (scalar xs b)

  abbrev to : ℕ → ℕ
  to = row_at (scalar ys c) (scalar ys d)

  abbrev regs₁ : List ℕ
  regs₁ = put_tile (register_at M k r) rows cols w (element B.memory from w) B.registers

  abbrev marks₁ : List ℕ
  marks₁ = mark_tile (register_at M k r) rows (cols * w) B.marks

  -- what the load leaves, and after it the store
  abbrev B₁ : Bench
  B₁ = bench_of B.machine B.seals regs₁ marks₁ B.memory

  abbrev st₁ : State
  st₁ = state_of B.machine regs₁ marks₁

  abbrev Sizes : Type 0
  Sizes = (tile_rows (state_of B.machine regs₁ marks₁) k ≡ rows) × (tile_cols (state_of B.machine regs₁ marks₁) k ≡ cols)

  sizes : Sizes
  sizes = rows_same st (register_at M k r) rows cols w (element B.memory from w) k

  module _ (in-range : r < register_count k) (s : sound_bench B ≡ true) (p : Passed (checks M (sealed B.seals) (meant M loading xs B) (given M loading xs B) B.memory))
      (p₂ : Passed (checks M (sealed B.seals) (meant M storing ys B₁) (given M storing ys B₁) B₁.memory)) where
    abbrev Room : Type 0
    Room = (start_of M k r + rows * pitch_of M k ≤ length B.registers) × (cols * w ≤ pitch_of M k) × (zero < w)

    room : Room
    room =
        let f = transfer-requires grant B.machine B.registers B.marks (bench-sound B s) k r w in-range (p.0, (p.1.0, (p.1.1.0, (p.1.1.1.0, tt)))) in
        (f.0, f.1.1.0, width_some w f.1.1.1.0)

    -- element (i, j) of the register is element (i, j) of memory
    held : ((q : ℕ) → get_or B.memory q 0 < 256) → (i j : ℕ) → i < rows → j < cols → element regs₁ (register_at M k r) w i j ≡ element B.memory from w i j
    held small i j l m =
        put_tile-le (register_at M k r) rows cols w (element B.memory from w) B.registers i l (omega (arith, room.0, room.1, row_fits i rows (pitch_of M k) l)) j m
        (λ k' l' g q. pitched (start_of M k r) (pitch_of M k) (cols * w) room.1 i k' g q)
        ∙ mod-eq_of_lt (le-lt B.memory small (from i + j * w) w)

    turned : ((q : ℕ) → get_or B.memory q 0 < 256) → (i j : ℕ) → i < rows → j < cols
        → element (memory_after M (meant M storing ys B₁) st₁ B.memory) to w j i ≡ element B.memory from w i j
    turned small i j l m =
        le_bytes (memory_after M (meant M storing ys B₁) st₁ B.memory) (to j + i * w) w (element regs₁ (register_at M k r) w i j) (λ b n.
        store_byte M (sealed B.seals) st₁ B.memory Transposed k r w (scalar ys c) (scalar ys d) p₂ j i b (subst (λ (x : ℕ). j < x) (sym sizes.1) m) (subst (λ (x : ℕ). i < x) (sym sizes.0) l) n)
        ∙ ap (λ (v : ℕ). v % 256 ^ w) (held small i j l m) ∙ mod-eq_of_lt (le-lt B.memory small (from i + j * w) w)

  -- a byte that is in no row of the store
  kept : (q : ℕ) → ((j : ℕ) → j < cols → ¬ In (to j) (rows * w) q) → get_or (memory_after M (meant M storing ys B₁) st₁ B.memory) q 0 ≡ get_or B.memory q 0
  kept q h = stored-out to _ _ w _ B.memory q (λ j l.
      subst (λ (x : ℕ). ¬ In (to j) (x * w) q) (sym sizes.0) (h j (subst (λ (x : ℕ). j < x) sizes.1 l)))

-- ---- the theorem

module _ (grant : Choice) (P : Pair) (first second : Given) (B : Bench) (h : LoadThenStore grant P first second B) where
  abbrev xs : List ℕ
  xs = first.scalars

  abbrev ys : List ℕ
  ys = second.scalars

  abbrev i₁ : Instruction
  i₁ = Load Plain P.matrix P.w P.register P.load-base P.load-stride

  abbrev i₂ : Instruction
  i₂ = Store Transposed P.matrix P.w P.register P.store-base P.store-stride

  abbrev N : Parameters
  N = parameters grant B.machine

  abbrev left : Bench
  left = B₁ grant P.matrix P.w P.register P.load-base P.load-stride P.store-base P.store-stride xs ys B

  load-done : Accepted grant i₁ xs first.vectors B (step_with grant first.word xs first.vectors B)
  load-done = accepted-with grant first.word i₁ xs first.vectors B h.plain-load h.load-accepted

  load_is : step_with grant first.word xs first.vectors B ≡ beside first.vectors.file (Step.carried_out N i₁ xs B)
  load_is = load-done.leaves

  second-starts : step_with grant second.word ys second.vectors (step_with grant first.word xs first.vectors B).bench ≡ step_with grant second.word ys second.vectors left
  second-starts = ap (λ (o : VectorOutcome). step_with grant second.word ys second.vectors o.bench) load_is

  store-done : Accepted grant i₂ ys second.vectors left (step_with grant second.word ys second.vectors left)
  store-done = accepted-with grant second.word i₂ ys second.vectors left h.transposed-store (ap (λ (o : VectorOutcome). o.answer.number) (sym second-starts) ∙ h.store-accepted)

  store_is : step_with grant second.word ys second.vectors (step_with grant first.word xs first.vectors B).bench ≡ beside second.vectors.file (Step.carried_out N i₂ ys left)
  store_is = second-starts ∙ store-done.leaves

  in-range : P.register < register_count P.matrix
  in-range = ltb-true P.register (register_count P.matrix) (subst (λ (i : Instruction). in_range i ≡ true) h.plain-load (decode-bounded first.word).1)

  result : Transposes grant P first second B
  result = record {
    transposed = λ i j l m.
        ap (λ (o : VectorOutcome). element o.bench.memory (row_at (scalar ys P.store-base) (scalar ys P.store-stride)) P.w j i) store_is
        ∙ turned grant P.matrix P.w P.register P.load-base P.load-stride P.store-base P.store-stride xs ys B in-range load-done.sound load-done.passes store-done.passes
        h.bytes i j l m;
    same_length = ap (λ (o : VectorOutcome). length o.bench.memory) store_is ∙ length-stored _ _ _ _ _ B.memory;
    same_memory = λ q f.
        ap (λ (o : VectorOutcome). get_or o.bench.memory q 0) store_is
        ∙ kept grant P.matrix P.w P.register P.load-base P.load-stride P.store-base P.store-stride xs ys B q f;
    as-loaded = (
      ap (λ (o : VectorOutcome). o.bench.registers) store_is ∙ sym (ap (λ (o : VectorOutcome). o.bench.registers) load_is),
      ap (λ (o : VectorOutcome). o.bench.marks) store_is ∙ sym (ap (λ (o : VectorOutcome). o.bench.marks) load_is),
    );
    same-registers = λ q f. (
      ap (λ (o : VectorOutcome). get_or o.bench.registers q 0) store_is ∙ put_tile-out _ _ _ P.w _ B.registers q f,
      ap (λ (o : VectorOutcome). get_or o.bench.marks q 0) store_is ∙ mark_tile-out _ _ _ B.marks q f,
    );
    same-machine = ap (λ (o : VectorOutcome). o.bench.machine) store_is;
    same-scalars = (ap (λ (o : VectorOutcome). o.scalars) load_is, ap (λ (o : VectorOutcome). o.scalars) store_is);
  }

pub load-then-store-transposes : LoadThenStoreTransposes
load-then-store-transposes grant P first second B h = result grant P first second B h
