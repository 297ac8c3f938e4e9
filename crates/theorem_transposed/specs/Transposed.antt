-- 02, Two: "Prove once over all three that a plain load, then the matching transposed store of that register and width, leaves the
-- transposed tile, where both are accepted, nothing comes between and no byte lies in two of the store's rows." Since 02, Seven, no byte
-- lies in two rows of a store that is accepted. The proof stands in proofs/Transposed.antt.
use Rattle.std.specs.Prelude.{◌≡◌, ◌*◌, ◌<◌}
use Rattle.numbers.specs.Kit.{ℕ, length, get_or}
use Rattle.numbers.specs.Blocks.{Choice}
use Rattle.numbers.specs.Tile.{In}
use Rattle.machine.specs.declared.Matrix.{Matrix}
use Rattle.machine.specs.declared.Form.TheVariants.{Plain, Transposed}
use Rattle.machine.specs.declared.Instruction.TheVariants.{Load, Store}
use Rattle.machine.specs.Geometry.{parameters, State, state_of, Bench, register_at, scalar}
use Rattle.machine.specs.Listing.{decode}
use Rattle.machine.specs.Memory.{row_at}
use Rattle.machine.specs.Operation.{element, tile_rows, tile_cols}
use Rattle.machine.specs.Step.{VectorOutcome, step_with}
use Rattle.machine.specs.Theorems.{Given}

-- one of A, B and C at a width of w bytes, a register, and the scalars that a load and a store name
pub record Pair : Type 0 where
  pub matrix : Matrix
  pub w : ℕ
  pub register : ℕ
  pub load-base : ℕ
  pub load-stride : ℕ
  pub store-base : ℕ
  pub store-stride : ℕ

module _ (grant : Choice) (P : Pair) (first second : Given) (B : Bench) where
  -- "nothing comes between"
  abbrev pub after_load : VectorOutcome
  after_load = step_with grant first.word first.scalars first.vectors B

  abbrev pub after_store : VectorOutcome
  after_store = step_with grant second.word second.scalars second.vectors after_load.bench

  -- the tile in the register, and its rows in memory, from which it is loaded and to which it is stored
  abbrev held : State
  held = state_of B.machine B.registers B.marks

  abbrev pub rows : ℕ
  rows = tile_rows held P.matrix

  abbrev pub cols : ℕ
  cols = tile_cols held P.matrix

  abbrev pub from : ℕ → ℕ
  from = row_at (scalar first.scalars P.load-base) (scalar first.scalars P.load-stride)

  abbrev pub to : ℕ → ℕ
  to = row_at (scalar second.scalars P.store-base) (scalar second.scalars P.store-stride)

  abbrev pub place : ℕ → ℕ
  place = register_at (parameters grant B.machine) P.matrix P.register

  -- "a plain load, then the matching transposed store of that register and width .. where both are accepted"; memory holds bytes
  pub record LoadThenStore : Type 0 where
    pub plain-load : decode first.word ≡ Load Plain P.matrix P.w P.register P.load-base P.load-stride
    pub transposed-store : decode second.word ≡ Store Transposed P.matrix P.w P.register P.store-base P.store-stride
    pub load-accepted : after_load.answer.number ≡ 0
    pub store-accepted : after_store.answer.number ≡ 0
    pub bytes : (q : ℕ) → get_or B.memory q 0 < 256

  -- "leaves the transposed tile": element (j, i) of what is stored is element (i, j) of what was loaded. All other bytes of memory are as
  -- before, the registers and marks as the load left them, which outside its tile is as before, and the numbers and scalars as before
  pub record Transposes : Type 0 where
    pub transposed : (i j : ℕ) → i < rows → j < cols → element after_store.bench.memory to P.w j i ≡ element B.memory from P.w i j
    pub same_length : length after_store.bench.memory ≡ length B.memory
    pub same_memory : (q : ℕ) → ((j : ℕ) → j < cols → ¬ In (to j) (rows * P.w) q) → get_or after_store.bench.memory q 0 ≡ get_or B.memory q 0
    pub as-loaded : (after_store.bench.registers ≡ after_load.bench.registers) × (after_store.bench.marks ≡ after_load.bench.marks)
    pub same-registers : (q : ℕ) → ((i : ℕ) → i < rows → ¬ In (place i) (cols * P.w) q)
        → (get_or after_store.bench.registers q 0 ≡ get_or B.registers q 0) × (get_or after_store.bench.marks q 0 ≡ get_or B.marks q 0)
    pub same-machine : after_store.bench.machine ≡ B.machine
    pub same-scalars : (after_load.scalars ≡ first.scalars) × (after_store.scalars ≡ second.scalars)

abbrev pub LoadThenStoreTransposes : Type 0
LoadThenStoreTransposes = (grant : Choice) (P : Pair) (first second : Given) (B : Bench) → LoadThenStore grant P first second B → Transposes grant P first second B
