-- What is proved of these definitions, for every choice of sizes (one for each rule), state and word. The proofs stand in proofs/.
use Rattle.std.specs.Prelude.{◌≡◌, ◌∷◌, ◌++◌, ◌+◌, ◌*◌, ◌≤◌, ◌<◌}
use Rattle.numbers.specs.Kit.{true, List, [], ℕ, length, get_or, pos}
use Rattle.numbers.specs.Tile.{byte_of, In}
use Rattle.numbers.specs.Blocks.{Choice, EachGrants}
use Rattle.machine.specs.declared.Form.{Form}
use Rattle.machine.specs.declared.Matrix.{Matrix}
use Rattle.machine.specs.declared.Instruction.TheVariants.{Store}
use Rattle.machine.specs.Geometry.{Range, parameters, State, state_of, register_at, scalar, Bench, bench_of, sealed}
use Rattle.machine.specs.Setting.{chosen}
use Rattle.machine.specs.Starting.{ranges, start_machine}
use Rattle.machine.specs.Faults.{sound_bench}
use Rattle.machine.specs.Sealing.{add_seal}
use Rattle.machine.specs.Listing.{decode}
use Rattle.machine.specs.Memory.{row_z, row_at}
use Rattle.machine.specs.Operation.{element, placed, tile_rows, tile_cols, memory_rows, memory_cols}
use Rattle.machine.specs.Vectors.{Vectors}
use Rattle.machine.specs.Step.{step_with}

-- a bench as a start leaves it, with a memory
abbrev pub started_bench : (rlen mlen elen rule : ℕ) (seals registers marks memory : List ℕ) → Bench
started_bench rlen mlen elen rule seals registers marks memory =
    let s = start_machine rlen mlen elen rule seals registers marks in bench_of s.machine s.seals s.registers s.marks memory

-- ---- the choice of sizes

-- 02, Eight: "every choice that keeps the three constraints of source document 001, then name our two": both keep them
abbrev pub RulesKeepConstraints : Type 0
RulesKeepConstraints = EachGrants chosen

-- ---- refusals

-- Demand 1: "A refusal changes nothing lent or held."
abbrev pub RefusalChangesNothing : Type 0
RefusalChangesNothing = (grant : Choice) (word : ℕ) (xs : List ℕ) (W : Vectors) (B : Bench) → ¬ ((step_with grant word xs W B).answer.number ≡ 0)
    → ((step_with grant word xs W B).bench ≡ B) × ((step_with grant word xs W B).scalars ≡ xs) × ((step_with grant word xs W B).vectors ≡ W.file)

-- and so of a start
abbrev pub StartRefusalChangesNothing : Type 0
StartRefusalChangesNothing = (rlen mlen elen rule : ℕ) (seals registers marks : List ℕ)
    → ¬ ((start_machine rlen mlen elen rule seals registers marks).answer.number ≡ 0)
    → ((start_machine rlen mlen elen rule seals registers marks).registers ≡ registers)
    × ((start_machine rlen mlen elen rule seals registers marks).marks ≡ marks)

-- and of adding a range
abbrev pub SealRefusalChangesNothing : Type 0
SealRefusalChangesNothing = (start size : ℕ) (B : Bench) → ¬ ((add_seal start size B).answer.number ≡ 0) → (add_seal start size B).bench ≡ B

-- ---- states that are not at fault

-- a step of a state that is not at fault leaves one that is not at fault
abbrev pub StepKeepsSound : Type 0
StepKeepsSound = (grant : Choice) → EachGrants grant → (word : ℕ) (xs : List ℕ) (W : Vectors) (B : Bench) → sound_bench B ≡ true
    → sound_bench (step_with grant word xs W B).bench ≡ true

-- and so does adding a range
abbrev pub SealKeepsSound : Type 0
SealKeepsSound = (start size : ℕ) (B : Bench) → sound_bench B ≡ true → sound_bench (add_seal start size B).bench ≡ true

-- and so does a start, whatever memory is lent
abbrev pub StartIsSound : Type 0
StartIsSound = (rlen mlen elen rule : ℕ) (seals registers marks memory : List ℕ)
    → (start_machine rlen mlen elen rule seals registers marks).answer.number ≡ 0
    → sound_bench (started_bench rlen mlen elen rule seals registers marks memory) ≡ true

-- a step leaves a vector file of the same length
abbrev pub StepKeepsFile : Type 0
StepKeepsFile = (grant : Choice) (word : ℕ) (xs : List ℕ) (W : Vectors) (B : Bench) → length (step_with grant word xs W B).vectors ≡ length W.file

-- ---- stores

-- what a store of a tile, plain or transposed, leaves in memory, over the rows and columns that it has there: its rows lie in memory, no
-- byte is in two of them, each byte of element (i, j) is that of the register's element, every other byte is as before, and so is the length
module _ (grant : Choice) (xs : List ℕ) (B : Bench) (f : Form) (k : Matrix) (w r rs1 rs2 : ℕ) where
  abbrev state : State
  state = state_of B.machine B.registers B.marks

  abbrev rows : ℕ
  rows = memory_rows f (tile_rows state k) (tile_cols state k)

  abbrev cols : ℕ
  cols = memory_cols f (tile_rows state k) (tile_cols state k)

  abbrev at : ℕ → ℕ
  at = row_at (scalar xs rs1) (scalar xs rs2)

  abbrev value : ℕ → ℕ → ℕ
  value = placed f (element B.registers (register_at (parameters grant B.machine) k r) w)

  pub record Stores (mem' : List ℕ) : Type 0 where
    pub lie-in-memory : (i : ℕ) → i < rows → 0 < cols * w
        → (row_z (scalar xs rs1) (scalar xs rs2) i ≡ pos (at i)) × (at i + cols * w ≤ length B.memory)
    pub no-byte-in-two-rows : (i j q : ℕ) → i < j → j < rows → In (at i) (cols * w) q → ¬ In (at j) (cols * w) q
    pub elements : (i j b : ℕ) → i < rows → j < cols → b < w → get_or mem' (at i + j * w + b) 0 ≡ byte_of (value i j) b
    pub others : (q : ℕ) → ((i : ℕ) → i < rows → ¬ In (at i) (cols * w) q) → get_or mem' q 0 ≡ get_or B.memory q 0
    pub same_length : length mem' ≡ length B.memory

-- 02, Seven: each element where it belongs, with no order of rows
abbrev pub StoresAreExact : Type 0
StoresAreExact = (grant : Choice) (word : ℕ) (xs : List ℕ) (W : Vectors) (B : Bench) (f : Form) (k : Matrix) (w r rs1 rs2 : ℕ)
    → decode word ≡ Store f k w r rs1 rs2 → (step_with grant word xs W B).answer.number ≡ 0
    → Stores grant xs B f k w r rs1 rs2 (step_with grant word xs W B).bench.memory

-- ---- the seal, over any number of steps

-- a word, and the scalars and the vector file it is given
pub record Given : Type 0 where
  pub word : ℕ
  pub scalars : List ℕ
  pub vectors : Vectors

-- the bench after a list of words, refusals included
abbrev pub after_all : Choice → List Given → Bench → Bench
after_all grant [] B = B
after_all grant (w ∷ ws) B = after_all grant ws (step_with grant w.word w.scalars w.vectors B).bench

-- 02, Twelve: ranges are "never taken off", and stay in order of entry: those of before come first
pub record Extends (before after : List Range) : Type 0 where
  pub added : List Range
  pub behind : after ≡ before ++ added

-- every range stays, the memory keeps its length, and no byte that was sealed changes
pub record Unharmed (grant : Choice) (B B' : Bench) : Type 0 where
  pub same-parameters : parameters grant B'.machine ≡ parameters grant B.machine
  pub ranges-stay : Extends B.seals B'.seals
  pub same_length : length B'.memory ≡ length B.memory
  pub same_bytes : (q : ℕ) → sealed B.seals q ≡ true → get_or B'.memory q 0 ≡ get_or B.memory q 0

-- Demand 2: no sealed byte changes, whatever words are stepped
abbrev pub SealHolds : Type 0
SealHolds = (grant : Choice) (ws : List Given) (B : Bench) → Unharmed grant B (after_all grant ws B)

-- and from a started machine: each byte of the ranges that it was started with
abbrev pub SealHoldsFromStart : Type 0
SealHoldsFromStart = (rlen mlen elen rule : ℕ) (seals registers marks memory : List ℕ)
    → (start_machine rlen mlen elen rule seals registers marks).answer.number ≡ 0
    → (ws : List Given) (q : ℕ) → sealed (ranges seals) q ≡ true
    → get_or (after_all chosen ws (started_bench rlen mlen elen rule seals registers marks memory)).memory q 0 ≡ get_or memory q 0
