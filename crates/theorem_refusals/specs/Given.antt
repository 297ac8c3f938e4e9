-- 01, "Numbers of the answers", of a step: each answer is "given exactly when" the sentence of its row holds and none before it does; 02, One,
-- Four, Seven, Ten, Eleven and Twelve. 8 is the state at fault of machine/specs/Faults.antt. The proofs stand in proofs/.
use Rattle.std.specs.Prelude.{◌≡◌, ◌↔◌, ◌⊎◌, ◌∷◌, ◌+◌, ◌*◌, ◌≤◌, ◌<◌, ◌+ℤ◌}
use Rattle.numbers.specs.Kit.{true, cond, List, [], List-as-Memᴰ, ℕ, eqb, length, get_or, pos}
use Rattle.numbers.specs.Blocks.{Choice}
use Rattle.numbers.specs.Tile.{In}
use Rattle.machine.specs.declared.Reply.{Reply}
use Rattle.machine.specs.declared.Matrix.{Matrix}
use Rattle.machine.specs.declared.Matrix.TheVariants.{MatrixA, MatrixB, MatrixC}
use Rattle.machine.specs.declared.Form.{Form}
use Rattle.machine.specs.declared.Form.TheVariants.{Plain, Transposed}
use Rattle.machine.specs.declared.Dimension.{Dimension}
use Rattle.machine.specs.declared.Dimension.TheVariants.{DimensionM, DimensionK, DimensionN}
use Rattle.machine.specs.Tests.{is_in}
use Rattle.machine.specs.Answers.{bare}
use Rattle.machine.specs.Geometry.{Range, sealed, Parameters, parameters, State, state_of, Bench, register_at, tile_at, acc_at}
use Rattle.machine.specs.Setting.{sew, maccq, mill, maximum, size_in}
use Rattle.machine.specs.Listing.{decode}
use Rattle.machine.specs.Memory.{row_z, row_at}
use Rattle.machine.specs.Vectors.{Vectors}
use Rattle.machine.specs.Operation.{Operation, illegal, set_type, set_size, cut_size, load, store, multiply, combine, scale, float_multiply, move_out, move_in, operation_in, rows_of, columns_of, tile_rows, tile_cols, memory_rows, memory_cols}
use Rattle.machine.specs.ArithmeticWords.{is_zero}
use Rattle.machine.specs.Step.{step_with}
use Rattle.machine.specs.WordTheorems.{Faultless, RightOpcode, IsOurs, OutOfRange, RefusedAs}

-- ---- 2

-- "mill is set and the word isn't msettype or msettypei"
abbrev pub TypeIsIllegal : State → Operation → Type 0
TypeIsIllegal st op = (mill st.mtype ≡ true) × ¬ ((v : ℕ) × (op ≡ set_type v))

-- ---- 3: "a width rule above is broken"

-- "For A and B the element width must be SEW. For C it may be SEW, 2 x SEW, or with maccq 4 x SEW, never above ELEN."
abbrev pub WidthInMemory : (elen t : ℕ) → Matrix → (w : ℕ) → Type 0
WidthInMemory elen t MatrixA w = w ≡ sew t
WidthInMemory elen t MatrixB w = w ≡ sew t
WidthInMemory elen t MatrixC w = (8 * w ≤ elen) × ((w ≡ sew t) ⊎ (w ≡ 2 * sew t) ⊎ ((maccq t ≡ true) × (w ≡ 4 * sew t)))

-- "Double needs 2 x SEW at most ELEN; quadruple needs maccq; both hold for element-wise words too."
abbrev pub WidthOfOutput : (elen t f : ℕ) → Type 0
WidthOfOutput elen t f = (f * (8 * sew t) ≤ elen) × ((f ≡ 1) ⊎ (f ≡ 2) ⊎ ((f ≡ 4) × (maccq t ≡ true)))

-- the width rule that an operation has to keep; 02, Four: "a SEW other than 32 gets 3"
abbrev pub KeepsWidths : (elen t : ℕ) → Operation → Type 0
KeepsWidths elen t (illegal wrong) = Unit {0}
KeepsWidths elen t (set_type v) = Unit {0}
KeepsWidths elen t (set_size d a) = Unit {0}
KeepsWidths elen t (cut_size d) = Unit {0}
KeepsWidths elen t (load f k r w base stride) = WidthInMemory elen t k w
KeepsWidths elen t (store f k r w base stride) = WidthInMemory elen t k w
KeepsWidths elen t (multiply f d a b) = WidthOfOutput elen t f
KeepsWidths elen t (combine o f d a) = WidthOfOutput elen t f
KeepsWidths elen t (scale f d a x) = WidthOfOutput elen t f
KeepsWidths elen t (float_multiply d a b) = 8 * sew t ≡ 32
KeepsWidths elen t (move_out f a v first count) = Unit {0}
KeepsWidths elen t (move_in f d v first count file) = Unit {0}

abbrev pub WidthIsBroken : Parameters → State → Operation → Type 0
WidthIsBroken M st op = ¬ KeepsWidths M.elen st.mtype op

-- ---- 4: "a tile size the instruction uses exceeds its maximum under mtype"

-- the tile sizes that an operation uses
abbrev pub uses : Operation → List Dimension
uses (illegal wrong) = []
uses (set_type v) = []
uses (set_size d a) = []
uses (cut_size d) = []
uses (load f k r w base stride) = rows_of k ∷ columns_of k ∷ []
uses (store f k r w base stride) = rows_of k ∷ columns_of k ∷ []
uses (multiply f d a b) = DimensionM ∷ DimensionK ∷ DimensionN ∷ []
uses (combine o f d a) = DimensionM ∷ DimensionN ∷ []
uses (scale f d a x) = DimensionM ∷ DimensionN ∷ []
uses (float_multiply d a b) = DimensionM ∷ DimensionK ∷ DimensionN ∷ []
uses (move_out f a v first count) = DimensionM ∷ DimensionN ∷ []
uses (move_in f d v first count file) = DimensionM ∷ DimensionN ∷ []

-- 02, Eleven: "a slice past the tile, or one row or column that exceeds 128 bits, gets 4"
abbrev pub LinesTooLarge : State → Form → (first count : ℕ) → Type 0
LinesTooLarge st Plain first count = (st.tile_m < first + count) ⊎ (128 < st.tile_n * (8 * sew st.mtype))
LinesTooLarge st Transposed first count = (st.tile_n < first + count) ⊎ (128 < st.tile_m * (8 * sew st.mtype))

abbrev pub SliceTooLarge : State → Operation → Type 0
SliceTooLarge st (illegal wrong) = ⊥
SliceTooLarge st (set_type v) = ⊥
SliceTooLarge st (set_size d a) = ⊥
SliceTooLarge st (cut_size d) = ⊥
SliceTooLarge st (load f k r w base stride) = ⊥
SliceTooLarge st (store f k r w base stride) = ⊥
SliceTooLarge st (multiply f d a b) = ⊥
SliceTooLarge st (combine o f d a) = ⊥
SliceTooLarge st (scale f d a x) = ⊥
SliceTooLarge st (float_multiply d a b) = ⊥
SliceTooLarge st (move_out f a v first count) = LinesTooLarge st f first count
SliceTooLarge st (move_in f d v first count file) = LinesTooLarge st f first count

abbrev pub SizeTooLarge : Parameters → State → Operation → Type 0
SizeTooLarge M st op = ((d : Dimension) × List-as-Memᴰ d (uses op) × (maximum M st.mtype d < size_in d st)) ⊎ SliceTooLarge st op

-- ---- 5: "a register element to be read has a byte without a mark"

-- elements of a register: where each row starts, how many rows and columns, the bytes of an element, and the row and column of the first in its register
pub record Source : Type 0 where
  pub at : ℕ → ℕ
  pub rows : ℕ
  pub columns : ℕ
  pub width : ℕ
  pub top : ℕ
  pub left : ℕ

abbrev pub tile : (ℕ → ℕ) → (rows columns width : ℕ) → Source
tile at rows columns width = record { at = at; rows = rows; columns = columns; width = width; top = 0; left = 0 }

-- the elements of an accumulator from row `top` and column `left` on, so many rows and columns of them (02, Eleven)
abbrev pub part : Parameters → (accumulator top left rows columns width : ℕ) → Source
part M accumulator top left rows columns width =
    record { at = λ i. acc_at M accumulator (top + i) + left * width; rows = rows; columns = columns; width = width; top = top; left = left }

-- so many rows of the C tile from `first` on, or columns
abbrev pub slice : Parameters → State → Form → (accumulator first count : ℕ) → Source
slice M st Plain accumulator first count = part M accumulator first 0 count st.tile_n (sew st.mtype)
slice M st Transposed accumulator first count = part M accumulator 0 first st.tile_m count (sew st.mtype)

-- "A multiply reads its three tiles whole, but nothing where C has no element."
abbrev pub factors : Parameters → State → (wide d a b : ℕ) → List Source
factors M st wide d a b =
    cond (eqb (st.tile_m * st.tile_n) 0) []
    (tile (tile_at M a) st.tile_m st.tile_k (sew st.mtype)
    ∷ tile (tile_at M b) st.tile_k st.tile_n (sew st.mtype)
    ∷ tile (acc_at M d) st.tile_m st.tile_n wide ∷ [])

-- what an operation reads, "sources go ms1, ms2, md"; "If that multiplier is 0, ms1 isn't read"
abbrev pub reads : Parameters → State → Operation → List Source
reads M st (illegal wrong) = []
reads M st (set_type v) = []
reads M st (set_size d a) = []
reads M st (cut_size d) = []
reads M st (load f k r w base stride) = []
reads M st (store f k r w base stride) = tile (register_at M k r) (tile_rows st k) (tile_cols st k) w ∷ []
reads M st (multiply f d a b) = factors M st (f * sew st.mtype) d a b
reads M st (combine o f d a) =
    tile (acc_at M a) st.tile_m st.tile_n (sew st.mtype) ∷ tile (acc_at M d) st.tile_m st.tile_n (f * sew st.mtype) ∷ []
reads M st (scale f d a x) = cond (is_zero x) [] (tile (acc_at M a) st.tile_m st.tile_n (sew st.mtype) ∷ [])
reads M st (float_multiply d a b) = factors M st (sew st.mtype) d a b
reads M st (move_out f a v first count) = slice M st f a first count ∷ []
reads M st (move_in f d v first count file) = []

module _ (marks : List ℕ) where
  -- each byte of element (i, j) has its mark
  abbrev pub Written : Source → (i j : ℕ) → Type 0
  Written E i j = (b : ℕ) → b < E.width → get_or marks (E.at i + j * E.width + b) 0 ≡ 1

  -- or one has none
  abbrev pub Unmarked : Source → (i j : ℕ) → Type 0
  Unmarked E i j = (b : ℕ) × (b < E.width) × ¬ (get_or marks (E.at i + j * E.width + b) 0 ≡ 1)

  abbrev pub AllWritten : Source → Type 0
  AllWritten E = (i j : ℕ) → i < E.rows → j < E.columns → Written E i j

  -- "the first such element, row by row": (i, j), which is one, behind which rows and elements all are written
  pub record First (E : Source) (i j : ℕ) : Type 0 where
    pub row-there : i < E.rows
    pub column-there : j < E.columns
    pub without-mark : Unmarked E i j
    pub rows_before : (k l : ℕ) → k < i → l < E.columns → Written E k l
    pub columns-before : (l : ℕ) → l < j → Written E i l

  -- the first of several, one after the other
  abbrev pub FirstAmong : List Source → (row column : ℕ) → Type 0
  FirstAmong [] row column = ⊥
  FirstAmong (E ∷ Es) row column =
      ((i : ℕ) × (j : ℕ) × First E i j × (row ≡ E.top + i) × (column ≡ E.left + j)) ⊎ (AllWritten E × FirstAmong Es row column)

-- an element to be read is not written
abbrev pub NotWritten : Parameters → State → Operation → Type 0
NotWritten M st op = (row : ℕ) × (column : ℕ) × FirstAmong st.marks (reads M st op) row column

-- ---- 6, 13 and 7

-- rows of bytes in memory
pub record Rows : Type 0 where
  pub base : ℕ
  pub stride : ℕ
  pub count : ℕ
  pub size : ℕ

abbrev pub rows_for : State → Form → Matrix → (w base stride : ℕ) → Rows
rows_for st f k w base stride = record {
  base = base;
  stride = stride;
  count = memory_rows f (tile_rows st k) (tile_cols st k);
  size = memory_cols f (tile_rows st k) (tile_cols st k) * w;
}

abbrev pub no_rows : Rows
no_rows = record { base = 0; stride = 0; count = 0; size = 0 }

-- the rows that a store writes
abbrev pub writes : State → Operation → Rows
writes st (illegal wrong) = no_rows
writes st (set_type v) = no_rows
writes st (set_size d a) = no_rows
writes st (cut_size d) = no_rows
writes st (load f k r w base stride) = no_rows
writes st (store f k r w base stride) = rows_for st f k w base stride
writes st (multiply f d a b) = no_rows
writes st (combine o f d a) = no_rows
writes st (scale f d a x) = no_rows
writes st (float_multiply d a b) = no_rows
writes st (move_out f a v first count) = no_rows
writes st (move_in f d v first count file) = no_rows

-- the rows that a load or a store has in memory
abbrev pub touches : State → Operation → Rows
touches st (illegal wrong) = no_rows
touches st (set_type v) = no_rows
touches st (set_size d a) = no_rows
touches st (cut_size d) = no_rows
touches st (load f k r w base stride) = rows_for st f k w base stride
touches st (store f k r w base stride) = rows_for st f k w base stride
touches st (multiply f d a b) = no_rows
touches st (combine o f d a) = no_rows
touches st (scale f d a x) = no_rows
touches st (float_multiply d a b) = no_rows
touches st (move_out f a v first count) = no_rows
touches st (move_in f d v first count file) = no_rows

-- 6: "an element's byte lies outside memory": byte b of row i, as whole numbers that don't wrap
abbrev pub LiesOutside : List ℕ → Rows → Type 0
LiesOutside memory R = (i : ℕ) × (b : ℕ) × (i < R.count) × (b < R.size)
    × ¬ ((p : ℕ) × (row_z R.base R.stride i +ℤ pos b ≡ pos p) × (p < length memory))

-- byte q is one of row i
abbrev pub InRow : Rows → (i q : ℕ) → Type 0
InRow R i q = In (row_at R.base R.stride i) R.size q

-- 13, of 02, Seven: a store "in which a byte belongs to two rows"
abbrev pub InTwoRows : Rows → Type 0
InTwoRows R = (i : ℕ) × (k : ℕ) × (q : ℕ) × (i < k) × (k < R.count) × InRow R i q × InRow R k q

-- 7: "a store would write a sealed byte"
abbrev pub WritesSealed : List Range → Rows → Type 0
WritesSealed seals R = (i : ℕ) × (q : ℕ) × (i < R.count) × InRow R i q × (sealed seals q ≡ true)

-- ---- the answers of a step, exactly

-- one sentence after the other: the first does not hold, and the next does
infixr 3 ◌else◌
abbrev pub ◌else◌ : Type 0 → Type 0 → Type 0
S else X = ¬ S × X

module _ (grant : Choice) (word : ℕ) (xs : List ℕ) (W : Vectors) (B : Bench) where
  abbrev M : Parameters
  M = parameters grant B.machine

  abbrev st : State
  st = state_of B.machine B.registers B.marks

  -- the word's instruction, with the values of its scalars
  abbrev op : Operation
  op = operation_in W M st xs (decode word)

  -- none of 8, 10, 11, 1 and 12: a word of ours with registers in range, in a state that is not at fault
  pub record Legal : Type 0 where
    pub faultless : Faultless xs W B
    pub opcode : RightOpcode word
    pub of-ours : IsOurs word
    pub in-range : ¬ OutOfRange W word

  -- the sentences, in the order in which they are looked at
  abbrev pub IllegalType : Type 0
  IllegalType = TypeIsIllegal st op

  abbrev pub WrongWidth : Type 0
  WrongWidth = WidthIsBroken M st op

  abbrev pub TooLarge : Type 0
  TooLarge = SizeTooLarge M st op

  abbrev pub Unwritten : Type 0
  Unwritten = NotWritten M st op

  abbrev pub Outside : Type 0
  Outside = LiesOutside B.memory (touches st op)

  abbrev pub SharedByte : Type 0
  SharedByte = InTwoRows (writes st op)

  abbrev pub SealedByte : Type 0
  SealedByte = WritesSealed B.seals (writes st op)

  -- "Given exactly when": each sentence holds and none before it
  pub record GivenExactly (answer : Reply) : Type 0 where
    pub eight : (answer.number ≡ 8) ↔ ¬ Faultless xs W B
    -- 10, 11, 1 and 12
    pub by_code : RefusedAs answer.number word xs W B
    pub two : (answer.number ≡ 2) ↔ Legal × IllegalType
    pub three : (answer.number ≡ 3) ↔ Legal × (IllegalType else WrongWidth)
    pub four : (answer.number ≡ 4) ↔ Legal × (IllegalType else WrongWidth else TooLarge)
    pub five : (answer.number ≡ 5) ↔ Legal × (IllegalType else WrongWidth else TooLarge else Unwritten)
    pub six : (answer.number ≡ 6) ↔ Legal × (IllegalType else WrongWidth else TooLarge else Unwritten else Outside)
    pub thirteen : (answer.number ≡ 13) ↔ Legal × (IllegalType else WrongWidth else TooLarge else Unwritten else Outside else SharedByte)
    pub seven : (answer.number ≡ 7) ↔ Legal × (IllegalType else WrongWidth else TooLarge else Unwritten else Outside else SharedByte else SealedByte)
    pub nought : (answer.number ≡ 0) ↔ Legal × (IllegalType else WrongWidth else TooLarge else Unwritten else Outside else SharedByte else ¬ SealedByte)
    -- no other: 9 and 14 to 17 are never a step's
    pub no_other : is_in answer.number (0 ∷ 1 ∷ 2 ∷ 3 ∷ 4 ∷ 5 ∷ 6 ∷ 7 ∷ 8 ∷ 10 ∷ 11 ∷ 12 ∷ 13 ∷ []) ≡ true
    -- "Answer 5 names the row and column of the first such element, row by row; sources go ms1, ms2, md. Elsewhere both are 0."
    pub named : answer.number ≡ 5 → FirstAmong B.marks (reads M st op) answer.row answer.column
    pub elsewhere : ¬ (answer.number ≡ 5) → answer ≡ bare answer.number

-- Demand 2: "refusals are exact". For every choice of sizes, word, scalars, vector file, machine, state and memory
abbrev pub StepAnswersExactly : Type 0
StepAnswersExactly = (grant : Choice) (word : ℕ) (xs : List ℕ) (W : Vectors) (B : Bench)
    → GivenExactly grant word xs W B (step_with grant word xs W B).answer
