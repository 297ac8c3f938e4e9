-- 01, "Loading, storing, reckoning", and 02, Two, Four and Eleven: the operations, which are the instructions once their scalars are read, and
-- the tiles that they work on. What each is refused by and what it leaves is one record: SettingWords, TransferWords, ArithmeticWords, MoveWords.
use Rattle.std.specs.Prelude.{◌+◌, ◌*◌, ◌%◌, ◌^◌}
use Rattle.numbers.specs.Kit.{cond, List, ℕ, eqb, ℤ}
use Rattle.numbers.specs.Tile.{get_le, put_tile, mark_tile}
use Rattle.numbers.specs.Reduce.{signed}
use Rattle.machine.specs.declared.Matrix.{Matrix}
use Rattle.machine.specs.declared.Matrix.TheVariants.{MatrixA, MatrixB, MatrixC}
use Rattle.machine.specs.declared.Form.{Form}
use Rattle.machine.specs.declared.Form.TheVariants.{Plain, Transposed}
use Rattle.machine.specs.declared.Dimension.{Dimension}
use Rattle.machine.specs.declared.Dimension.TheVariants.{DimensionM, DimensionK, DimensionN}
use Rattle.machine.specs.declared.Factor.{Factor}
use Rattle.machine.specs.declared.Factor.TheVariants.{Single, Double, Quadruple}
use Rattle.machine.specs.declared.Sum.{Sum}
use Rattle.machine.specs.declared.Wrong.{Wrong}
use Rattle.machine.specs.declared.Wrong.TheVariants.{Register}
use Rattle.machine.specs.declared.Instruction.{Instruction}
use Rattle.machine.specs.declared.Instruction.TheVariants.{Illegal, SetTypeImmediate, SetType, SetTileImmediate, SetTile, Load, Store, Multiply, Combine, Scale, ScaleImmediate, FloatMultiply, MoveOut, MoveIn}
use Rattle.machine.specs.Geometry.{Parameters, State, scalar}
use Rattle.machine.specs.Setting.{sew, maximum, size_in}
use Rattle.machine.specs.Vectors.{Vectors, aligned, idle}

-- ---- an instruction with the values of its scalars

-- a new mtype; a size that is asked, or none, which cuts the size; plain or transposed, a matrix, a register, a width, an address and a stride;
-- an output factor, md, ms1 and ms2; which sum, an output factor, md and ms1; an output factor, md, ms1 and the multiplier; md, ms1 and ms2; rows
-- or columns, ms1, vd, the first of them and how many; rows or columns, md, vs1, the first, how many, and the vector file
pub data Operation : Type 0 where
  illegal : Wrong → Operation
  set_type : ℕ → Operation
  set_size : Dimension → ℕ → Operation
  cut_size : Dimension → Operation
  load : Form → Matrix → (r w base stride : ℕ) → Operation
  store : Form → Matrix → (r w base stride : ℕ) → Operation
  multiply : (f d a b : ℕ) → Operation
  combine : Sum → (f d a : ℕ) → Operation
  scale : (f d a : ℕ) → ℤ → Operation
  float_multiply : (d a b : ℕ) → Operation
  move_out : Form → (a v first count : ℕ) → Operation
  move_in : Form → (d v first count : ℕ) → List ℕ → Operation

-- "The asked size is .. rs1 not x0, the scalar; rs1 x0 and rd not x0, the maximum. With both x0 nothing is asked"
abbrev pub asked_size : Parameters → State → Dimension → ℕ → ℕ → List ℕ → Operation
asked_size M st d rd rs1 xs =
    cond (eqb rs1 0)
    (cond (eqb rd 0) (cut_size d) (set_size d (maximum M st.mtype d)))
    (set_size d (scalar xs rs1))

-- "at 1, 2 or 4 times SEW"
abbrev pub times : Factor → ℕ
times Single = 1
times Double = 2
times Quadruple = 4

-- the instruction with its scalars read; the multiplier is "the low SEW bits of the scalar, signed, or the five-bit immediate,
-- -16 to 15"
abbrev pub operation_in : Vectors → Parameters → State → List ℕ → Instruction → Operation
operation_in W M st xs (Illegal wrong) = illegal wrong
operation_in W M st xs (SetTypeImmediate rd immediate) = set_type immediate
operation_in W M st xs (SetType rd rs1) = set_type (scalar xs rs1)
operation_in W M st xs (SetTileImmediate dimension rd immediate) = set_size dimension immediate
operation_in W M st xs (SetTile dimension rd rs1) = asked_size M st dimension rd rs1 xs
operation_in W M st xs (Load form matrix width md rs1 rs2) = load form matrix md width (scalar xs rs1) (scalar xs rs2)
operation_in W M st xs (Store form matrix width ms3 rs1 rs2) = store form matrix ms3 width (scalar xs rs1) (scalar xs rs2)
operation_in W M st xs (Multiply factor md ms1 ms2) = multiply (times factor) md ms1 ms2
operation_in W M st xs (Combine sum factor md ms1) = combine sum (times factor) md ms1
operation_in W M st xs (Scale factor md ms1 rs2) =
    scale (times factor) md ms1 (signed (256 ^ sew st.mtype) (scalar xs rs2 % 256 ^ sew st.mtype))
operation_in W M st xs (ScaleImmediate factor md ms1 immediate) = scale (times factor) md ms1 (signed 32 immediate)
operation_in W M st xs (FloatMultiply md ms1 ms2) = float_multiply md ms1 ms2
-- 02, Eleven: "The group size is the number of rows or columns moved, from the scalar onward"; "a misaligned group gets 12"
operation_in W M st xs (MoveOut form vd ms1 rs2) = cond (aligned W vd) (move_out form ms1 vd (scalar xs rs2) W.group) (illegal Register)
operation_in W M st xs (MoveIn form md vs1 rs2) = cond (aligned W vs1) (move_in form md vs1 (scalar xs rs2) W.group W.file) (illegal Register)

-- of a step that is lent no vector file
abbrev pub operation : Parameters → State → List ℕ → Instruction → Operation
operation = operation_in idle

-- ---- tiles

-- "A is tile_m by tile_k, B tile_k by tile_n, C tile_m by tile_n."
abbrev pub rows_of : Matrix → Dimension
rows_of MatrixA = DimensionM
rows_of MatrixB = DimensionK
rows_of MatrixC = DimensionM

abbrev pub columns_of : Matrix → Dimension
columns_of MatrixA = DimensionK
columns_of MatrixB = DimensionN
columns_of MatrixC = DimensionN

abbrev pub tile_rows : State → Matrix → ℕ
tile_rows st k = size_in (rows_of k) st

abbrev pub tile_cols : State → Matrix → ℕ
tile_cols st k = size_in (columns_of k) st

-- 02, Two: "In memory the tile then has the other shape (A tile_k by tile_m, and so on ..)", from the rows and columns in the register
abbrev pub memory_rows : Form → (rows cols : ℕ) → ℕ
memory_rows Plain rows cols = rows
memory_rows Transposed rows cols = cols

abbrev pub memory_cols : Form → (rows cols : ℕ) → ℕ
memory_cols Plain rows cols = cols
memory_cols Transposed rows cols = rows

-- ".. and row and column change places on the way": what is element (i, j) here is element (j, i) there
abbrev pub placed : Form → (ℕ → ℕ → ℕ) → ℕ → ℕ → ℕ
placed Plain value = value
placed Transposed value = λ i j. value j i

-- "Element (i, j) of w bits starts in row i at byte j x w/8, low byte first."
abbrev pub element : List ℕ → (ℕ → ℕ) → ℕ → ℕ → ℕ → ℕ
element xs at w i j = get_le xs (at i + j * w) w

-- a tile of a register written: "each word marks every register byte that it writes"
abbrev pub written : State → (ℕ → ℕ) → ℕ → ℕ → ℕ → (ℕ → ℕ → ℕ) → State
written st at rows cols w value = record {
  regs = put_tile at rows cols w value st.regs;
  marks = mark_tile at rows (cols * w) st.marks;
  mtype = st.mtype;
  tile_m = st.tile_m;
  tile_k = st.tile_k;
  tile_n = st.tile_n;
}
