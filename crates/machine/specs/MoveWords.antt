-- 02, Eleven: moves between an accumulator and vector registers. Rows are the plain form and columns the transposed one.
use Rattle.std.specs.Prelude.{◌∷◌, ◌++◌, ◌+◌, ◌*◌}
use Rattle.numbers.specs.Kit.{List, [], ℕ, leb}
use Rattle.numbers.specs.Tile.{put_tile}
use Rattle.machine.specs.declared.Refusal.{Refusal}
use Rattle.machine.specs.declared.Refusal.TheVariants.{TileTooLarge, Unwritten}
use Rattle.machine.specs.declared.Matrix.TheVariants.{MatrixC}
use Rattle.machine.specs.declared.Form.{Form}
use Rattle.machine.specs.declared.Form.TheVariants.{Plain, Transposed}
use Rattle.machine.specs.declared.Dimension.TheVariants.{DimensionM, DimensionN}
use Rattle.machine.specs.Answers.{Check, ◌otherwise◌}
use Rattle.machine.specs.Geometry.{Parameters, State, start_of, pitch_of}
use Rattle.machine.specs.Setting.{sew}
use Rattle.machine.specs.Operation.{memory_rows, memory_cols, placed, element, written}
use Rattle.machine.specs.Refusals.{typed, fitting, marked, first_row, first_column}
use Rattle.machine.specs.Vectors.{vector_bytes, vector_at}
use Rattle.machine.specs.Meaning.{Meaning}

-- ---- slices of an accumulator

-- how many rows or columns the C tile has, and the elements of one
abbrev pub lines_of : Form → State → ℕ
lines_of Plain st = st.tile_m
lines_of Transposed st = st.tile_n

abbrev pub line_of : Form → State → ℕ
line_of Plain st = st.tile_n
line_of Transposed st = st.tile_m

-- where the first element of a slice starts in accumulator r: element (first, 0) of rows, (0, first) of columns
abbrev pub corner_of : Parameters → Form → (r first w : ℕ) → ℕ
corner_of M Plain r first w = start_of M MatrixC r + first * pitch_of M MatrixC
corner_of M Transposed r first w = start_of M MatrixC r + first * w

-- and where row i of it starts
abbrev pub slice_at : Parameters → Form → (r first w : ℕ) → ℕ → ℕ
slice_at M f r first w i = corner_of M f r first w + i * pitch_of M MatrixC

-- how many rows and columns it has there: as many rows of a line's elements, or a line's rows of as many
abbrev pub slice_rows : Form → State → ℕ → ℕ
slice_rows f st count = memory_rows f count (line_of f st)

abbrev pub slice_cols : Form → State → ℕ → ℕ
slice_cols f st count = memory_cols f count (line_of f st)

-- ---- their checks

-- 2 and 4 of a move: "a slice past the tile, or one row or column that exceeds 128 bits, gets 4"
abbrev pub slice_fits : Parameters → Form → (first count : ℕ) → State → List Check
slice_fits M f first count st =
    typed st
    ∷ fitting M st DimensionM
    ∷ fitting M st DimensionN
    ∷ (leb (first + count) (lines_of f st) otherwise TileTooLarge)
    ∷ (leb (line_of f st * sew st.mtype) vector_bytes otherwise TileTooLarge) ∷ []

-- 5 of a slice: "row and column" are those of the accumulator; the first element in the order of its rows
abbrev pub unwritten_in : Form → (first row column : ℕ) → Refusal
unwritten_in Plain first row column = Unwritten (first + row) column
unwritten_in Transposed first row column = Unwritten row (first + column)

abbrev pub slice_needs : Form → ℕ → List ℕ → (ℕ → ℕ) → (rows cols w : ℕ) → Check
slice_needs f first ms at rows cols w =
    marked ms at rows (cols * w) otherwise
    unwritten_in f first (first_row ms at rows (cols * w)) (first_column ms (at (first_row ms at rows (cols * w))) cols w)

-- ---- the words: "each to or from the next register of the group, its elements of SEW bits from byte 0 on; other vector bytes stay"

-- what is moved out was written
abbrev pub moving_out : Parameters → State → Form → (a v first count : ℕ) → Meaning
moving_out M st f a v first count = record {
  checks = λ isSealed mem.
      slice_fits M f first count st
      ++ (slice_needs f first st.marks (slice_at M f a first (sew st.mtype)) (slice_rows f st count) (slice_cols f st count) (sew st.mtype) ∷ []);
  state = λ mem. st;
  memory = λ mem. mem;
  vectors = λ file.
      put_tile (vector_at v) count (line_of f st) (sew st.mtype) (placed f (element st.regs (slice_at M f a first (sew st.mtype)) (sew st.mtype))) file;
  result = 0;
}

-- of rows, element (i, j) of the slice is element j of register i of the group; of columns, element i of register j
abbrev pub moving_in : Parameters → State → Form → (d v first count : ℕ) → List ℕ → Meaning
moving_in M st f d v first count source = record {
  checks = λ isSealed mem. slice_fits M f first count st;
  state = λ mem.
      written st (slice_at M f d first (sew st.mtype)) (slice_rows f st count) (slice_cols f st count) (sew st.mtype)
      (placed f (element source (vector_at v) (sew st.mtype)));
  memory = λ mem. mem;
  vectors = λ file. file;
  result = 0;
}
