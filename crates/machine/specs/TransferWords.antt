-- 01, "Loading, storing, reckoning", and 02, Two and Seven: loads and stores.
use Rattle.std.specs.Prelude.{◌&&◌, ◌||◌, ◌∷◌, ◌*◌}
use Rattle.numbers.specs.Kit.{Bool, false, [], ℕ, leb, eqb, length}
use Rattle.machine.specs.declared.Refusal.TheVariants.{BadWidth, OutsideMemory, SealedByte, RowsOverlap}
use Rattle.machine.specs.declared.Matrix.{Matrix}
use Rattle.machine.specs.declared.Matrix.TheVariants.{MatrixA, MatrixB, MatrixC}
use Rattle.machine.specs.declared.Form.{Form}
use Rattle.machine.specs.Answers.{◌otherwise◌}
use Rattle.machine.specs.Geometry.{Parameters, State, register_at}
use Rattle.machine.specs.Setting.{sew, maccq}
use Rattle.machine.specs.Memory.{row_at, inside, distinct, rows_miss, stored}
use Rattle.machine.specs.Operation.{rows_of, columns_of, tile_rows, tile_cols, memory_rows, memory_cols, placed, element, written}
use Rattle.machine.specs.Refusals.{typed, fitting, needs}
use Rattle.machine.specs.Meaning.{Meaning}

-- 3: "a width rule above is broken". "For A and B the element width must be SEW. For C it may be SEW, 2 x SEW, or with maccq
-- 4 x SEW, never above ELEN."
unfoldable pub width_of : ℕ → ℕ → Matrix → ℕ → Bool
width_of elen t MatrixA w = eqb w (sew t)
width_of elen t MatrixB w = eqb w (sew t)
width_of elen t MatrixC w = leb (8 * w) elen && (eqb w (sew t) || (eqb w (2 * sew t) || (maccq t && eqb w (4 * sew t))))

-- 6: "an element's byte lies outside memory". 02, Two: "State, marks and checks are as for the plain forms"
abbrev pub loading : Parameters → State → Form → Matrix → (r w base stride : ℕ) → Meaning
loading M st f k r w base stride = record {
  checks = λ isSealed mem.
      typed st
      ∷ (width_of M.elen st.mtype k w otherwise BadWidth)
      ∷ fitting M st (rows_of k)
      ∷ fitting M st (columns_of k)
      ∷ (inside (length mem) base stride (memory_rows f (tile_rows st k) (tile_cols st k)) (memory_cols f (tile_rows st k) (tile_cols st k) * w) otherwise OutsideMemory) ∷ [];
  state = λ mem. written st (register_at M k r) (tile_rows st k) (tile_cols st k) w (placed f (element mem (row_at base stride) w));
  memory = λ mem. mem;
  vectors = λ file. file;
  result = 0;
}

-- 7: "a store would write a sealed byte". 02, Two: "answer 5 names row and column in the register". 02, Seven: "Refuse a store, transposed too, in
-- which a byte belongs to two rows. .. 13, after 6 and before 7": so each element lies where it belongs, whatever the order of rows
abbrev pub storing : Parameters → State → Form → Matrix → (r w base stride : ℕ) → Meaning
storing M st f k r w base stride = record {
  checks = λ isSealed mem.
      typed st
      ∷ (width_of M.elen st.mtype k w otherwise BadWidth)
      ∷ fitting M st (rows_of k)
      ∷ fitting M st (columns_of k)
      ∷ needs false st.marks (register_at M k r) (tile_rows st k) (tile_cols st k) w
      ∷ (inside (length mem) base stride (memory_rows f (tile_rows st k) (tile_cols st k)) (memory_cols f (tile_rows st k) (tile_cols st k) * w) otherwise OutsideMemory)
      ∷ (distinct (row_at base stride) (memory_rows f (tile_rows st k) (tile_cols st k)) (memory_cols f (tile_rows st k) (tile_cols st k) * w) otherwise RowsOverlap)
      ∷ (rows_miss isSealed base stride (memory_rows f (tile_rows st k) (tile_cols st k)) (memory_cols f (tile_rows st k) (tile_cols st k) * w) otherwise SealedByte) ∷ [];
  state = λ mem. st;
  memory = λ mem.
      stored (row_at base stride) (memory_rows f (tile_rows st k) (tile_cols st k)) (memory_cols f (tile_rows st k) (tile_cols st k)) w
      (placed f (element st.regs (register_at M k r) w)) mem;
  vectors = λ file. file;
  result = 0;
}
