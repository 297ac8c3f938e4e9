-- 01, "Setting mtype and tile sizes", and 02, Three and Eight: words that are refused for what they are, and settings.
use Rattle.std.specs.Prelude.{◌∷◌}
use Rattle.numbers.specs.Kit.{false, [], ℕ}
use Rattle.machine.specs.declared.Wrong.{Wrong}
use Rattle.machine.specs.declared.Dimension.{Dimension}
use Rattle.machine.specs.declared.Dimension.TheVariants.{DimensionM, DimensionK, DimensionN}
use Rattle.machine.specs.Answers.{◌otherwise◌}
use Rattle.machine.specs.Geometry.{Parameters, State}
use Rattle.machine.specs.Setting.{new_type, maximum, size_in, smaller}
use Rattle.machine.specs.Refusals.{word_answer, typed}
use Rattle.machine.specs.Meaning.{Meaning}

abbrev pub refused_word : State → Wrong → Meaning
refused_word st wrong = record {
  checks = λ isSealed mem. (false otherwise word_answer wrong) ∷ [];
  state = λ mem. st;
  memory = λ mem. mem;
  vectors = λ file. file;
  result = 0;
}

abbrev pub sized : State → ℕ → ℕ → ℕ → ℕ → State
sized st t m k n = record { regs = st.regs; marks = st.marks; mtype = t; tile_m = m; tile_k = k; tile_n = n }

-- another size of a dimension
abbrev pub resized : Dimension → ℕ → State → State
resized DimensionM a st = sized st st.mtype a st.tile_k st.tile_n
resized DimensionK a st = sized st st.mtype st.tile_m a st.tile_n
resized DimensionN a st = sized st st.mtype st.tile_m st.tile_k a

-- "Tile sizes stay."; "rd receives the new mtype"
abbrev pub type_setting : Parameters → State → ℕ → Meaning
type_setting M st v = record {
  checks = λ isSealed mem. [];
  state = λ mem. sized st (new_type M.elen v) st.tile_m st.tile_k st.tile_n;
  memory = λ mem. mem;
  vectors = λ file. file;
  result = new_type M.elen v;
}

-- "The new tile size is the smaller of the asked size and the maximum", or, 02, Eight, as the machine's rule grants it; it "goes to rd too"
abbrev pub granted : Parameters → State → Dimension → ℕ → ℕ
granted M st d asked = M.grant (maximum M st.mtype d) asked

abbrev pub size_setting : Parameters → State → Dimension → ℕ → Meaning
size_setting M st d asked = record {
  checks = λ isSealed mem. typed st ∷ [];
  state = λ mem. resized d (granted M st d asked) st;
  memory = λ mem. mem;
  vectors = λ file. file;
  result = granted M st d asked;
}

-- 02, Three: "the size is kept if less than the maximum. From now on it becomes the smaller of the two." Eight: it "stays the smaller of the
-- two under either rule"
abbrev pub size_cut : Parameters → State → Dimension → Meaning
size_cut M st d = record {
  checks = λ isSealed mem. typed st ∷ [];
  state = λ mem. resized d (smaller (maximum M st.mtype d) (size_in d st)) st;
  memory = λ mem. mem;
  vectors = λ file. file;
  result = 0;
}
