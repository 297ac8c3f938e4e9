-- 01, "Loading, storing, reckoning", and 02, Four: multiplies and element-wise words.
use Rattle.std.specs.Prelude.{◌&&◌, ◌||◌, ◌∷◌, ◌*◌, ◌^◌, ◌+ℤ◌, ◌-ℤ◌, ◌*ℤ◌}
use Rattle.numbers.specs.Kit.{Bool, true, false, List, [], ℕ, zero, suc, leb, eqb, ℤ, pos, negsuc}
use Rattle.numbers.specs.Reduce.{signed, reduce, sumℤ}
use Rattle.numbers.specs.Binary32.{float_product}
use Rattle.machine.specs.declared.Refusal.TheVariants.{BadWidth}
use Rattle.machine.specs.declared.Dimension.TheVariants.{DimensionM, DimensionK, DimensionN}
use Rattle.machine.specs.declared.Sum.{Sum}
use Rattle.machine.specs.declared.Sum.TheVariants.{Add, Subtract, ReverseSubtract}
use Rattle.machine.specs.Answers.{Check, ◌otherwise◌}
use Rattle.machine.specs.Geometry.{Parameters, State, tile_at, acc_at}
use Rattle.machine.specs.Setting.{sew, maccq}
use Rattle.machine.specs.Operation.{element, written}
use Rattle.machine.specs.Refusals.{typed, fitting, needs}
use Rattle.machine.specs.Meaning.{Meaning}

-- 3: "Double needs 2 x SEW at most ELEN; quadruple needs maccq; both hold for element-wise words too."
unfoldable pub width_ok : ℕ → ℕ → ℕ → Bool
width_ok elen t f = leb (f * (8 * sew t)) elen && (eqb f 1 || (eqb f 2 || (eqb f 4 && maccq t)))

-- 4 and 5 of a multiply: "A multiply reads its three tiles whole, but nothing where C has no element."
abbrev pub multiply_reads : Parameters → (f d a b : ℕ) → State → List Check
multiply_reads M f d a b st =
    fitting M st DimensionM
    ∷ fitting M st DimensionK
    ∷ fitting M st DimensionN
    ∷ needs (eqb (st.tile_m * st.tile_n) 0) st.marks (tile_at M a) st.tile_m st.tile_k (sew st.mtype)
    ∷ needs (eqb (st.tile_m * st.tile_n) 0) st.marks (tile_at M b) st.tile_k st.tile_n (sew st.mtype)
    ∷ needs false st.marks (acc_at M d) st.tile_m st.tile_n (f * sew st.mtype) ∷ []

-- ---- the value of an element

-- "each C element .. becomes its old value plus the sum over tile_k of signed products, reduced to its width in two's complement"
abbrev pub product : (wide narrow terms : ℕ) → (old : ℕ) → (a b : ℕ → ℕ) → ℕ
product wide narrow terms old a b =
    reduce (256 ^ wide) (signed (256 ^ wide) old +ℤ sumℤ terms (λ l. signed (256 ^ narrow) (a l) *ℤ signed (256 ^ narrow) (b l)))

-- md with ms1; reverse subtract takes md from ms1
abbrev pub sum_of : Sum → ℤ → ℤ → ℤ
sum_of Add d a = d +ℤ a
sum_of Subtract d a = d -ℤ a
sum_of ReverseSubtract d a = a -ℤ d

-- element (i, j) after a multiply
abbrev pub product_at : Parameters → List ℕ → (wide narrow d a b terms : ℕ) → ℕ → ℕ → ℕ
product_at M s wide narrow d a b terms i j =
    product wide narrow terms (element s (acc_at M d) wide i j) (λ l. element s (tile_at M a) narrow i l) (λ l. element s (tile_at M b) narrow l j)

-- 02, Four: "mfma.mm at SEW 32 on binary32 elements"; w is SEW in bytes
abbrev pub float_product_at : Parameters → List ℕ → (w d a b terms : ℕ) → ℕ → ℕ → ℕ
float_product_at M s w d a b terms i j =
    float_product terms (element s (acc_at M d) w i j) (λ l. element s (tile_at M a) w i l) (λ l. element s (tile_at M b) w l j)

-- "Add, subtract and reverse subtract take md at the output width and ms1 at SEW, signed. .. Each element-wise result is reduced to
-- the output width in the same way."
abbrev pub sum_at : Parameters → Sum → List ℕ → (wide narrow d a : ℕ) → ℕ → ℕ → ℕ
sum_at M o s wide narrow d a i j =
    reduce (256 ^ wide) (sum_of o (signed (256 ^ wide) (element s (acc_at M d) wide i j)) (signed (256 ^ narrow) (element s (acc_at M a) narrow i j)))

-- "Element-wise multiply writes ms1 (SEW, signed) times" the multiplier
abbrev pub scaled_at : Parameters → ℤ → List ℕ → (wide narrow a : ℕ) → ℕ → ℕ → ℕ
scaled_at M x s wide narrow a i j = reduce (256 ^ wide) (signed (256 ^ narrow) (element s (acc_at M a) narrow i j) *ℤ x)

-- ---- the words: "All sources are read before md changes, also when md is ms1. Only bytes of C's elements change or gain a mark": every value is
-- taken from the state before, and only the bytes of the elements are written

abbrev pub multiplying : Parameters → State → (f d a b : ℕ) → Meaning
multiplying M st f d a b = record {
  checks = λ isSealed mem.
      typed st
      ∷ (width_ok M.elen st.mtype f otherwise BadWidth)
      ∷ multiply_reads M f d a b st;
  state = λ mem.
      written st (acc_at M d) st.tile_m st.tile_n (f * sew st.mtype) (product_at M st.regs (f * sew st.mtype) (sew st.mtype) d a b st.tile_k);
  memory = λ mem. mem;
  vectors = λ file. file;
  result = 0;
}

-- 02, Four: "a SEW other than 32 gets 3"; all else as for mma.mm
abbrev pub float_multiplying : Parameters → State → (d a b : ℕ) → Meaning
float_multiplying M st d a b = record {
  checks = λ isSealed mem.
      typed st
      ∷ (eqb (8 * sew st.mtype) 32 otherwise BadWidth)
      ∷ multiply_reads M 1 d a b st;
  state = λ mem.
      written st (acc_at M d) st.tile_m st.tile_n (sew st.mtype) (float_product_at M st.regs (sew st.mtype) d a b st.tile_k);
  memory = λ mem. mem;
  vectors = λ file. file;
  result = 0;
}

abbrev pub combining : Parameters → State → Sum → (f d a : ℕ) → Meaning
combining M st o f d a = record {
  checks = λ isSealed mem.
      typed st
      ∷ (width_ok M.elen st.mtype f otherwise BadWidth)
      ∷ fitting M st DimensionM
      ∷ fitting M st DimensionN
      ∷ needs false st.marks (acc_at M a) st.tile_m st.tile_n (sew st.mtype)
      ∷ needs false st.marks (acc_at M d) st.tile_m st.tile_n (f * sew st.mtype) ∷ [];
  state = λ mem.
      written st (acc_at M d) st.tile_m st.tile_n (f * sew st.mtype) (sum_at M o st.regs (f * sew st.mtype) (sew st.mtype) d a);
  memory = λ mem. mem;
  vectors = λ file. file;
  result = 0;
}

abbrev pub is_zero : ℤ → Bool
is_zero (pos zero) = true
is_zero (pos (suc n)) = false
is_zero (negsuc n) = false

-- "If that multiplier is 0, ms1 isn't read and need not be written."
abbrev pub scaling : Parameters → State → (f d a : ℕ) → ℤ → Meaning
scaling M st f d a x = record {
  checks = λ isSealed mem.
      typed st
      ∷ (width_ok M.elen st.mtype f otherwise BadWidth)
      ∷ fitting M st DimensionM
      ∷ fitting M st DimensionN
      ∷ needs (is_zero x) st.marks (acc_at M a) st.tile_m st.tile_n (sew st.mtype) ∷ [];
  state = λ mem.
      written st (acc_at M d) st.tile_m st.tile_n (f * sew st.mtype) (scaled_at M x st.regs (f * sew st.mtype) (sew st.mtype) a);
  memory = λ mem. mem;
  vectors = λ file. file;
  result = 0;
}
