-- The checks of each family in parts, in the words of the definitions.
use Rattle.std.specs.Prelude.{◌≡◌, ◌∷◌, ◌++◌, ◌*◌, ◌/◌, ◌≤◌, ◌<◌}
use Rattle.numbers.specs.Kit.{Bool, false, List, [], ℕ, eqb, length}
use Rattle.machine.specs.declared.Machine.{Machine}
use Rattle.machine.specs.declared.Dimension.TheVariants.{DimensionM, DimensionK, DimensionN}
use Rattle.machine.specs.declared.Refusal.TheVariants.{BadWidth}
use Rattle.machine.specs.Geometry.{state_of, start_of, pitch_of, tile_at, acc_at}
use Rattle.machine.specs.Setting.{sew}
use Rattle.machine.specs.Operation.{Operation, rows_of, columns_of, tile_rows, tile_cols}
use Rattle.machine.specs.declared.Matrix.{Matrix}
use Rattle.machine.specs.Answers.{Check, ◌otherwise◌}
use Rattle.machine.specs.Refusals.{typed, fitting, needs}
use Rattle.machine.specs.TransferWords.{width_of}
use Rattle.machine.specs.ArithmeticWords.{width_ok}
use Rattle.machine.specs.Meanings.{checks}
use Rattle.unit_settings.specs.Parts.{ours, Ready}

-- ---- answers 2 to 4: the first checks of each family

abbrev pub transfer_checks : Machine → Matrix → ℕ → List Check
transfer_checks m k w =
    typed (state_of m [] [])
    ∷ (width_of m.elen m.mtype k w otherwise BadWidth)
    ∷ fitting (ours m) (state_of m [] []) (rows_of k)
    ∷ fitting (ours m) (state_of m [] []) (columns_of k) ∷ []

abbrev pub elementwise_checks : Machine → ℕ → List Check
elementwise_checks m f =
    typed (state_of m [] [])
    ∷ (width_ok m.elen m.mtype f otherwise BadWidth)
    ∷ fitting (ours m) (state_of m [] []) DimensionM
    ∷ fitting (ours m) (state_of m [] []) DimensionN ∷ []

abbrev pub multiply_checks : Machine → ℕ → List Check
multiply_checks m f =
    typed (state_of m [] [])
    ∷ (width_ok m.elen m.mtype f otherwise BadWidth)
    ∷ fitting (ours m) (state_of m [] []) DimensionM
    ∷ fitting (ours m) (state_of m [] []) DimensionK
    ∷ fitting (ours m) (state_of m [] []) DimensionN ∷ []

-- ---- answer 5 of arithmetic

abbrev pub source_checks : Machine → List ℕ → ℕ → ℕ → List Check
source_checks m marks a b =
    needs (eqb (m.tile_m * m.tile_n) 0) marks (tile_at (ours m) a) m.tile_m m.tile_k (sew m.mtype)
    ∷ needs (eqb (m.tile_m * m.tile_n) 0) marks (tile_at (ours m) b) m.tile_k m.tile_n (sew m.mtype) ∷ []

abbrev pub accumulator_check : Machine → List ℕ → ℕ → ℕ → Check
accumulator_check m marks r w = needs false marks (acc_at (ours m) r) m.tile_m m.tile_n w

-- ---- answers 2 to 5 of arithmetic

abbrev pub product_checks : Machine → List ℕ → (f d a b : ℕ) → List Check
product_checks m marks f d a b = multiply_checks m f ++ (source_checks m marks a b ++ (accumulator_check m marks d (f * sew m.mtype) ∷ []))

-- those of a multiply, but for its sources
abbrev pub target_checks : Machine → List ℕ → (f d : ℕ) → List Check
target_checks m marks f d = multiply_checks m f ++ (accumulator_check m marks d (f * sew m.mtype) ∷ [])

abbrev pub float_checks : Machine → List ℕ → (d a b : ℕ) → List Check
float_checks m marks d a b = checks (ours m) (λ q. false) (Operation.float_multiply d a b) (state_of m [] marks) []

abbrev pub combine_checks : Machine → List ℕ → (f d a : ℕ) → List Check
combine_checks m marks f d a = elementwise_checks m f ++ (accumulator_check m marks a (sew m.mtype) ∷ accumulator_check m marks d (f * sew m.mtype) ∷ [])

abbrev pub scale_checks : Machine → List ℕ → (f a : ℕ) → Bool → List Check
scale_checks m marks f a unless = elementwise_checks m f ++ (needs unless marks (acc_at (ours m) a) m.tile_m m.tile_n (sew m.mtype) ∷ [])

-- the marks of a machine that is not at fault
pub record MarksReady (m : Machine) (marks : List ℕ) : Type 0 where
  pub of-machine : Ready m
  pub of_length : length marks ≡ 16 * (m.mlen / m.rlen * (m.rlen / 8))

-- accumulator r holds the C tile at this width
pub record AccumulatorFits (m : Machine) (r w : ℕ) : Type 0 where
  pub is-accumulator : r < 2
  pub rows_fit : m.tile_m ≤ m.mlen / m.rlen
  pub columns-fit : m.tile_n * w ≤ 4 * (m.rlen / 8)
