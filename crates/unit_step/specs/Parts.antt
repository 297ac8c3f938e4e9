-- What holds of a decoded word, and of a multiplier.
use Rattle.std.specs.Prelude.{◌≡◌, ◌^◌, ◌<◌}
use Rattle.numbers.specs.Kit.{List, ℕ, eqb, ℤ}
use Rattle.machine.specs.Geometry.{register_count}
use Rattle.machine.specs.declared.Instruction.{Instruction}
use Rattle.machine.specs.declared.Instruction.TheVariants.{Illegal, SetTypeImmediate, SetType, SetTileImmediate, SetTile, Load, Store, Multiply, Combine, Scale, ScaleImmediate, FloatMultiply, MoveOut, MoveIn}
use Rattle.machine.specs.ArithmeticWords.{is_zero}
use Rattle.machine.specs.Geometry.{Parameters, Bench}
use Rattle.machine.specs.Vectors.{Vectors}
use Rattle.machine.specs.Step.{VectorOutcome, beside, outcome_in, vectors_in}
use Rattle.numbers.specs.Reduce.{reduce}

-- a multiplier, by its residue at 64 bits
pub record Multiplier (z : ℤ) (r : ℕ) : Type 0 where
  pub residue : reduce (2 ^ 64) z ≡ r
  pub zero_is : is_zero z ≡ eqb r 0

-- what holds of a decoded word: its slots are of the thirty-two, its registers exist, its immediate has five bits
abbrev pub Decoded : Instruction → Type 0
Decoded (Illegal wrong) = Unit {0}
Decoded (SetTypeImmediate rd immediate) = rd < 32
Decoded (SetType rd rs1) = (rd < 32) × (rs1 < 32)
Decoded (SetTileImmediate dimension rd immediate) = rd < 32
Decoded (SetTile dimension rd rs1) = (rd < 32) × (rs1 < 32)
Decoded (Load form matrix width md rs1 rs2) = (md < register_count matrix) × ((rs1 < 32) × (rs2 < 32))
Decoded (Store form matrix width ms3 rs1 rs2) = (ms3 < register_count matrix) × ((rs1 < 32) × (rs2 < 32))
Decoded (Multiply factor md ms1 ms2) = (md < 2) × ((ms1 < 8) × (ms2 < 8))
Decoded (Combine sum factor md ms1) = (md < 2) × (ms1 < 2)
Decoded (Scale factor md ms1 rs2) = ((md < 2) × (ms1 < 2)) × (rs2 < 32)
Decoded (ScaleImmediate factor md ms1 immediate) = ((md < 2) × (ms1 < 2)) × (immediate < 32)
Decoded (FloatMultiply md ms1 ms2) = (md < 2) × ((ms1 < 8) × (ms2 < 8))
Decoded (MoveOut form vd ms1 rs2) = ((ms1 < 2) × (vd < 32)) × (rs2 < 32)
Decoded (MoveIn form md vs1 rs2) = ((md < 2) × (vs1 < 32)) × (rs2 < 32)

-- what an instruction leaves beside a vector file that is not bad
abbrev pub carried_beside : Vectors → Parameters → Instruction → List ℕ → Bench → VectorOutcome
carried_beside W M i xs B = beside (vectors_in W M i xs B) (outcome_in W M i xs B)
