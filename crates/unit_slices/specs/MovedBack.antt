-- 02, Eleven: "Prove that a slice moved out and at once moved back, both accepted, leaves the accumulator as it was." The proof stands in
-- proofs/MovedBack.antt.
use Rattle.std.specs.Prelude.{◌≡◌, ◌<◌}
use Rattle.numbers.specs.Kit.{List, ℕ, get_or}
use Rattle.numbers.specs.Blocks.{Choice}
use Rattle.machine.specs.declared.Form.{Form}
use Rattle.machine.specs.declared.Instruction.TheVariants.{MoveOut, MoveIn}
use Rattle.machine.specs.Geometry.{Bench, scalar}
use Rattle.machine.specs.Vectors.{vectors_of}
use Rattle.machine.specs.Listing.{decode}
use Rattle.machine.specs.Step.{VectorOutcome, step_with}
use Rattle.machine.specs.Theorems.{Given}

-- rows (plain) or columns (transposed), an accumulator, the start of a group, and the scalars that the two words name
pub record Slice : Type 0 where
  pub form : Form
  pub accumulator : ℕ
  pub vector : ℕ
  pub out_first : ℕ
  pub back-first : ℕ

module _ (grant : Choice) (S : Slice) (out : Given) (back : ℕ) (scalars : List ℕ) (B : Bench) where
  abbrev pub after_out : VectorOutcome
  after_out = step_with grant out.word out.scalars out.vectors B

  -- "at once": on the bench and the vector file that the first word left, with the group size as it was
  abbrev pub after_back : VectorOutcome
  after_back = step_with grant back scalars (vectors_of after_out.vectors out.vectors.group) after_out.bench

  -- the same slice of the same accumulator, to and from the same group; registers hold bytes
  pub record OutAndBack : Type 0 where
    pub moves_out : decode out.word ≡ MoveOut S.form S.vector S.accumulator S.out_first
    pub moves-back : decode back ≡ MoveIn S.form S.accumulator S.vector S.back-first
    pub same_first : scalar scalars S.back-first ≡ scalar out.scalars S.out_first
    pub out-accepted : after_out.answer.number ≡ 0
    pub back-accepted : after_back.answer.number ≡ 0
    pub bytes : (q : ℕ) → get_or B.registers q 0 < 256

  -- "leaves the accumulator as it was": all registers, marks and numbers of the machine, and the memory; the scalars too, and the vector
  -- file as the first word left it
  pub record Restored : Type 0 where
    pub same-bench : after_back.bench ≡ B
    pub same-vectors : after_back.vectors ≡ after_out.vectors
    pub same-scalars : (after_out.scalars ≡ out.scalars) × (after_back.scalars ≡ scalars)

abbrev pub OutAndBackRestores : Type 0
OutAndBackRestores = (grant : Choice) (S : Slice) (out : Given) (back : ℕ) (scalars : List ℕ) (B : Bench)
    → OutAndBack grant S out back scalars B → Restored grant S out back scalars B
