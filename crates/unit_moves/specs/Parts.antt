-- What the functions of moves give, in the words of the definitions.
use Rattle.std.specs.Prelude.{◌≡◌}
use Rattle.numbers.specs.Kit.{Bool, cond, List, [], ℕ}
use Rattle.machine.specs.declared.Machine.{Machine}
use Rattle.machine.specs.declared.Form.{Form}
use Rattle.machine.specs.declared.Matrix.TheVariants.{MatrixC}
use Rattle.machine.specs.Answers.{verdict, is_done, Answer}
use Rattle.machine.specs.Geometry.{State, state_of, pitch_of}
use Rattle.machine.specs.Operation.{Operation}
use Rattle.machine.specs.MoveWords.{corner_of, slice_rows, slice_cols}
use Rattle.machine.specs.Meanings.{state_after, vectors_after, checks}
use Rattle.machine.specs.Vectors.{Vectors, aligned}
use Rattle.machine.specs.declared.Wrong.TheVariants.{Register}
use Rattle.unit_geometry.specs.declared.Placed.{Placed}
use Rattle.unit_settings.specs.Parts.{ours}

-- a slice of an accumulator
abbrev pub slice_placed : Machine → Form → (r first count w : ℕ) → Placed
slice_placed m f r first count w = record {
  start = corner_of (ours m) f r first w;
  pitch = pitch_of (ours m) MatrixC;
  rows = slice_rows f (state_of m [] []) count;
  columns = slice_cols f (state_of m [] []) count;
}

-- a move in or out with its group: a misaligned one is refused as a register out of range is
abbrev pub moved : Bool → Vectors → Form → (r v first : ℕ) → Operation
moved inward W f r v first =
    cond (aligned W v)
    (cond inward (Operation.move_in f r v first W.group W.file) (Operation.move_out f r v first W.group))
    (Operation.illegal Register)

-- what a move answers, whatever is sealed, and leaves: out, of the vector file; in, of the registers and marks; and of all three
module _ (m : Machine) (o : Operation) (regs marks : List ℕ) where
  abbrev pub before : State
  before = state_of m regs marks

  pub record MovesOut (file : List ℕ) (r : Answer) (file' : List ℕ) : Type 0 where
    pub answer-is : (isSealed : ℕ → Bool) → r ≡ verdict (checks (ours m) isSealed o before [])
    pub vectors-are : file' ≡ cond (is_done r) (vectors_after (ours m) o before file) file

  pub record MovesIn (r : Answer) (regs' marks' : List ℕ) : Type 0 where
    pub answer-is : (isSealed : ℕ → Bool) → r ≡ verdict (checks (ours m) isSealed o before [])
    pub registers-are : regs' ≡ cond (is_done r) (state_after (ours m) o before []).regs regs
    pub marks-are : marks' ≡ cond (is_done r) (state_after (ours m) o before []).marks marks

  pub record Moves (file : List ℕ) (r : Answer) (regs' marks' file' : List ℕ) : Type 0 where
    pub inside : MovesIn r regs' marks'
    pub outside : MovesOut file r file'
