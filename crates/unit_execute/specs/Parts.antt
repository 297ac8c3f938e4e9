-- What the functions of a family answer and leave, in the words of the definitions.
use Rattle.std.specs.Prelude.{◌≡◌, ◌/◌}
use Rattle.numbers.specs.Kit.{Bool, true, false, cond, List, [], ℕ}
use Rattle.machine.specs.declared.Machine.{Machine}
use Rattle.machine.specs.Answers.{verdict, is_done, Answer}
use Rattle.machine.specs.Geometry.{State, state_of}
use Rattle.machine.specs.Operation.{Operation}
use Rattle.machine.specs.Meanings.{state_after, memory_after, checks}
use Rattle.machine.specs.Faults.{sound}
use Rattle.unit_settings.specs.Parts.{ours}
use Rattle.unit_arithmetic.specs.declared.Tiles.{Tiles}

module _ (m : Machine) (o : Operation) (regs marks mem : List ℕ) where
  abbrev pub before : State
  before = state_of m regs marks

  -- of one that writes registers: a refusal leaves them as they were; which bytes are sealed says nothing of it
  pub record WritesRegisters (r : Answer) (regs' marks' : List ℕ) : Type 0 where
    pub answer-is : (isSealed : ℕ → Bool) → r ≡ verdict (checks (ours m) isSealed o before mem)
    pub registers-are : regs' ≡ cond (is_done r) (state_after (ours m) o before mem).regs regs
    pub marks-are : marks' ≡ cond (is_done r) (state_after (ours m) o before mem).marks marks

  -- and of one that writes memory
  pub record WritesMemory (isSealed : ℕ → Bool) (r : Answer) (mem' : List ℕ) : Type 0 where
    pub answer-is : r ≡ verdict (checks (ours m) isSealed o before mem)
    pub memory-is : mem' ≡ cond (is_done r) (memory_after (ours m) o before mem) mem

-- an operation that takes nothing from memory and writes nothing there is not refused, in a state that is not at fault, with some marks
-- of these registers
pub record Permitted (m : Machine) (o : Operation) (regs : List ℕ) : Type 0 where
  pub marks : List ℕ
  pub is-sound : sound m regs marks ≡ true
  pub is-done : is_done (verdict (checks (ours m) (λ q. false) o (state_of m regs marks) [])) ≡ true

-- the registers that it leaves, which no mark decides
abbrev pub registers_after : Machine → Operation → List ℕ → List ℕ
registers_after m o regs = (state_after (ours m) o (state_of m regs []) []).regs

-- the registers and tiles of a machine
abbrev pub tiles_of : Machine → Tiles
tiles_of m = record { rows = m.mlen / m.rlen; pitch = m.rlen / 8; m = m.tile_m; k = m.tile_k; n = m.tile_n }
