-- What an operation means in a state: what it is refused by, and what it leaves where nothing refuses it.
use Rattle.numbers.specs.Kit.{Bool, List, ℕ}
use Rattle.machine.specs.Answers.{Check}
use Rattle.machine.specs.Geometry.{State}

pub record Meaning : Type 0 where
  -- the checks in their order, from which bytes are sealed and from memory
  pub checks : (ℕ → Bool) → List ℕ → List Check
  -- the state after it, from memory
  pub state : List ℕ → State
  -- memory after it, and the vector file after it
  pub memory : List ℕ → List ℕ
  pub vectors : List ℕ → List ℕ
  -- what rd receives, if the instruction has one
  pub result : ℕ
