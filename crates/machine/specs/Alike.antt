-- Machines that differ at most in unmarked register bytes. Requests Six and Nine of document 02 both speak of them.
use Rattle.std.specs.Prelude.{◌≡◌}
use Rattle.numbers.specs.Kit.{List, ℕ, length, get_or}
use Rattle.machine.specs.Geometry.{Bench}

-- register bytes of one length, equal wherever the mark is 1
pub record Agree (marks registers registers' : List ℕ) : Type 0 where
  pub same_length : length registers ≡ length registers'
  pub same_bytes : (q : ℕ) → get_or marks q 0 ≡ 1 → get_or registers q 0 ≡ get_or registers' q 0

-- Nine: "two machines .. that differ at most in unmarked register bytes"; Six: "Two machines that differ only in unmarked bytes".
-- Their numbers, sealed ranges and marks are equal and their registers agree where marked. The memory that they are lent is not compared.
pub record Alike (B B' : Bench) : Type 0 where
  pub same-machine : B.machine ≡ B'.machine
  pub same-seals : B.seals ≡ B'.seals
  pub same-marks : B.marks ≡ B'.marks
  pub agree : Agree B.marks B.registers B'.registers
