-- The number at a place of a slice, as the code answers it.
use Rattle.std.specs.Prelude.{List, ℕ, Result, Ok, Err, ◌+◌, ◌*◌, drop}
use Rattle.numbers_format.specs.Numbers.{span}
use Rattle.numbers_format.specs.Parser.{Got, read_number}
use Rattle.numbers_format.specs.Parser.Got.{value, fault}
use Rattle.numbers_coded.specs.declared.Coded.{Coded}
use Rattle.numbers_coded.specs.declared.Damage.{Damage}

-- a number with the place behind it, or the place of the fault
pub data Number : Type 0 where
  Value : ℕ → ℕ → Number
  Fault : ℕ → Number

-- the code has it as a Result
abbrev pub plain : Number → Result Coded Damage
plain (Value n at) = Ok (record { value = n; at = at })
plain (Fault p) = Err (record { at = p })

-- what was found behind so many bytes
abbrev pub found : ℕ → Got → Number
found at (value n k) = Value n (at + k)
found at (fault p) = Fault (at + p)

-- the number from low to high at a place of s
unfoldable pub number_at : List ℕ → ℕ → ℕ → ℕ → Number
number_at s at low high = found at (read_number (span low high) (drop at s))

-- the same behind groups that spell v, where the next counts u times
abbrev pub found_after : ℕ → ℕ → ℕ → Got → Number
found_after v u at (value n k) = Value (v + u * n) (at + k)
found_after v u at (fault p) = Fault (at + p)

-- what is still to be found at i
unfoldable pub rest : List ℕ → ℕ → ℕ → ℕ → ℕ → ℕ → Number
rest s i v u lo hi = found_after v u i (read_number (span lo hi) (drop i s))
