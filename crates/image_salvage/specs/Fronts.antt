-- The front of an input: what a format reads there, whatever follows.
use Rattle.std.specs.Prelude.{true, false, List, ℕ, ◌+◌, leb, length, take, drop}
use Rattle.numbers_format.specs.Formats.{Format}
use Rattle.numbers_format.specs.Formats.Format.{done, number, bytes}
use Rattle.numbers_format.specs.Parser.{read_number}
use Rattle.numbers_format.specs.Parser.Got.{value, fault}

-- what is read, with how many bytes it took, or the place of the first byte at which it can't go on
pub data Front (X : Type 0) : Type 0 where
  ahead : X → ℕ → Front X
  stuck : ℕ → Front X

module _ {X : Type 0} where
  -- the same behind k bytes
  abbrev pub behind : ℕ → Front X → Front X
  behind k (ahead x l) = ahead x (k + l)
  behind k (stuck p) = stuck (k + p)

  unfoldable pub front : Format X → List ℕ → Front X
  front (done x) s = ahead x 0
  front (number rs k) s = elim (read_number rs s) [ value n l ↦ behind l (front (k n) (drop l s)) | fault p ↦ stuck p ]
  front (bytes m k) s = elim (leb m (length s)) [ true ↦ behind m (front (k (take m s)) (drop m s)) | false ↦ stuck (length s) ]
