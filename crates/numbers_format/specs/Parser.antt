-- A parser of any format: what an input is read as, or the place of its fault.
use Rattle.std.specs.Prelude.{◌≡◌, Bool, true, false, cond, List, [], ◌∷◌, map, ℕ, suc, ◌+◌, ◌-◌, ◌*◌, ◌/◌, max, ltb, leb, length, take, drop}
use Rattle.numbers_format.specs.Numbers.{Interval, Among}
use Rattle.numbers_format.specs.Formats.{Format}
use Rattle.numbers_format.specs.Formats.Format.{done, number, bytes}

-- ---- numbers

abbrev pub holds : ℕ → Interval → Bool
holds n r = cond (leb r.low n) (leb n r.high) false

-- n lies in one of the ranges
unfoldable pub is_among : ℕ → List Interval → Bool
is_among n [] = false
is_among n (r ∷ rs) = cond (holds n r) true (is_among n rs)

-- there is a number in the ranges
unfoldable pub nonempty : List Interval → Bool
nonempty [] = false
nonempty (r ∷ rs) = cond (leb r.low r.high) true (nonempty rs)

-- the numbers that may follow the group g, where another group has to follow: not 0, for the last group of the shortest form is not 0
abbrev pub after : ℕ → Interval → Interval
after g r = record { low = max 1 ((r.low + 127 - g) / 128); high = (r.high - g) / 128 }

abbrev pub afters : ℕ → List Interval → List Interval
afters g rs = map (after g) rs

-- a number with how many bytes it took, or the place of the first byte at which no permitted number can go on
pub data Got : Type 0 where
  value : ℕ → ℕ → Got
  fault : ℕ → Got

-- a group before a number
abbrev pub grow : ℕ → Got → Got
grow g (value n k) = value (g + 128 * n) (suc k)
grow g (fault p) = fault (suc p)

-- the number at the front of s, which has to be in the ranges
unfoldable pub read_number : List Interval → List ℕ → Got
read_number rs [] = fault 0
read_number rs (b ∷ s) =
    let rest : Got = read_number (afters (b - 128) rs) s in
    cond (ltb b 128)
    (cond (is_among b rs) (value b 1) (fault 0))
    (cond (nonempty (afters (b - 128) rs)) (grow (b - 128) rest) (fault 0))

-- ---- formats

-- what an input is read as, or the place of its fault
pub data Parsed (X : Type 0) : Type 0 where
  whole : X → Parsed X
  stopped : ℕ → Parsed X

module _ {X : Type 0} where
  -- no permitted number leads to a dead end
  abbrev pub Live : Format X → Type 0
  Live (done x) = Unit {0}
  Live (number rs k) = (nonempty rs ≡ true) × ((n : ℕ) → Among n rs → Live (k n))
  Live (bytes m k) = (b : List ℕ) → length b ≡ m → Live (k b)

  -- the same behind k bytes
  abbrev pub later : ℕ → Parsed X → Parsed X
  later k (whole x) = whole x
  later k (stopped p) = stopped (k + p)

  unfoldable pub parse : Format X → List ℕ → Parsed X
  parse (done x) [] = whole x
  parse (done x) (b ∷ s) = stopped 0
  parse (number rs k) s = elim (read_number rs s) [ value n l ↦ later l (parse (k n) (drop l s)) | fault p ↦ stopped p ]
  parse (bytes m k) s = elim (leb m (length s)) [ true ↦ later m (parse (k (take m s)) (drop m s)) | false ↦ stopped (length s) ]

  -- the same from a place of the input on
  unfoldable pub from : Format X → List ℕ → ℕ → Parsed X
  from f s at = later at (parse f (drop at s))
