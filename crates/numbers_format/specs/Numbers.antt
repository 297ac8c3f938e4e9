-- 02, Six: "numbers in groups of seven bits, low group first, the top bit set on all but the last group, shortest form only".
use Rattle.std.specs.Prelude.{cond, List, [], ◌∷◌, ◌++◌, ◌⊎◌, ℕ, zero, suc, ◌+◌, ◌/◌, ◌%◌, ◌≤◌, ◌<◌, ltb}

-- at most f groups before the last one
unfoldable pub groups : ℕ → ℕ → List ℕ
groups zero n = n ∷ []
groups (suc f) n = cond (ltb n 128) (n ∷ []) ((128 + n % 128) ∷ groups f (n / 128))

-- the bytes of n; n has no more than n groups before its last one
unfoldable pub encode : ℕ → List ℕ
encode n = groups n n

-- the bytes of numbers, one after the other, before t
abbrev pub encode_all : List ℕ → List ℕ → List ℕ
encode_all [] t = t
encode_all (n ∷ ns) t = encode n ++ encode_all ns t

-- ---- permitted numbers: some ranges, each from low to high

pub record Interval : Type 0 where
  pub low : ℕ
  pub high : ℕ

-- one range
abbrev pub span : ℕ → ℕ → List Interval
span a b = record { low = a; high = b } ∷ []

abbrev pub Within : ℕ → Interval → Type 0
Within n r = (r.low ≤ n) × (n ≤ r.high)

-- n lies in one of the ranges
abbrev pub Among : ℕ → List Interval → Type 0
Among n [] = ⊥
Among n (r ∷ rs) = Within n r ⊎ Among n rs

-- ---- byte strings

abbrev pub ByteString : List ℕ → Type 0
ByteString [] = Unit {0}
ByteString (b ∷ s) = (b < 256) × ByteString s
