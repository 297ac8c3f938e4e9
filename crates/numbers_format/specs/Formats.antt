-- A format: fields one after the other, each permitted by what stands before it; what it accepts; and where an input leaves what is
-- accepted.
use Rattle.std.specs.Prelude.{◌≡◌, List, [], ◌++◌, ℕ, suc, ◌≤◌, ◌<◌, length, take}
use Rattle.numbers_format.specs.Numbers.{Interval, Among, encode, ByteString}

-- 02, Six: "the place of the first byte at which no accepted image can go on (the length, if only cut short ..)". Of any accepted inputs L:
-- the first p bytes of s can go on to one of them, and with the next byte none can. Of an accepted s, p is the length too.
pub record Ends (L : List ℕ → Type 0) (s : List ℕ) (p : ℕ) : Type 0 where
  pub there : p ≤ length s
  pub goes_on : (u : List ℕ) × L (take p s ++ u)
  pub stops : p < length s → (u : List ℕ) → ¬ L (take (suc p) s ++ u)

-- The end; a number in one of some ranges, and what follows it; so many bytes, and what follows them. What is read is an X.
pub data Format (X : Type 0) : Type 0 where
  done : X → Format X
  number : List Interval → (ℕ → Format X) → Format X
  bytes : ℕ → (List ℕ → Format X) → Format X

module _ {X : Type 0} where
  -- s is, whole, the bytes of the fields, and is read as y
  abbrev pub Accepts : Format X → List ℕ → X → Type 0
  Accepts (done x) s y = (s ≡ []) × (x ≡ y)
  Accepts (number rs k) s y = (n : ℕ) × (t : List ℕ) × Among n rs × (s ≡ encode n ++ t) × Accepts (k n) t y
  Accepts (bytes m k) s y = (b : List ℕ) × (t : List ℕ) × ((length b ≡ m) × ByteString b) × (s ≡ b ++ t) × Accepts (k b) t y

  abbrev pub Accepted : Format X → List ℕ → Type 0
  Accepted f s = (x : X) × Accepts f s x
