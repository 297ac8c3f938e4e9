-- What the parts of a write find.
use Rattle.std.specs.Prelude.{◌≡◌, ◌∷◌, ◌+◌, ◌-◌, ◌*◌, ◌≤◌, ◌<◌}
use Rattle.numbers.specs.Kit.{cond, List, [], ℕ, zero, suc, eqb, length, get_or}
use Rattle.image.specs.Cells.{runs, cells_of}
use Rattle.image.specs.Images.{Header, runs_bytes}

-- the fields of an image before the ranges
abbrev pub plain_fields : Header → List ℕ
plain_fields h = h.rlen ∷ h.mlen ∷ h.mtype ∷ h.tile_m ∷ h.tile_k ∷ h.tile_n ∷ []

-- the number of ranges, of other than one
abbrev pub count_field : ℕ → List ℕ
count_field n = cond (eqb n 1) [] (n ∷ [])

-- every mark is 0 or 1
abbrev pub TwoValued : List ℕ → Type 0
TwoValued marks = (q : ℕ) → get_or marks q 0 < 2

-- the marks from a place to another all have the value
pub record StretchTo (marks : List ℕ) (from value end : ℕ) : Type 0 where
  pub from-there : from ≤ end
  pub in-marks : end ≤ length marks
  pub all_same : (q : ℕ) → from ≤ q → q < end → get_or marks q 0 ≡ value

-- and the next one, if it lies before a limit, has another
pub record Stretch (marks : List ℕ) (from limit value end : ℕ) : Type 0 where
  pub to : StretchTo marks from value end
  pub within : end ≤ limit
  pub other : end < limit → ¬ (get_or marks end 0 ≡ value)

-- a number of n bytes, by its bytes, low byte first
unfoldable pub from_bytes : ℕ → (ℕ → ℕ) → ℕ
from_bytes zero byte = 0
from_bytes (suc n) byte = byte 0 + 256 * from_bytes n (λ i. byte (suc i))

-- 1 for a mark that does not have the value, else 0
unfoldable pub differs : ℕ → ℕ → ℕ
differs zero mark = mark
differs (suc value) mark = 1 - mark

-- the runs that the marks have, whatever the registers hold: their number, and how many bytes they take
pub record TallyOk (marks : List ℕ) (count size : ℕ) : Type 0 where
  pub counted : (registers : List ℕ) → length registers ≡ length marks → count ≡ length (runs (cells_of registers marks))
  pub sized : (registers : List ℕ) → length registers ≡ length marks → size ≡ length (runs_bytes (runs (cells_of registers marks)))
  pub few : size ≤ 21 * length marks
