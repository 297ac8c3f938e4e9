-- What the parts of a read leave.
use Rattle.std.specs.Prelude.{Result, Ok, Err, ◌∷◌, ◌≤◌}
use Rattle.numbers.specs.Kit.{List, [], ℕ, suc, length, replicate}
use Rattle.numbers_format.specs.Parser.{Parsed}
use Rattle.numbers_format.specs.Parser.Parsed.{whole, stopped}
use Rattle.unit_ranges.specs.Ranges.{put_range}
use Rattle.image.specs.declared.ImageError.{ImageError}
use Rattle.image.specs.Cells.{Run}
use Rattle.image.specs.Cells.Run.{run}
use Rattle.image.specs.Images.{Seals}
use Rattle.image.specs.ImageFormat.{Described}
use Rattle.image.specs.Reading.{ReadOutcome, restored, not_restored}
use Rattle.image_header.specs.Fields.Place.{Behind, PlaceBad}
use Rattle.image_header.specs.Fields.{Place, ranges_end, ranges_found, runs_from}
use Rattle.image_read.specs.declared.Found.{Found}

-- the runs that are there
abbrev pub body_of : Parsed Described → List Run
body_of (whole d) = d.body
body_of (stopped p) = []

-- so many runs in room bytes, from a place of the input on
unfoldable pub body_at : (s : List ℕ) (at count least room : ℕ) → List Run
body_at s at count least room = body_of (runs_from s at count least room)

-- runs of marks where these runs have bytes
abbrev pub ones : List Run → List Run
ones [] = []
ones (run g b ∷ rs) = run g (replicate (length b) 1) ∷ ones rs

-- ---- the ranges

abbrev pub Ends : Place → Type 0
Ends (Behind a) = Unit {0}
Ends (PlaceBad p) = ⊥

-- so many ranges, no more than a machine can hold, stand at a place of the input
pub record Stand (s : List ℕ) (count at : ℕ) : Type 0 where
  pub few : count ≤ 8
  pub ends : Ends (ranges_end s count at)

-- ranges written over the slots from slot i on
unfoldable pub put_ranges : ℕ → Seals → List ℕ → List ℕ
put_ranges i [] block = block
put_ranges i (r ∷ rs) block = put_ranges (suc i) rs (put_range i r block)

-- what was read before the block is written
abbrev pub found_as : Result Found ImageError → (s registers marks : List ℕ) → ReadOutcome
found_as (Ok found) s registers marks = restored found.machine (ranges_found s found.seals found.seals_at) registers marks
found_as (Err e) s registers marks = not_restored e registers marks
