-- 02, Thirteen: what is kept of an image that was cut or damaged, and the salvage of it.
use Rattle.std.specs.Prelude.{Result, Ok, Err}
use Rattle.std.specs.Prelude.{cond, List, [], ◌∷◌, ◌++◌, ℕ, zero, suc, ◌+◌, ◌-◌, leb, length, drop}
use Rattle.std.proofs.Math.Option.{Option, none, some}
use Rattle.numbers_format.specs.Formats.{Format}
use Rattle.numbers_format.specs.Formats.Format.{done}
use Rattle.numbers_format.specs.Parser.{Parsed, parse}
use Rattle.numbers_format.specs.Parser.Parsed.{whole, stopped}
use Rattle.image.specs.declared.ImageError.TheVariants.{NoRoom, Damaged}
use Rattle.image.specs.Answers.{ImageReply, image_reply, image_done}
use Rattle.image.specs.Cells.{Run}
use Rattle.image.specs.Cells.Run.{run}
use Rattle.image.specs.Images.{Header, spelled}
use Rattle.image.specs.ImageFormat.{Described, run_format, all_register_bytes, head_format, image_format}
use Rattle.image_salvage.specs.declared.Salvaged.{Salvaged}
use Rattle.image_salvage.specs.declared.SalvageError.{SalvageError}
use Rattle.image_salvage.specs.declared.SalvageError.TheVariants as Refused
use Rattle.image_salvage.specs.Fronts.{Front, front}
use Rattle.image_salvage.specs.Fronts.Front.{ahead, stuck}

-- ---- the place

-- "the place of the fault as in Six .. (the length if there is no fault)"
abbrev pub fault_place : List ℕ → Parsed Described → ℕ
fault_place s (whole d) = length s
fault_place s (stopped p) = p

unfoldable pub place_in : List ℕ → ℕ
place_in s = fault_place s (parse image_format s)

-- ---- what is kept

-- "the header (up to and with the number of runs)"
pub record Announced : Type 0 where
  pub header : Header
  pub count : ℕ

unfoldable pub announced_format : Format Announced
announced_format = head_format λ header count. done (record { header = header; count = count })

-- one run, behind which so many more are announced
abbrev pub one_run : (more least room : ℕ) → Format Run
one_run more least room = run_format more least room λ gap size b. done (run gap b)

-- how many register bytes a run takes with its gap
abbrev pub taken : Run → ℕ
taken (run gap b) = gap + length b

-- "every run that ends before the place of the fault": of so many runs in the room that is left, those that are there whole
unfoldable pub runs_kept : (count least room : ℕ) → List ℕ → List Run
runs_kept zero least room s = []
runs_kept (suc more) least room s =
    elim (front (one_run more least room) s) [ ahead r k ↦ r ∷ runs_kept more 1 (room - taken r) (drop k s) | stuck p ↦ [] ]

pub record KeptPart : Type 0 where
  pub header : Header
  pub announced : ℕ
  pub body : List Run

-- nothing is kept without a whole header
abbrev pub kept_from : List ℕ → Front Announced → Option KeptPart
kept_from s (ahead a k) = some (record { header = a.header; announced = a.count; body = runs_kept a.count 0 (all_register_bytes a.header.mlen) (drop k s) })
kept_from s (stuck p) = none

unfoldable pub kept_in : List ℕ → Option KeptPart
kept_in s = kept_from s (front announced_format s)

-- ---- the salvage

-- an answer, whose number 15 names the place as in Six; the runs kept and announced, the place of the fault, and the fresh image
pub record SalvageOutcome : Type 0 where
  pub answer : ImageReply
  pub kept : ℕ
  pub announced : ℕ
  pub place : ℕ
  pub size : ℕ
  pub room : List ℕ

abbrev pub salvaged : ImageReply → (kept announced place size : ℕ) → List ℕ → SalvageOutcome
salvaged answer kept announced place size room =
    record { answer = answer; kept = kept; announced = announced; place = place; size = size; room = room }

-- "reports the runs kept, the runs announced and that place"; "It writes a fresh image of what is kept, as Six writes"; "Refusals, each with
-- that place and counts of 0: a bad header gets 15; no room 14." A refusal writes nothing.
abbrev pub salvage_of : (place : ℕ) → Option KeptPart → (room : List ℕ) → SalvageOutcome
salvage_of place none room = salvaged (image_reply (Damaged place)) 0 0 place 0 room
salvage_of place (some k) room =
    let fresh : List ℕ = spelled k.header k.body in
    cond (leb (length fresh) (length room))
    (salvaged image_done (length k.body) k.announced place (length fresh) (fresh ++ drop (length fresh) room))
    (salvaged (image_reply NoRoom) 0 0 place 0 room)

unfoldable pub salvage : (image room : List ℕ) → SalvageOutcome
salvage image room = salvage_of (place_in image) (kept_in image) room

-- what the function `salvage` returned and left
abbrev pub salvaged_as : Result Salvaged SalvageError → List ℕ → SalvageOutcome
salvaged_as (Ok r) room = salvaged image_done r.kept r.announced r.place r.length room
salvaged_as (Err (Refused.Damaged place)) room = salvaged (image_reply (Damaged place)) 0 0 place 0 room
salvaged_as (Err (Refused.NoRoom place)) room = salvaged (image_reply NoRoom) 0 0 place 0 room
