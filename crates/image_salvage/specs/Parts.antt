-- What the functions of this crate find and leave, from a place of the input on. No contract of an entry point names it.
use Rattle.std.specs.Prelude.{cond, List, ◌++◌, ℕ, ◌+◌, ◌-◌, leb, length, take, drop}
use Rattle.numbers_format.specs.Numbers.{encode}
use Rattle.image.specs.declared.ImageError.TheVariants.{NoRoom}
use Rattle.image.specs.Cells.{Run}
use Rattle.image.specs.Images.{runs_bytes}
use Rattle.image_header.specs.Fields.{runs_from}
use Rattle.image.specs.Answers.{image_done, image_reply}
use Rattle.image_salvage.specs.Salvage.{fault_place, runs_kept, SalvageOutcome, salvaged}

-- of so many runs from a place on: the place of the fault
unfoldable pub place_at : (s : List ℕ) (at count least room : ℕ) → ℕ
place_at s at count least room = fault_place s (runs_from s at count least room)

-- and those that are there whole
unfoldable pub kept_at : (s : List ℕ) (at count least room : ℕ) → List Run
kept_at s at count least room = runs_kept count least room (drop at s)

-- how many that are, the place behind them, and that of the fault
pub record Tally : Type 0 where
  pub runs : ℕ
  pub end : ℕ
  pub place : ℕ

abbrev pub tally_at : (s : List ℕ) (at count total : ℕ) → Tally
tally_at s at count total = record {
  runs = length (kept_at s at count 0 total);
  end = at + length (runs_bytes (kept_at s at count 0 total));
  place = place_at s at count 0 total;
}

-- the fresh image of them, of bytes of the input
abbrev pub fresh_at : (s : List ℕ) (at count total : ℕ) → List ℕ
fresh_at s at count total = take (at - length (encode count)) s ++ (encode (length (kept_at s at count 0 total)) ++ runs_bytes (kept_at s at count 0 total))

unfoldable pub rescued : (s : List ℕ) (at count total : ℕ) → List ℕ → SalvageOutcome
rescued s at count total room =
    let fresh : List ℕ = fresh_at s at count total in
    cond (leb (length fresh) (length room))
    (salvaged image_done (length (kept_at s at count 0 total)) count (place_at s at count 0 total) (length fresh) (fresh ++ drop (length fresh) room))
    (salvaged (image_reply NoRoom) 0 0 (place_at s at count 0 total) 0 room)
