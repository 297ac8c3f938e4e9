-- What the parts of a check find, from a place of the input on.
use Rattle.std.specs.Prelude.{Result, Ok, Err, ◌+◌, ◌-◌, ◌*◌, ◌^◌, ◌≤◌, ◌<◌}
use Rattle.numbers.specs.Kit.{cond, List, ℕ, zero, suc, min, eqb, leb, ltb, length}
use Rattle.numbers_coded.specs.declared.Damage.{Damage}
use Rattle.numbers_coded.specs.At.{number_at}
use Rattle.image.specs.declared.ImageError.TheVariants.{Damaged}
use Rattle.image.specs.Reading.{Verdict, verdict_of}
use Rattle.image_header.specs.declared.Fields.{Fields}
use Rattle.image_header.specs.Fields.{onward, runs_from, fields_in}
use Rattle.image_check.specs.declared.runs.RunRead.{RunRead}
use Rattle.image_check.specs.declared.runs.Runs.{Runs}
use Rattle.image_check.specs.declared.scan.Scanned.{Scanned}

-- ---- the runs

-- the gap and the length of a run and the place of its bytes, or the place of a fault
pub data Next : Type 0 where
  NextRun : ℕ → ℕ → ℕ → Next
  NextBad : ℕ → Next

abbrev pub plain_run : Next → Result RunRead Damage
plain_run (NextRun gap size at) = Ok (record { gap = gap; size = size; at = at })
plain_run (NextBad p) = Err (record { at = p })

-- the next of so many runs in room bytes, whose gap is at least least
unfoldable pub next_at : (s : List ℕ) (at left least room : ℕ) → Next
next_at s at left least room =
    onward (number_at s at least (room - (1 + 2 * (left - 1)))) NextBad λ gap a.
    onward (number_at s a 1 (room - (gap + 2 * (left - 1)))) NextBad λ size b.
    cond (leb (b + size) (length s)) (NextRun gap size b) (NextBad (length s))

-- what the code asks of the runs that are left
abbrev pub RunsOk : List ℕ → ℕ → Runs → Type 0
RunsOk s at t = (at ≤ length s) × (min t.kept 1 + 2 * t.left ≤ t.room + 1) × (t.room < 2 ^ 32) × (t.kept + t.left < 2 ^ 32)

abbrev pub runs_of : (left kept room at place : ℕ) → Runs
runs_of left kept room at place = record { left = left; kept = kept; room = room; at = at; place = place }

abbrev pub past_run : Runs → ℕ → Next → Runs
past_run t at (NextRun gap size a) = runs_of (t.left - 1) (t.kept + 1) (t.room - (gap + size)) (a + size) (a + size)
past_run t at (NextBad p) = runs_of 0 t.kept t.room at p

-- one run more, read at a place
unfoldable pub run_from : List ℕ → ℕ → Runs → Runs
run_from s at t = past_run t at (next_at s at t.left (min t.kept 1) t.room)

-- all that are left, at most so many
unfoldable pub runs_all : List ℕ → (most : ℕ) → Runs → Runs
runs_all s zero t = t
runs_all s (suc n) t = cond (ltb 0 t.left) (runs_all s n (run_from s t.at t)) t

-- before the first: none is left where the header is at fault
unfoldable pub runs_behind : Fields → Runs
runs_behind f = cond (eqb f.next 12) (runs_of f.runs 0 (2 * 2 ^ f.mlen) f.at f.at) (runs_of 0 0 0 f.at f.at)

-- ---- the header, then the runs

unfoldable pub scan_in : List ℕ → Scanned
scan_in s = record { fields = fields_in s; runs = runs_all s (runs_behind (fields_in s)).left (runs_behind (fields_in s)) }

-- whether that is an image of so many bytes, or the place of the fault
unfoldable pub verdict_in : Scanned → ℕ → Verdict
verdict_in t size =
    cond (eqb t.fields.next 12)
    (cond (eqb t.runs.kept t.fields.runs) (cond (eqb t.runs.place size) (Ok tt) (Err (Damaged t.runs.place))) (Err (Damaged t.runs.place)))
    (Err (Damaged t.runs.place))

-- whether they are there, or the place of a fault
unfoldable pub runs_verdict : (s : List ℕ) (at count least room : ℕ) → Verdict
runs_verdict s at count least room = verdict_of (runs_from s at count least room)
