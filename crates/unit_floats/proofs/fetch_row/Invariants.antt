-- The first `j` values are fetched, and those before `to` are as they were.
use Rattle.numbers.proofs.Kit.{◌≡◌, ℕ, ◌+◌, ◌*◌, ◌<◌, get_or}
use Rattle.std.specs.Float.{nan}
use Rattle.unit_floats.specs.Rows.{float_at}
use Rattle.unit_floats.proofs.fetch_row.Given as goal

abbrev pub invariant-loop-j : goal.invariant-loop-j
invariant-loop-j l =
    ((q : ℕ) → q < l.j → get_or l.d (l.to + q) nan ≡ float_at l.s (l.at + q * 4))
    × ((i : ℕ) → i < l.to → get_or l.d i nan ≡ get_or l.initial.d i nan)
