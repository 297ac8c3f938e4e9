-- The first `l` rows are fetched.
use Rattle.numbers.proofs.Kit.{◌≡◌, ℕ, ◌+◌, ◌*◌, ◌<◌, get_or}
use Rattle.std.specs.Float.{nan}
use Rattle.numbers.specs.Bounds.{most_floats}
use Rattle.unit_floats.specs.Rows.{float_at}
use Rattle.unit_floats.proofs.fetch_tile.Given as goal

abbrev pub invariant-loop-l : goal.invariant-loop-l
invariant-loop-l l = (t j : ℕ) → t < l.l → j < l.n → get_or l.d (t * most_floats + j) nan ≡ float_at l.s (l.b + t * l.pitch + j * 4)
