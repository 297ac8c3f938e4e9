-- The first `j` sums of each row have their product, and the others are as they were.
use Rattle.numbers.proofs.Kit.{◌≡◌, ℕ, ◌+◌, ◌<◌, ◌≤◌, get_or}
use Rattle.std.specs.Float.{nan}
use Rattle.numbers.specs.Binary32.{multiply_add}
use Rattle.unit_floats.proofs.mac_two.Given as goal

abbrev pub invariant-loop-j : goal.invariant-loop-j
invariant-loop-j l =
    ((q : ℕ) → q < l.j → get_or l.sums q nan ≡ multiply_add (get_or l.initial.sums q nan) l.x (get_or l.d (l.at + q) nan))
    × ((q : ℕ) → l.j ≤ q → get_or l.sums q nan ≡ get_or l.initial.sums q nan)
    × ((q : ℕ) → q < l.j → get_or l.others q nan ≡ multiply_add (get_or l.initial.others q nan) l.y (get_or l.d (l.at + q) nan))
    × ((q : ℕ) → l.j ≤ q → get_or l.others q nan ≡ get_or l.initial.others q nan)
