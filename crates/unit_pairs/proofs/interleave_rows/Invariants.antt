-- The loop: the first `l` rows, an even number.
use Rattle.numbers.proofs.Kit.{◌≡◌, ℕ, ◌+◌, ◌*◌, ◌<◌, get_or}
use Rattle.unit_pairs.specs.Pairs.{half, place_of}
use Rattle.unit_pairs.proofs.interleave_rows.Given as goal

abbrev pub invariant-loop-p : goal.invariant-loop-p
invariant-loop-p l =
    (r j : ℕ) → r < 2 * l.p → j < l.n → get_or l.d (place_of r j) 0 ≡ half l.s (l.b + r * l.pitch + j * l.width) l.width
