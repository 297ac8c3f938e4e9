-- The loop: the first `l` elements, an even number.
use Rattle.numbers.proofs.Kit.{◌≡◌, ℕ, ◌+◌, ◌*◌, ◌≤◌, ◌<◌, get_or}
use Rattle.unit_pairs.specs.Pairs.{padded}
use Rattle.unit_pairs.proofs.repeat_row.Given as goal

abbrev pub invariant-loop-p : goal.invariant-loop-p
invariant-loop-p l =
    ((p q : ℕ) → p < l.p → q < 4 → (get_or l.d (8 * p + 2 * q) 0 ≡ padded l.s l.a l.width l.k (2 * p)) × (get_or l.d (8 * p + 2 * q + 1) 0 ≡ padded l.s l.a l.width l.k (2 * p + 1)))
    × ((i : ℕ) → 8 * l.p ≤ i → get_or l.d i 0 ≡ 0)
