-- The loop: the first elements of both rows.
use Rattle.numbers.proofs.Kit.{◌≡◌, ℕ, ◌+◌, ◌*◌, ◌<◌, get_or}
use Rattle.unit_pairs.specs.Pairs.{half}
use Rattle.unit_pairs.proofs.interleave.Given as goal

abbrev pub invariant-loop-j : goal.invariant-loop-j
invariant-loop-j l =
    (l.o ≡ l.to + 2 * l._j) × (l.f ≡ l.p + l._j * l.width) × (l.g ≡ l.q + l._j * l.width) ×
    ((r : ℕ) → r < l._j → (get_or l.d (l.to + 2 * r) 0 ≡ half l.s (l.p + r * l.width) l.width) × (get_or l.d (l.to + 2 * r + 1) 0 ≡ half l.s (l.q + r * l.width) l.width))
    × ((i : ℕ) → i < l.to → get_or l.d i 0 ≡ get_or l.initial.d i 0)
