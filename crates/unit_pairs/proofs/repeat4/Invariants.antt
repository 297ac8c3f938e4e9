-- The loop: `q` times so far.
use Rattle.numbers.proofs.Kit.{◌≡◌, ◌⊎◌, ℕ, ◌+◌, ◌*◌, ◌≤◌, ◌<◌, get_or}
use Rattle.unit_pairs.proofs.repeat4.Given as goal

abbrev pub invariant-loop-q : goal.invariant-loop-q
invariant-loop-q l =
    ((r : ℕ) → r < l.q → (get_or l.d (l.o + 2 * r) 0 ≡ l.x) × (get_or l.d (l.o + 2 * r + 1) 0 ≡ l.y))
    × ((i : ℕ) → (i < l.o) ⊎ (l.o + 8 ≤ i) → get_or l.d i 0 ≡ get_or l.initial.d i 0)
