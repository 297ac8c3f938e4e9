-- The loop: each sum, with the two pairs that are still to be added, has the first `p` pairs.
use Rattle.numbers.proofs.Kit.{◌≡◌, ℕ, ◌+◌, ◌*◌, ◌%◌, ◌<◌}
use Rattle.unit_pairs.specs.Pairs.{lane, pairs_row}
use Rattle.unit_pairs.proofs.add_block.Given as goal

abbrev pub invariant-loop-i : goal.invariant-loop-i
invariant-loop-i l =
    (q : ℕ) → q < 4 → ((lane l.sum q + lane l.t q) % 0x1_0000_0000 + lane l.u q) % 0x1_0000_0000 ≡ pairs_row l.s l.c l.xs l.b l.o (2 * l.i) q
