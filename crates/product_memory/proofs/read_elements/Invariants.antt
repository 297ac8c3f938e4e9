-- The loop: below `j` the values are the elements.
use Rattle.numbers.proofs.Kit.{◌≡◌, ℕ, ◌+◌, ◌*◌, ◌<◌, get_or}
use Rattle.numbers.specs.Tile.{get_le}
use Rattle.product_memory.proofs.read_elements.Given as goal

abbrev pub invariant-loop-j : goal.invariant-loop-j
invariant-loop-j l = (q : ℕ) → q < l.j → get_or l.values q 0 ≡ get_le l.memory (l.at + q * l.width) l.width
