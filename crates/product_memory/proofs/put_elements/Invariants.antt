-- The loop: the first `i` values are stored.
use Rattle.numbers.proofs.Kit.{◌≡◌, get_or}
use Rattle.numbers.specs.Tile.{put_row}
use Rattle.product_memory.proofs.put_elements.Given as goal

abbrev pub invariant-loop-i : goal.invariant-loop-i
invariant-loop-i l = l.memory ≡ put_row l.at l.i l.width (λ q. get_or l.values q 0) l.initial.memory
