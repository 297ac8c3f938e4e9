-- The first `j` sums are stored.
use Rattle.numbers.proofs.Kit.{◌≡◌, get_or}
use Rattle.std.specs.Float.{nan}
use Rattle.numbers.specs.Tile.{put_row}
use Rattle.numbers.specs.Binary32.{settled}
use Rattle.unit_floats.proofs.store_row.Given as goal

abbrev pub invariant-loop-j : goal.invariant-loop-j
invariant-loop-j l = l.s ≡ put_row l.to l.j 4 (λ q. settled (get_or l.sums q nan)) l.initial.s
