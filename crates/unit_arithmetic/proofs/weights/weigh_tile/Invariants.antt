-- The first `i` rows are weighted sums.
use Rattle.numbers.proofs.Kit.{◌≡◌, ◌%◌, ◌^◌}
use Rattle.unit_arithmetic.specs.Tiles.{shape_of}
use Rattle.unit_arithmetic.specs.Weights.{weighted_tile}
use Rattle.unit_arithmetic.proofs.weights.weigh_tile.Given as goal

abbrev pub invariant-loop-i : goal.invariant-loop-i
invariant-loop-i l =
    l.registers ≡ weighted_tile (shape_of l.t) l.w.wide l.w.width l.d l.a (l.w.x % 256 ^ l.w.wide) (l.w.y % 256 ^ l.w.wide) l.i l.t.n l.initial.registers
