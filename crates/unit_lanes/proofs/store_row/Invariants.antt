use Rattle.numbers.proofs.Kit.{◌≡◌, ◌^◌, get_or}
use Rattle.std.specs.Prelude.{map}
use Rattle.numbers.specs.Reduce.{signed, reduce}
use Rattle.numbers.specs.Tile.{put_row}
use Rattle.unit_lanes.proofs.store_row.Given as goal

abbrev pub invariant-loop-j : goal.invariant-loop-j
invariant-loop-j g l =
    let e = g.E.Element in
    let o = g.O.Element in
    l.s ≡ put_row l.to l.j o.BYTES (λ q. reduce (256 ^ o.BYTES) (signed (256 ^ e.BYTES) (get_or (map e.number l.sums) q 0))) l.initial.s
