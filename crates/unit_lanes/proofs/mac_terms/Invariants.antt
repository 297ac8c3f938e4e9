use Rattle.numbers.proofs.Kit.{◌+◌, get_or}
use Rattle.std.specs.Prelude.{map}
use Rattle.unit_sums.specs.Rows.{plus_times}
use Rattle.unit_lanes.proofs.LaneLaws.{Summed}
use Rattle.unit_lanes.proofs.mac_terms.Given as goal

abbrev pub invariant-loop-j : goal.invariant-loop-j
invariant-loop-j g l =
    let e = g.E.Element in
    Summed (λ q. plus_times e.BYTES (plus_times e.BYTES (get_or (map e.number l.initial.sums) q 0) (e.number l.x) (get_or (map e.number l.d) (l.at + q) 0))
    (e.number l.y) (get_or (map e.number l.d) (l.next + q) 0)) (map e.number l.initial.sums) (map e.number l.sums) l.j
