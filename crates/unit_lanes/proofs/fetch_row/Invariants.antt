use Rattle.numbers.proofs.Kit.{◌+◌, ◌*◌}
use Rattle.std.specs.Prelude.{map}
use Rattle.unit_sums.specs.Rows.{residue_at}
use Rattle.unit_lanes.proofs.LaneLaws.{Fetched}
use Rattle.unit_lanes.proofs.fetch_row.Given as goal

abbrev pub invariant-loop-j : goal.invariant-loop-j
invariant-loop-j g l =
    let e = g.E.Element in
    let w = g.N.Element.BYTES in
    Fetched (λ q. residue_at e.BYTES l.s (l.at + q * w) w) (map e.number l.initial.d) l.to l.n (map e.number l.d) l.j
