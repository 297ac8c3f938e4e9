use Rattle.numbers.proofs.Kit.{◌≡◌, ℕ, ◌+◌, ◌*◌, ◌<◌, get_or}
use Rattle.std.specs.Prelude.{map}
use Rattle.unit_sums.specs.Rows.{residue_at}
use Rattle.unit_lanes.proofs.fetch_tile.Given as goal

abbrev pub invariant-loop-l : goal.invariant-loop-l
invariant-loop-l g l =
    let e = g.E.Element in
    let w = g.N.Element.BYTES in
    (t j : ℕ) → t < l.l → j < l.n → get_or (map e.number l.d) (t * g.row.L + j) 0 ≡ residue_at e.BYTES l.s (l.b + t * l.pitch + j * w) w
