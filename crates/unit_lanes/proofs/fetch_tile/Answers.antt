use Rattle.numbers.proofs.Kit.{inl, ◌+◌, ◌*◌, arith}
use Rattle.std.specs.Prelude.{map}
use Rattle.unit_sums.specs.Rows.{residue_at}
use Rattle.unit_lanes.proofs.LaneLaws.{tile-next}
use Rattle.unit_lanes.proofs.fetch_tile.Goals as goal

pub loop-l-init : goal.loop-l-init
loop-l-init g c = λ t j h. absurd (omega arith)

pub loop-l-preserved : goal.loop-l-preserved
loop-l-preserved g c =
    let e = g.E.Element in
    let w = g.N.Element.BYTES in
    let a = c.args in
    let l = c.loop-l in
    let f = c.fetch_row in
    tile-next (λ t j. residue_at e.BYTES a.s.now (a.b + t * a.pitch + j * w) w) g.row.L a.n (map e.number l.d) (map e.number f.new.d) l.l
    c.requires.n_le_lanes.0 l.invariant f.ensures.fetched (λ i h. f.ensures.others i (inl h))

pub returns : goal.returns
returns g c = λ l j h i. c.loop-l.invariant l j (omega arith) i
