use Rattle.numbers.proofs.Kit.{refl, ap, ◌∙◌, ℕ, ◌+◌, ◌*◌, ◌^◌, arith}
use Rattle.std.specs.Prelude.{map}
use Rattle.numbers.specs.Reduce.{signed, reduce}
use Rattle.numbers.specs.Tile.{get_le}
use Rattle.unit_sums.specs.Rows.{residue_at}
use Rattle.unit_lanes.proofs.LaneLaws.{fetch-next}
use Rattle.unit_lanes.proofs.fetch_row.Goals as goal

pub loop-j-init : goal.loop-j-init
loop-j-init g c = (λ q h. absurd (omega arith), λ i h. refl)

pub loop-j-preserved : goal.loop-j-preserved
loop-j-preserved g c =
    let e = g.E.Element in
    let w = g.N.Element.BYTES in
    let a = c.args in
    let l = c.loop-j in
    let x = c.from_signed in
    fetch-next e.number (λ q. residue_at e.BYTES a.s.now (a.at + q * w) w) (map e.number a.d.now) a.to a.n l.d l.j x.result
    l.invariant c.loop-j-test.true (omega arith)
    (x.ensures ∙ ap (λ (v : ℕ). reduce (256 ^ e.BYTES) (signed (256 ^ w) v)) (c.read.ensures ∙ ap (λ (b : ℕ). get_le a.s.now (a.at + l.j * b) w) c.BYTES.ensures))

pub returns-clause-fetched : goal.returns-clause-fetched
returns-clause-fetched g c = λ j h. c.loop-j.invariant.0 j (omega arith)

pub returns-clause-others : goal.returns-clause-others
returns-clause-others g c = c.loop-j.invariant.1
