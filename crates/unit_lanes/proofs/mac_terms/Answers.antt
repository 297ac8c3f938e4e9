use Rattle.numbers.proofs.Kit.{refl, ap₂, ◌∙◌, ℕ, ◌+◌, arith, get_or}
use Rattle.std.specs.Prelude.{map}
use Rattle.unit_sums.specs.Rows.{plus_times}
use Rattle.unit_lanes.proofs.LaneLaws.{numbered, summed-next}
use Rattle.unit_lanes.proofs.mac_terms.Goals as goal

pub loop-j-init : goal.loop-j-init
loop-j-init g c = (λ q h. absurd (omega arith), λ q h. refl)

pub loop-j-preserved : goal.loop-j-preserved
loop-j-preserved g c =
    let e = g.E.Element in
    let a = c.args in
    let l = c.loop-j in
    let v = c.index-sums-j in
    let y = c.index-d-at in
    let z = c.index-d-next in
    summed-next e.number (λ q. plus_times e.BYTES (plus_times e.BYTES (get_or (map e.number a.sums.now) q 0) (e.number a.x) (get_or (map e.number a.d.now) (a.at + q) 0))
    (e.number a.y) (get_or (map e.number a.d.now) (a.next + q) 0)) (map e.number a.sums.now) l.sums l.j c.mac-in-loop-j.result
    l.invariant (omega arith)
    (c.mac-in-loop-j.ensures
    ∙ ap₂ (λ (v z : ℕ). plus_times e.BYTES v (e.number a.y) z)
    (c.mac.ensures ∙ ap₂ (λ (v y : ℕ). plus_times e.BYTES v (e.number a.x) y) (numbered e.number l.sums l.j v.result v.is (omega arith) ∙ l.invariant.1 l.j (omega arith)) (numbered e.number a.d.now (a.at + l.j) y.result y.is (omega arith)))
    (numbered e.number a.d.now (a.next + l.j) z.result z.is (omega arith)))

pub returns : goal.returns
returns g c = λ j h. c.loop-j.invariant.0 j (omega arith)
