use Rattle.numbers.proofs.Kit.{refl, ◌+◌, arith}
use Rattle.std.specs.Prelude.{map}
use Rattle.unit_lanes.proofs.LaneLaws.{numbered, add-next}
use Rattle.unit_lanes.proofs.mac_two.Goals as goal

pub loop-j-init : goal.loop-j-init
loop-j-init g c = ((λ q h. absurd (omega arith), λ q h. refl), (λ q h. absurd (omega arith), λ q h. refl))

pub loop-j-preserved : goal.loop-j-preserved
loop-j-preserved g c =
    let e = g.E.Element in
    let a = c.args in
    let l = c.loop-j in
    let u = c.index-sums-j in
    let v = c.index-others-j in
    let z = c.index-d-at in
    let ez = numbered e.number a.d.now (a.at + l.j) z.result z.is (omega arith) in (
      add-next e.number e.BYTES (map e.number a.sums.now) (map e.number a.d.now) a.at (e.number a.x) l.sums l.j c.mac.result u.result (e.number z.result)
          l.invariant.0 (omega arith) c.mac.ensures u.is ez,
      add-next e.number e.BYTES (map e.number a.others.now) (map e.number a.d.now) a.at (e.number a.y) l.others l.j c.mac-in-loop-j.result v.result (e.number z.result)
          l.invariant.1 (omega arith) c.mac-in-loop-j.ensures v.is ez,
    )

pub returns-clause-first : goal.returns-clause-first
returns-clause-first g c = λ j h. c.loop-j.invariant.0.0 j (omega arith)

pub returns-clause-second : goal.returns-clause-second
returns-clause-second g c = λ j h. c.loop-j.invariant.1.0 j (omega arith)
