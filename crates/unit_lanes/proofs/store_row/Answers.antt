use Rattle.numbers.proofs.Kit.{◌≡◌, refl, ap, ◌∙◌, ℕ, ◌+◌, ◌*◌, ◌^◌, arith, get_or}
use Rattle.std.specs.Prelude.{map}
use Rattle.numbers.specs.Reduce.{signed, reduce}
use Rattle.numbers.specs.Tile.{put_row}
use Rattle.numbers.proofs.ElementLaws.{put_row-next}
use Rattle.unit_lanes.proofs.LaneLaws.{numbered}
use Rattle.unit_lanes.proofs.store_row.Goals as goal

pub loop-j-init : goal.loop-j-init
unfolding put_row
loop-j-init g c = refl

pub loop-j-preserved : goal.loop-j-preserved
loop-j-preserved g c =
    let e = g.E.Element in
    let o = g.O.Element in
    let a = c.args in
    let l = c.loop-j in
    let v = c.index-sums-j in
    let x = c.from_signed in
    let low : ℕ → ℕ = λ v. reduce (256 ^ o.BYTES) (signed (256 ^ e.BYTES) v) in
    put_row-next o.BYTES a.s.now l.s c.write.new.s (λ q. low (get_or (map e.number a.sums.now) q 0)) a.to l.j (a.to + l.j * c.BYTES.result) (o.number x.result)
    l.invariant (ap (λ (b : ℕ). a.to + l.j * b) c.BYTES.ensures) (x.ensures ∙ ap low (numbered e.number a.sums.now l.j v.result v.is (omega arith))) c.write.ensures

pub returns : goal.returns
returns g c =
    let e = g.E.Element in
    let o = g.O.Element in
    let a = c.args in
    let h : c.loop-j.j ≡ a.n = omega arith in
    c.loop-j.invariant
    ∙ ap (λ (n : ℕ). put_row a.to n o.BYTES (λ q. reduce (256 ^ o.BYTES) (signed (256 ^ e.BYTES) (get_or (map e.number a.sums.now) q 0))) a.s.now) h
