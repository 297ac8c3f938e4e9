use Rattle.numbers.proofs.Kit.{ap, ◌∙◌, ℕ, ◌+◌, ◌*◌, ◌^◌, arith}
use Rattle.numbers.specs.Reduce.{signed, reduce}
use Rattle.unit_sums.proofs.KernelLaws.{add-next}
use Rattle.unit_sums.proofs.mac_row.Goals as goal

pub loop-j-preserved : goal.loop-j-preserved
loop-j-preserved g c =
    let e = g.E.Element in
    let w = g.N.Element.BYTES in
    let a = c.args in
    let l = c.loop-j in
    add-next e.number e.BYTES a.acc.now a.s.now a.at w (e.number a.x) l.acc l.j (a.at + l.j * c.BYTES.result) c.mac.result c.index-acc-j.result
    (e.number c.from_signed-y.result) l.invariant (omega arith) (ap (λ (b : ℕ). a.at + l.j * b) c.BYTES.ensures) c.mac.ensures
    (c.from_signed-y.ensures ∙ ap (λ (v : ℕ). reduce (256 ^ e.BYTES) (signed (256 ^ w) v)) c.read.ensures)
