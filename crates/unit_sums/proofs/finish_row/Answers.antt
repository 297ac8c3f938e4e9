use Rattle.numbers.proofs.Kit.{sym, ap, ◌∙◌, ℕ, ◌+◌, ◌*◌, refl, arith}
use Rattle.std.specs.Prelude.{map}
use Rattle.std.proofs.lemmas.List.{get_or-map}
use Rattle.numbers.specs.Tile.{put_row}
use Rattle.unit_sums.proofs.KernelLaws.{finish-next}
use Rattle.unit_sums.proofs.finish_row.Goals as goal

pub loop-j-init : goal.loop-j-init
unfolding put_row
loop-j-init g c = refl

pub loop-j-preserved : goal.loop-j-preserved
loop-j-preserved g c =
    let e = g.E.Element in
    let a = c.args in
    let l = c.loop-j in
    let v = c.index-acc-j.result in
    finish-next e.BYTES a.s.now (map e.number a.acc.now) a.to (e.number a.x) l.s c.write.new.s l.j (a.to + l.j * c.BYTES.result)
    (e.number c.mac.result) (e.number v) (e.number c.read-y.result) l.invariant (ap (λ (b : ℕ). a.to + l.j * b) c.BYTES.ensures)
    (ap e.number c.index-acc-j.is ∙ sym (get_or-map e.number a.acc.now l.j v 0 (omega arith))) c.mac.ensures c.read-y.ensures c.write.ensures
