use Rattle.numbers.proofs.Kit.{◌≡◌, ◌∙◌, ◌^◌, length, take, replicate, length-take, length-replicate, arith}
use Rattle.std.specs.Prelude.{map}
use Rattle.std.proofs.Math.Nat.{zero-mod}
use Rattle.numbers.specs.Bounds.{most_columns}
use Rattle.unit_sums.proofs.KernelLaws.{zeros}
use Rattle.unit_sums.proofs.RowLaws.{row-of-weights}
use Rattle.unit_sums.proofs.weigh_row.Goals as goal

pub returns : goal.returns
returns g c =
    let e = g.E.Element in
    let a = c.args in
    let z = c.low-sums.result in
    let d = c.mac.new.acc in
    let n : length d ≡ a.n = c.mac.auto.acc ∙ simp (length-take, length-replicate) (omega arith) in
    row-of-weights e.BYTES a.s.now a.width a.from a.to a.n (e.number a.x) (e.number a.y) (map e.number (take a.n (replicate most_columns z))) (map e.number d)
    c.finish_row.new.s (zeros e.number z (c.low-sums.ensures ∙ zero-mod (256 ^ e.BYTES)) a.n most_columns) (λ j h. c.mac.ensures j (omega arith))
    (rw n at c.finish_row.ensures)
