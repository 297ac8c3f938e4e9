use Rattle.numbers.proofs.Kit.{refl, length, arith}
use Rattle.std.specs.Prelude.{map}
use Rattle.unit_sums.proofs.KernelLaws.{sum_first, sum-next}
use Rattle.unit_sums.proofs.add_products.Goals as goal

pub loop-l-init : goal.loop-l-init
loop-l-init g c =
    let e = g.E.Element in
    let a = c.args in
    sum_first e.BYTES a.s.now a.a a.b a.pitch a.width (length a.acc.now) (map e.number a.acc.now) c.requires.zero

pub loop-l-preserved : goal.loop-l-preserved
loop-l-preserved g c =
    let e = g.E.Element in
    let a = c.args in
    let l = c.loop-l in
    let m = c.mac in
    sum-next e.BYTES a.s.now a.a a.b a.pitch a.width (length a.acc.now) (map e.number l.acc) (map e.number m.new.acc) l.l _
    (e.number c.read_signed-x.result) l.invariant refl c.read_signed-x.ensures (λ q h. m.ensures q (omega arith))
