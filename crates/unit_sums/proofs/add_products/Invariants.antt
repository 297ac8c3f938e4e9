use Rattle.std.specs.Prelude.{length, map}
use Rattle.unit_sums.proofs.KernelLaws.{Summed}
use Rattle.unit_sums.proofs.add_products.Given as goal

abbrev pub invariant-loop-l : goal.invariant-loop-l
invariant-loop-l g l =
    let e = g.E.Element in
    Summed e.BYTES l.s l.a l.b l.pitch l.width (length l.initial.acc) (map e.number l.acc) l.l
