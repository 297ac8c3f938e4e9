use Rattle.std.specs.Prelude.{map}
use Rattle.unit_sums.proofs.KernelLaws.{Added}
use Rattle.unit_sums.proofs.mac_row.Given as goal

abbrev pub invariant-loop-j : goal.invariant-loop-j
invariant-loop-j g l =
    let e = g.E.Element in
    Added e.BYTES (map e.number l.initial.acc) l.s l.at g.N.Element.BYTES (e.number l.x) (map e.number l.acc) l.j
