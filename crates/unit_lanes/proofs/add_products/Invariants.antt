use Rattle.numbers.proofs.Kit.{◌≡◌, ℕ, ◌+◌, ◌*◌, ◌<◌, get_or, min}
use Rattle.std.specs.Prelude.{map}
use Rattle.machine.specs.ArithmeticWords.{product}
use Rattle.unit_sums.specs.Rows.{residue_at}
use Rattle.unit_lanes.proofs.add_products.Given as goal

abbrev pub invariant-loop-p : goal.invariant-loop-p
invariant-loop-p g l =
    let e = g.E.Element in
    let w = g.N.Element.BYTES in
    (j : ℕ) → j < g.row.L → get_or (map e.number l.sums) j 0 ≡ product e.BYTES e.BYTES (min (2 * l.p) l.k) (get_or (map e.number l.initial.sums) j 0) (λ t. residue_at e.BYTES l.s (l.a + t * w) w) (λ t. get_or (map e.number l.d) (t * g.row.L + j) 0)
