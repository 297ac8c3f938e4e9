use Rattle.numbers.proofs.Kit.{◌≡◌, ℕ, ◌+◌, ◌*◌, ◌<◌, get_or}
use Rattle.std.specs.Prelude.{map}
use Rattle.machine.specs.ArithmeticWords.{product}
use Rattle.unit_sums.specs.Rows.{residue_at}
use Rattle.unit_lanes.proofs.add_two.Given as goal

abbrev pub invariant-loop-l : goal.invariant-loop-l
invariant-loop-l g l =
    let e = g.E.Element in
    let w = g.N.Element.BYTES in
    ((j : ℕ) → j < g.row.L → get_or (map e.number l.sums) j 0 ≡ product e.BYTES e.BYTES l.l (get_or (map e.number l.initial.sums) j 0) (λ t. residue_at e.BYTES l.s (l.a + t * w) w) (λ t. get_or (map e.number l.d) (t * g.row.L + j) 0))
    × ((j : ℕ) → j < g.row.L → get_or (map e.number l.others) j 0 ≡ product e.BYTES e.BYTES l.l (get_or (map e.number l.initial.others) j 0) (λ t. residue_at e.BYTES l.s (l.e + t * w) w) (λ t. get_or (map e.number l.d) (t * g.row.L + j) 0))
