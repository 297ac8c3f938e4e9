use Rattle.numbers.proofs.Kit.{◌≡◌, subst, true, ℕ, ◌+◌, ◌*◌, arith}
use Rattle.std.proofs.Common.{rules}
use Rattle.machine.specs.Tests.{all}
use Rattle.unit_tile.proofs.MarkLaws.{row_marked, rows-marked, rows-unmarked}
use Rattle.unit_tile.proofs.tile_marked.Goals as goal

pub returns-then-not-line_marked : goal.returns-then-not-line_marked
returns-then-not-line_marked c =
    let a = c.args in
    rows-unmarked a.marks.now (λ i. a.start + i * a.pitch) a.rows a.n c.loop-i.i c.loop-i-test.true (search rules)

pub returns : goal.returns
returns c =
    let a = c.args in
    let at : ℕ → ℕ = λ i. a.start + i * a.pitch in
    let e : c.loop-i.i ≡ a.rows = omega arith in
    rows-marked a.marks.now at a.rows a.n (subst (λ (n : ℕ). all n (row_marked a.marks.now at a.n) ≡ true) e c.loop-i.invariant)
