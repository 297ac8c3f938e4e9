use Rattle.numbers.proofs.Kit.{◌≡◌, ◌∙◌, subst, true, ℕ, ◌+◌, ◌*◌, arith}
use Rattle.std.proofs.Common.{rules}
use Rattle.machine.specs.Tests.{all}
use Rattle.unit_address.proofs.TestLaws.{all-next}
use Rattle.unit_tile.proofs.MarkLaws.{row_marked, element_marked, row-elements, tile-marked, tile-unmarked}
use Rattle.unit_tile.proofs.first_unmarked.Goals as goal

pub returns-then-not-row_marked : goal.returns-then-not-row_marked
returns-then-not-row_marked c =
    let a = c.args in
    tile-unmarked a.marks.now (λ i. a.start + i * a.pitch) a.rows a.cols a.w c.tile.i c.loop-j.j c.tile-test.true c.loop-j-test.true c.tile.invariant.1 c.loop-j.invariant.1 (search rules)

pub tile-preserved : goal.tile-preserved
tile-preserved c =
    let a = c.args in
    let at : ℕ → ℕ = λ i. a.start + i * a.pitch in
    let e : c.loop-j.j ≡ a.cols = omega arith in (
      c.loop-j.invariant.0,
      all-next c.tile.i (row_marked a.marks.now at (a.cols * a.w)) c.tile.invariant.1
          (row-elements a.marks.now at a.rows a.cols a.w c.tile.i (subst (λ (n : ℕ). all n (element_marked a.marks.now (at c.tile.i) a.w) ≡ true) e c.loop-j.invariant.1)),
    )

pub returns-after-tile : goal.returns-after-tile
returns-after-tile c =
    let a = c.args in
    let at : ℕ → ℕ = λ i. a.start + i * a.pitch in
    let e : c.tile.i ≡ a.rows = omega arith in
    c.tile.invariant.0 ∙ tile-marked a.marks.now at a.rows a.cols a.w (subst (λ (n : ℕ). all n (row_marked a.marks.now at (a.cols * a.w)) ≡ true) e c.tile.invariant.1)
