-- From column `j` on the row has its weighted sums.
use Rattle.numbers.proofs.Kit.{◌≡◌, ap, ap₂, ◌∙◌, ℕ, ◌+◌, ◌-◌, ◌*◌, ◌%◌, ◌^◌, zero-add, arith}
use Rattle.numbers.specs.Tile.{put_row}
use Rattle.numbers.proofs.ElementLaws.{put_row-cong}
use Rattle.unit_arithmetic.specs.Weights.{weighed}
use Rattle.unit_arithmetic.proofs.WeightLaws.{weighed_from, block-turn}
use Rattle.unit_arithmetic.proofs.weights.weigh_row.Goals as goal

pub loop-j-init : goal.loop-j-init
unfolding put_row
loop-j-init c =
    let a = c.args in
    (omega arith, ap (λ (t : ℕ). put_row (a.to + a.n * a.w.wide) t a.w.wide (λ t. weighed a.w a.s.now a.from a.to (a.n + t)) a.s.now) (none a.n))
  where
    none : (n : ℕ) → 0 ≡ n - n
    none n = omega arith

pub loop-j-preserved : goal.loop-j-preserved
loop-j-preserved c =
    let a = c.args in
    let w = a.w in
    let l = c.loop-j in
    let o = c.min-columns.result in
    let j = l.j - o in
    let e : l.j ≡ j + o = omega arith in (
      omega arith,
      block-turn a.from a.to w.width w.wide (w.x % 256 ^ w.wide) (w.y % 256 ^ w.wide) a.n j o a.s.now l.s c.weigh_block.new.s
          c.requires.widths.1.1 (omega (arith, e)) c.requires.width_in_bounds.1 c.requires.aligned
          (l.invariant.1 ∙ ap (weighed_from w a.s.now a.from a.to a.n) e) c.weigh_block.ensures,
    )

pub returns : goal.returns
returns c =
    let a = c.args in
    let w = a.w in
    let row : ℕ → ℕ = weighed w a.s.now a.from a.to in
    let e : c.loop-j.j ≡ 0 = omega arith in
    c.loop-j.invariant.1 ∙ ap (weighed_from w a.s.now a.from a.to a.n) e
    ∙ ap₂ (λ (p t : ℕ). put_row p t w.wide (λ t. row (0 + t)) a.s.now) (omega arith) (omega arith)
    ∙ put_row-cong w.wide a.to a.n (λ t. row (0 + t)) row a.s.now (λ t h. ap row (zero-add t))
