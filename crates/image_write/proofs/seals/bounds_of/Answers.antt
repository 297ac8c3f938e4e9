-- `image_write::seals::bounds_of` meets its contract. The invariant: the numbers of the ranges so far stand in front.
use Rattle.numbers.proofs.Kit.{◌≡◌, refl, sym, ap, ◌∙◌, ℕ, ◌+◌, ◌*◌, arith, take, set, length-set}
use Rattle.unit_ranges.specs.Ranges.{first_ranges}
use Rattle.image.specs.Images.{bounds}
use Rattle.image_write.proofs.SealLaws.{block-long, seals-are, take-two, bounds-next}
use Rattle.image_write.proofs.seals.bounds_of.Goals as goal

pub loop-i-init : goal.loop-i-init
loop-i-init c = (omega arith, refl, refl)

pub read-requires : goal.read-requires
read-requires c =
    omega (arith, c.slot_at-at.ensures.1, block-long c.args.block.now c.requires)

pub read-requires-in-loop-i : goal.read-requires-in-loop-i
read-requires-in-loop-i c =
    omega (arith, c.slot_at-at.ensures.1, block-long c.args.block.now c.requires)

pub bounds-numbers-i-in-loop-i : goal.bounds-numbers-i-in-loop-i
bounds-numbers-i-in-loop-i c =
    omega (arith, c.loop-i-test.true, c.count_of-count.ensures.1, c.loop-i.invariant.1, length-set c.loop-i.numbers (2 * c.loop-i.i) c.read.result)

pub loop-i-preserved : goal.loop-i-preserved
loop-i-preserved c =
    let l = c.loop-i in
    let a = c.args in
    let many = c.count_of-count.ensures.1 in (
      omega (arith, c.loop-i-test.true),
      length-set (set l.numbers (2 * l.i) c.read.result) (2 * l.i + 1) c.read-in-loop-i.result ∙ length-set l.numbers (2 * l.i) c.read.result ∙ l.invariant.1,
      take-two l.numbers l.i c.read.result c.read-in-loop-i.result (omega (arith, c.loop-i-test.true, many, l.invariant.1))
          ∙ bounds-next a.block.now (take (2 * l.i) l.numbers) l.i c.slot_at-at.result c.read.result c.read-in-loop-i.result c.slot_at-at.ensures.0 c.read.ensures c.read-in-loop-i.ensures l.invariant.2,
    )

pub returns : goal.returns
returns c =
    let l = c.loop-i in
    let n = c.count_of-count in
    let b = c.args.block.now in
    let last : l.i ≡ n.result = omega (arith, c.loop-i-test.false, l.invariant.0) in
    let is = last ∙ n.ensures.0 in
    ap (λ (x : ℕ). take (2 * x) l.numbers) (sym is) ∙ l.invariant.2 ∙ ap (λ (x : ℕ). bounds (first_ranges x b)) is ∙ ap bounds (sym (seals-are b c.requires))
