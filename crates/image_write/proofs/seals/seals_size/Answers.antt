use Rattle.numbers.proofs.Kit.{◌≡◌, sym, ap, ◌∙◌, List, [], ℕ, ◌*◌, arith, length, take}
use Rattle.numbers_format.specs.Numbers.{encode_all}
use Rattle.unit_ranges.specs.Ranges.{seals_in}
use Rattle.image_write.proofs.SealLaws.{seals-many, all-taken, taken-many, seal-long}
use Rattle.image_write.proofs.seals.seals_size.Goals as goal
use Rattle.image_write.proofs.seals.seals_size.Goals.{After-bounds_of-numbers}

taken : (c : After-bounds_of-numbers) → let n = c.count_of-count.result in length (take (2 * n) c.bounds_of-numbers.result) ≡ 2 * n
taken c =
    taken-many c.args.block.now c.requires c.count_of-count.result c.bounds_of-numbers.result c.count_of-count.ensures.0 c.bounds_of-numbers.ensures

pub slice_bounds-numbers_size-end : goal.slice_bounds-numbers_size-end
slice_bounds-numbers_size-end c = sym (taken (goal.at.slice_bounds-numbers_size-end c).After-bounds_of-numbers)

pub numbers_size-requires : goal.numbers_size-requires
numbers_size-requires c = omega (arith, taken (goal.at.numbers_size-requires c).After-bounds_of-numbers, c.count_of-count.ensures.1)

pub overflow_add-result : goal.overflow_add-result
overflow_add-result c =
    omega (arith, c.numbers_size.ensures.1, taken (goal.at.overflow_add-result c).After-bounds_of-numbers, c.count_of-count.ensures.1, c.count_size.ensures.1)

pub returns : goal.returns
returns c =
    let block = c.args.block.now in
    let part = all-taken block c.requires c.count_of-count.result c.bounds_of-numbers.result c.count_of-count.ensures.0 c.bounds_of-numbers.ensures in
    let long = seal-long (seals_in block) c.count_of-count.result (seals-many block c.requires ∙ sym c.count_of-count.ensures.0) in (
      omega (arith, long, c.count_size.ensures.0, c.numbers_size.ensures.0, ap (λ (ns : List ℕ). length (encode_all ns [])) part),
      omega (arith, c.numbers_size.ensures.1, taken (goal.at.returns c).After-bounds_of-numbers, c.count_of-count.ensures.1, c.count_size.ensures.1),
    )
