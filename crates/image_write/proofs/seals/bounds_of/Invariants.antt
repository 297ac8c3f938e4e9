-- `image_write::seals::bounds_of` meets its contract. The invariant: the numbers of the ranges so far stand in front.
use Rattle.numbers.proofs.Kit.{◌≡◌, ◌*◌, ◌≤◌, length, take}
use Rattle.unit_ranges.specs.Ranges.{first_ranges}
use Rattle.image.specs.Images.{bounds}
use Rattle.image_write.proofs.seals.bounds_of.Given as goal

abbrev pub invariant-loop-i : goal.invariant-loop-i
invariant-loop-i l = (l.i ≤ l.count) × (length l.numbers ≡ 16) × (take (2 * l.i) l.numbers ≡ bounds (first_ranges l.i l.block))
