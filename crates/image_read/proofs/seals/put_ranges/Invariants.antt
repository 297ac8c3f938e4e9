-- `image_read::seals::put_ranges` meets its contract. The invariant: the ranges that are left make of the block what all make.
use Rattle.numbers.proofs.Kit.{◌≡◌, ◌-◌, ◌≤◌, length}
use Rattle.image_header.specs.Fields.{ranges_end, ranges_found}
use Rattle.image_read.specs.Parts.{Ends, put_ranges}
use Rattle.image_read.proofs.seals.put_ranges.Given as goal

abbrev pub invariant-loop-i : goal.invariant-loop-i
invariant-loop-i l =
    (length l.block ≡ length l.initial.block) × (l.i ≤ l.count) × Ends (ranges_end l.s (l.count - l.i) l.at)
    × (put_ranges l.i (ranges_found l.s (l.count - l.i) l.at) l.block ≡ put_ranges 0 (ranges_found l.s l.count l.first) l.initial.block)
