-- `image_header::ranges_at` meets its contract.
use Rattle.numbers.proofs.Kit.{◌≡◌, ◌-◌}
use Rattle.image_header.specs.Fields.{ranges_end}
use Rattle.image_header.proofs.ranges_at.Given as goal

abbrev pub invariant-loop : goal.invariant-loop
invariant-loop l = ranges_end l.s (l.count - l.counter) l.at ≡ ranges_end l.s l.count l.start
