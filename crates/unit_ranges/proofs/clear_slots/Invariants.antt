use Rattle.numbers.proofs.Kit.{◌≡◌, ◌+◌, ◌-◌, List, ℕ, length}
use Rattle.numbers.specs.Upto.{upto}
use Rattle.machine.specs.Geometry.{range}
use Rattle.unit_ranges.specs.Ranges.{put_range}
use Rattle.unit_ranges.proofs.clear_slots.Given as goal

-- the block with so many slots cleared
abbrev pub cleared : ℕ → ℕ → List ℕ → List ℕ
cleared count n block = upto n (λ i. put_range (count + i) (range 0 0)) block

abbrev pub invariant-loop-i : goal.invariant-loop-i
invariant-loop-i l = (length l.block ≡ length l.initial.block) × (l.block ≡ cleared l.count (l.i - l.count) l.initial.block)
