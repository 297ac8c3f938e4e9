use Rattle.numbers.proofs.Kit.{◌≡◌, List, ℕ, length, get_or}
use Rattle.numbers.specs.Upto.{upto}
use Rattle.machine.specs.Geometry.{range}
use Rattle.machine.specs.Starting.{ranges}
use Rattle.unit_ranges.specs.Ranges.{put_range}
use Rattle.c_blocks.proofs.put_ranges.Given as goal

abbrev pub put : List ℕ → ℕ → List ℕ → List ℕ
put seals n block = upto n (λ i. put_range i (get_or (ranges seals) i (range 0 0))) block

abbrev pub invariant-loop-i : goal.invariant-loop-i
invariant-loop-i l = (length l.block ≡ length l.initial.block) × (l.block ≡ put l.seals l.i l.initial.block)
