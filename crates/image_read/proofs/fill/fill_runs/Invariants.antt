-- `image_read::fill::fill_runs` meets its contract. The invariant: the runs that are left make of registers and marks what all make.
use Rattle.std.specs.Prelude.{Ok, min}
use Rattle.numbers.proofs.Kit.{◌≡◌, ◌+◌, ◌-◌, ◌*◌, ◌≤◌, ◌<◌, length}
use Rattle.image.specs.Cells.{spread, over}
use Rattle.image_check.specs.Parts.{runs_verdict}
use Rattle.image_read.specs.Parts.{body_at, ones}
use Rattle.image_read.proofs.FillLaws.{filled}
use Rattle.image_read.proofs.fill.fill_runs.Given as goal

abbrev pub invariant-loop-k : goal.invariant-loop-k
invariant-loop-k l = record {
  at-there : l.at ≤ length l.s;
  to-there : l.to ≤ length l.registers;
  few : l.k < l.count → min l.k 1 + 2 * (l.count - l.k) ≤ length l.registers - l.to + 1;
  registers-same : length l.registers ≡ length l.initial.registers;
  marks-same : length l.marks ≡ length l.registers;
  sound : runs_verdict l.s l.at (l.count - l.k) (min l.k 1) (length l.registers - l.to) ≡ Ok tt;
  registers-fill : filled l.to (body_at l.s l.at (l.count - l.k) (min l.k 1) (length l.registers - l.to)) l.registers
      ≡ over (spread (length l.initial.registers) (body_at l.s l.start l.count 0 (length l.initial.registers))) l.initial.registers;
  marks-fill : filled l.to (ones (body_at l.s l.at (l.count - l.k) (min l.k 1) (length l.registers - l.to))) l.marks
      ≡ over (spread (length l.initial.registers) (ones (body_at l.s l.start l.count 0 (length l.initial.registers)))) l.initial.marks;
}
