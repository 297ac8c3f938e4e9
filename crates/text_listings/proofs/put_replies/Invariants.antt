use Rattle.numbers.proofs.Kit.{◌+◌, ◌*◌, ◌-◌, ◌≤◌, length, drop}
use Rattle.text_lines.proofs.WriteLaws.{Ahead}
use Rattle.text_assembly.specs.Programs.{lines_of, replies}
use Rattle.text_listings.proofs.put_replies.Given as goal

abbrev pub invariant-loop-from : goal.invariant-loop-from
invariant-loop-from l =
    (l.at + 12 * (length l.text - l.from) ≤ 786432) × Ahead l.initial.out 0 l.out l.at (replies l.back (lines_of (drop l.from l.text))) (replies l.back (lines_of l.text))

abbrev pub decreases-loop-from : goal.decreases-loop-from
decreases-loop-from l = length l.text - l.from
