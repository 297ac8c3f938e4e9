use Rattle.numbers.proofs.Kit.{◌*◌}
use Rattle.text_lines.specs.Lines.{lines}
use Rattle.text_lines.specs.Parts.{signed_all, rows_of}
use Rattle.text_lines.proofs.WriteLaws.{Ahead, rest_lines}
use Rattle.text_lines.proofs.put_lines.Given as goal

abbrev pub invariant-loop-i : goal.invariant-loop-i
invariant-loop-i l = Ahead l.initial.out l.initial.next l.out l.next (rest_lines l.q l.c l.rows l.cols l.i (l.i * l.cols)) (lines (rows_of l.rows l.cols (signed_all l.q l.c)))
