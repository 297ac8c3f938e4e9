use Rattle.text_lines.specs.Lines.{spaced}
use Rattle.text_lines.specs.Parts.{signed_all}
use Rattle.text_lines.proofs.WriteLaws.{Ahead, tail_text}
use Rattle.text_lines.proofs.put_row.Given as goal

abbrev pub invariant-loop-x : goal.invariant-loop-x
invariant-loop-x l = Ahead l.fn.out l.fn.at l.out l.next (tail_text l.q l.others l.x-index) (spaced (signed_all l.q l.row))
