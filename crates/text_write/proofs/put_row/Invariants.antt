use lib.ListN.{drop}
use Rattle.text_lines.proofs.WriteLaws.{Ahead}
use Rattle.text_write.specs.Parts.{text_from}
use Rattle.text_write.proofs.put_row.Given as goal

abbrev pub invariant-loop-c : goal.invariant-loop-c
invariant-loop-c l = Ahead l.initial.out l.at l.out l.next (text_from (drop l.c-index l.text) l.scale l.word) (text_from l.text 128 l.word)
