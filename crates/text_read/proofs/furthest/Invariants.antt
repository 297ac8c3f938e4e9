use Rattle.text_read.proofs.RowLaws.{Left}
use Rattle.text_read.proofs.furthest.Given as goal

abbrev pub invariant-loop-k : goal.invariant-loop-k
invariant-loop-k l = Left l.line l.k l.best
