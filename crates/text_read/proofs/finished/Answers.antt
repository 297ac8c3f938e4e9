use Rattle.text_read.proofs.ReadLaws.{not-ended}
use Rattle.text_read.proofs.finished.Goals as goal

pub returns-then-at-line : goal.returns-then-at-line
returns-then-at-line c = let a = c.args in not-ended a.line.now a.at a.word c.if-at-line.true
