use mathlib.Core.Path.{sym, ◌∙◌}
use Rattle.text_read.proofs.RowLaws.{one_word, one-bad}
use Rattle.text_read.proofs.read_line.Goals as goal

pub returns-in-Ok : goal.returns-in-Ok
returns-in-Ok c = one_word c.args.line.now c.guess.result c.guess.ensures c.in-Ok.word c.in-Ok.ensures

pub returns-then-has_space : goal.returns-then-has_space
returns-then-has_space c =
    one-bad c.args.line.now c.guess.result c.guess.ensures c.in-Err.fault c.in-Err.ensures (sym c.has_space.ensures ∙ c.if-has_space.true)
