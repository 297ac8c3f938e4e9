use Rattle.numbers.proofs.Kit.{sym, ap}
use Rattle.machine.specs.declared.Form.{Form}
use Rattle.machine.specs.MoveWords.{unwritten_in}
use Rattle.unit_moves.proofs.unwritten_in.Goals as goal

pub returns-in-Plain : goal.returns-in-Plain
returns-in-Plain c = let a = c.args in ap (λ (f : Form). unwritten_in f a.first a.row a.column) (sym c.in-Plain.is)

pub returns-in-Transposed : goal.returns-in-Transposed
returns-in-Transposed c = let a = c.args in ap (λ (f : Form). unwritten_in f a.first a.row a.column) (sym c.in-Transposed.is)
