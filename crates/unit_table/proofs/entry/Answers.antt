use mathlib.Core.Path.{refl}
use Rattle.unit_table.specs.Table.{numbers}
use Rattle.unit_table.proofs.entry.Goals as goal

pub returns : goal.returns
unfolding numbers
returns c = refl
