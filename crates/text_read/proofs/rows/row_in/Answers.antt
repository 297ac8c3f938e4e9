use native.Mathlib.Omega.{arith}
use Rattle.text_read.proofs.RowLaws.{table-size, bits_at, text_at, text_in}
use Rattle.text_read.proofs.rows.row_in.Goals as goal

pub bounds-rows-k : goal.bounds-rows-k
bounds-rows-k c = omega (arith, table-size c.args.rows.now c.requires.table, c.requires.k_bound)

pub shared_ref_as_front-result : goal.shared_ref_as_front-result
shared_ref_as_front-result c = text_in c.args.rows.now c.requires.table _ c.args.k c.requires.k_bound

pub returns-clause-bits : goal.returns-clause-bits
returns-clause-bits c = bits_at c.args.rows.now c.requires.table _ c.args.k c.requires.k_bound

pub returns-clause-text : goal.returns-clause-text
returns-clause-text c = text_at c.args.rows.now c.requires.table _ c.args.k c.requires.k_bound
