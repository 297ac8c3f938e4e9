use mathlib.Core.Path.{refl}
use Rattle.machine.specs.Listing.{listing}
use Rattle.text_read.proofs.rows.row_at.Goals as goal

pub row_in-requires-clause-table : goal.row_in-requires-clause-table
unfolding listing
row_in-requires-clause-table c = (refl, refl, refl)
