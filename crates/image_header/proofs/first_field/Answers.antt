-- `image_header::first_field` meets its contract.
use Rattle.image_header.specs.Fields.{row_at}
use Rattle.image_header.proofs.first_field.Goals as goal

pub returns : goal.returns
unfolding row_at
returns c = rw c.span.ensures
