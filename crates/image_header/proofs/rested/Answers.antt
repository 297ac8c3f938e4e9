-- `image_header::rested` meets its contract.
use Rattle.image_header.proofs.rested.Goals as goal

pub returns : goal.returns
returns c = rw c.span.ensures
