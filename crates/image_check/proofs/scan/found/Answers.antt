-- `image_check::scan::found` meets its contract.
use Rattle.image_check.proofs.scan.found.Goals as goal

pub returns : goal.returns
returns c = rw c.rested.ensures
