-- `image_header::machine_of` meets its contract.
use Rattle.image_header.proofs.machine_of.Goals as goal

pub returns : goal.returns
returns c = rw (c.power-3.ensures, c.power-2.ensures, c.power.ensures)
