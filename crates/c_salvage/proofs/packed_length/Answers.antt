-- `c_salvage::packed_length` meets its contract.
use Rattle.c_salvage.proofs.SalvageLaws.{packs-done}
use Rattle.c_salvage.proofs.packed_length.Goals as goal

pub returns : goal.returns
returns c = λ place. packs-done c.args.length place
