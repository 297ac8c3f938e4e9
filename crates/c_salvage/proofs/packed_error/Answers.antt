-- `c_salvage::packed_error` meets its contract.
use Rattle.c_salvage.proofs.SalvageLaws.{packs-room, packs-place}
use Rattle.c_salvage.proofs.packed_error.Goals as goal

pub returns-in-NoRoom : goal.returns-in-NoRoom
returns-in-NoRoom c = packs-room c.args.e c.in-NoRoom.place c.in-NoRoom.is

pub returns-in-Damaged : goal.returns-in-Damaged
returns-in-Damaged c = packs-place c.args.e c.in-Damaged.place c.in-Damaged.is
