-- `c_image::packed_error` meets its contract.
use Rattle.c_image.proofs.ImageLaws.{packs-arguments, packs-room, packs-place}
use Rattle.c_image.proofs.packed_error.Goals as goal

pub returns-in-BadArguments : goal.returns-in-BadArguments
returns-in-BadArguments c = packs-arguments c.args.e c.in-BadArguments.is

pub returns-in-NoRoom : goal.returns-in-NoRoom
returns-in-NoRoom c = packs-room c.args.e c.in-NoRoom.is

pub returns-in-Damaged : goal.returns-in-Damaged
returns-in-Damaged c = packs-place c.args.e c.in-Damaged.place c.in-Damaged.is
