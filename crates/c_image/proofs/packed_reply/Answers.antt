-- `c_image::packed_reply` meets its contract.
use mathlib.Core.Path.{◌∙◌}
use Rattle.c_image.proofs.ImageLaws.{packs-done, packs-refused}
use Rattle.c_image.proofs.packed_reply.Goals as goal

pub returns-in-Ok : goal.returns-in-Ok
returns-in-Ok c = packs-done c.args.reply c.in-Ok.size c.in-Ok.is

pub returns-in-Err : goal.returns-in-Err
returns-in-Err c = c.packed_error.ensures ∙ packs-refused c.args.reply c.in-Err.e c.in-Err.is
