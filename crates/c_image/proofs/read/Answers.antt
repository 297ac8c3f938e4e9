-- `c_image::read` meets its contract.
use mathlib.Core.Path.{◌∙◌}
use Rattle.c_image.proofs.ImageLaws.{read-shown, read-refused, read-long}
use Rattle.c_image.proofs.read.Goals as goal

pub put_machine-requires : goal.put_machine-requires
put_machine-requires c =
    let a = c.args in
    c.read_image.auto.block ∙ read-long a.image.now a.machine.now a.registers.now a.marks.now _ _ _ _ c.in-Ok.ensures

pub returns-in-Ok : goal.returns-in-Ok
returns-in-Ok c =
    let a = c.args in
    read-shown a.image.now a.machine.now a.registers.now a.marks.now _ _ _ _ _ _ c.in-Ok.ensures c.put_machine.ensures c.packed_reply.ensures

pub returns-in-Err : goal.returns-in-Err
returns-in-Err c =
    let a = c.args in
    read-refused a.image.now a.machine.now a.registers.now a.marks.now _ _ _ _ _ c.in-Err.ensures c.packed_error.ensures
