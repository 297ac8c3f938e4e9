use Rattle.c_image.proofs.ImageLaws.{size-short, size-shown}
use Rattle.c_image.proofs.size.Goals as goal

pub returns-then-machine-ne-MACHINE_BYTES : goal.returns-then-machine-ne-MACHINE_BYTES
returns-then-machine-ne-MACHINE_BYTES c =
    let a = c.args in
    size-short a.machine.now a.registers.now a.marks.now c.packed_error.result c.if-machine-ne-MACHINE_BYTES.true c.packed_error.ensures

pub returns : goal.returns
returns c =
    let a = c.args in
    size-shown a.machine.now a.registers.now a.marks.now c.machine_of-m.result c.image_size.result c.packed_reply.result
    c.if-machine-ne-MACHINE_BYTES.false c.machine_of-m.ensures c.image_size.ensures c.packed_reply.ensures
