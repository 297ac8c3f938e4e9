use Rattle.c_image.proofs.ImageLaws.{write-short, write-shown}
use Rattle.c_image.proofs.write.Goals as goal

pub returns-then-machine-ne-MACHINE_BYTES : goal.returns-then-machine-ne-MACHINE_BYTES
returns-then-machine-ne-MACHINE_BYTES c =
    let a = c.args in
    write-short a.machine.now a.registers.now a.marks.now a.image.now c.packed_error.result c.if-machine-ne-MACHINE_BYTES.true c.packed_error.ensures

pub returns : goal.returns
returns c =
    let a = c.args in
    write-shown a.machine.now a.registers.now a.marks.now a.image.now c.write_image.new.room c.machine_of-m.result c.write_image.result c.packed_reply.result
    c.if-machine-ne-MACHINE_BYTES.false c.machine_of-m.ensures c.write_image.ensures c.packed_reply.ensures
