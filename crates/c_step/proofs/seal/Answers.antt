use borrow.Author.Rules.{rules}
use Rattle.c_step.proofs.BenchLaws.{seal-short, seal-shown}
use Rattle.c_step.proofs.seal.Goals as goal

pub returns-then-machine-ne-MACHINE_BYTES : goal.returns-then-machine-ne-MACHINE_BYTES
returns-then-machine-ne-MACHINE_BYTES c =
    let a = c.args in
    seal-short a.start a.length a.machine.now a.registers.now a.marks.now c.packed.result c.if-machine-ne-MACHINE_BYTES.true c.packed.ensures

pub returns : goal.returns
returns c =
    let a = c.args in
    seal-shown a.start a.length a.machine.now a.registers.now a.marks.now c.machine_of-m.result c.seal-answer.result c.seal-answer.new.block c.packed-2.result
    c.if-machine-ne-MACHINE_BYTES.false c.machine_of-m.ensures c.seal-answer.ensures c.packed-2.ensures
