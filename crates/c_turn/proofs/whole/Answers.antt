use Rattle.numbers.specs.Tile.{put_row}
use Rattle.c_blocks.specs.Blocks.{put_numbers}
use Rattle.numbers.proofs.Kit.{refl, true, false, Ok, Err}
use Rattle.machine.proofs.CodeLaws.{refused-not-done}
use Rattle.unit_ranges.specs.Ranges.{seals_in}
use Rattle.run.specs.Whole.{finished_as}
use Rattle.c_turn.proofs.TurnLaws.{run-shown}
use Rattle.c_turn.proofs.whole.Goals as goal

pub returns-in-Ok : goal.returns-in-Ok
unfolding put_numbers put_row
returns-in-Ok c =
    let a = c.args in
    run-shown a.plan a.machine.now a.registers.now a.marks.now a.memory.now a.steps.now true c.machine_of-held.result
    (finished_as c.machine_of-held.result (Ok c.in-Ok.finished) (seals_in a.machine.now) c.whole.new.registers c.whole.new.marks c.whole.new.memory)
    c.put_machine.new.block c.write.new.s c.packed-in-Ok.result
    c.if-machine-ne-MACHINE_BYTES.false c.if-steps-ne8.false c.machine_of-held.ensures c.in-Ok.ensures.memory_after
    refl c.put_machine.ensures c.write.ensures c.packed-in-Ok.ensures

pub returns-in-Err : goal.returns-in-Err
returns-in-Err c =
    let a = c.args in
    run-shown a.plan a.machine.now a.registers.now a.marks.now a.memory.now a.steps.now false c.machine_of-held.result
    (finished_as c.machine_of-held.result (Err c.in-Err.refusal) (seals_in a.machine.now) c.whole.new.registers c.whole.new.marks c.whole.new.memory)
    a.machine.now a.steps.now c.packed-in-Err.result
    c.if-machine-ne-MACHINE_BYTES.false c.if-steps-ne8.false c.machine_of-held.ensures c.in-Err.ensures.memory_after
    (refused-not-done c.in-Err.refusal) refl refl c.packed-in-Err.ensures
