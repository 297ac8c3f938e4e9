use Rattle.numbers.proofs.Kit.{refl, sym, ap, ◌∙◌, true, false, Ok, Err}
use Rattle.machine.specs.Starting.{ranges, started}
use Rattle.machine.proofs.CodeLaws.{refused-not-done}
use Rattle.unit_ranges.specs.Ranges.{put_seals}
use Rattle.c_step.proofs.BenchLaws.{start-short, start-shown, start-numbers}
use Rattle.c_step.proofs.start.Goals as goal

pub returns-then-machine-ne-MACHINE_BYTES : goal.returns-then-machine-ne-MACHINE_BYTES
returns-then-machine-ne-MACHINE_BYTES c =
    let a = c.args in
    start-short a.rlen a.mlen a.elen a.rule a.seals.now a.machine.now a.registers.now a.marks.now c.packed.result
    c.if-machine-ne-MACHINE_BYTES.true c.packed.ensures

pub put_seals-requires : goal.put_seals-requires
put_seals-requires c =
    let a = c.args in
    let k = start-numbers a.rlen a.mlen a.elen a.rule a.seals.now a.machine.now a.registers.now a.marks.now (started (Ok c.in-Ok.started)) c.start.new.marks c.in-Ok.ensures refl in
    record {
      block_len = c.put_machine.auto.block ∙ c.if-machine-ne-MACHINE_BYTES.false;
      seals_value = k.0;
      seals_len_bound = k.1;
    }

pub returns-in-Ok : goal.returns-in-Ok
returns-in-Ok c =
    let a = c.args in
    start-shown a.rlen a.mlen a.elen a.rule a.seals.now a.machine.now a.registers.now a.marks.now
    true (started (Ok c.in-Ok.started)) c.put_seals.new.block c.start.new.marks c.packed-in-Ok.result
    c.if-machine-ne-MACHINE_BYTES.false c.in-Ok.ensures refl (c.put_seals.ensures ∙ ap (put_seals (ranges a.seals.now)) c.put_machine.ensures) c.packed-in-Ok.ensures

pub returns-in-Err : goal.returns-in-Err
returns-in-Err c =
    let a = c.args in
    start-shown a.rlen a.mlen a.elen a.rule a.seals.now a.machine.now a.registers.now a.marks.now
    false (started (Err c.in-Err.refusal)) a.machine.now c.start.new.marks c.packed-in-Err.result
    c.if-machine-ne-MACHINE_BYTES.false c.in-Err.ensures (refused-not-done c.in-Err.refusal) refl c.packed-in-Err.ensures
