use Rattle.std.specs.Prelude.{Ok, Err}
use mathlib.Core.Path.{refl}
use mathlib.Core.Bool.{true, false}
use Rattle.machine.proofs.CodeLaws.{refused-not-done}
use Rattle.run.specs.Start.{run_started}
use Rattle.c_run.proofs.RunLaws.{run-start-shown}
use Rattle.c_run.proofs.start.Goals as goal

pub returns-in-Ok : goal.returns-in-Ok
returns-in-Ok c =
    let a = c.args in
    run-start-shown a.plan a.machine.now a.registers.now a.marks.now a.memory.now a.run.now
    true c.machine_of-held.result (run_started a.plan (Ok c.in-Ok.fresh)) c.put_run.new.block c.packed-in-Ok.result
    c.if-machine-ne-MACHINE_BYTES.false c.if-run-ne-RUN_BYTES.false c.machine_of-held.ensures c.in-Ok.ensures
    refl c.put_run.ensures c.packed-in-Ok.ensures

pub returns-in-Err : goal.returns-in-Err
returns-in-Err c =
    let a = c.args in
    run-start-shown a.plan a.machine.now a.registers.now a.marks.now a.memory.now a.run.now
    false c.machine_of-held.result (run_started a.plan (Err c.in-Err.refusal)) a.run.now c.packed-in-Err.result
    c.if-machine-ne-MACHINE_BYTES.false c.if-run-ne-RUN_BYTES.false c.machine_of-held.ensures c.in-Err.ensures
    (refused-not-done c.in-Err.refusal) refl c.packed-in-Err.ensures
