use Rattle.numbers.proofs.Kit.{sym, ap, ◌∙◌, Ok, Err, List, ℕ}
use Rattle.machine.specs.declared.Machine.{Machine}
use Rattle.machine.specs.Step.{stepped}
use Rattle.c_blocks.specs.Blocks.{put_machine}
use Rattle.c_blocks.proofs.BlockLaws.{put_machine-same}
use Rattle.std.proofs.Common.{rules}
use Rattle.c_step.proofs.BenchLaws.{step-short, step-short-scalars, step-shown, step_keeps}
use Rattle.c_step.proofs.step.Goals as goal

pub returns-then-machine-ne-MACHINE_BYTES : goal.returns-then-machine-ne-MACHINE_BYTES
returns-then-machine-ne-MACHINE_BYTES c =
    let a = c.args in
    step-short a.word a.group a.machine.now a.registers.now a.marks.now a.scalars.now a.memory.now a.vectors.now c.packed.result c.if-machine-ne-MACHINE_BYTES.true c.packed.ensures

pub returns-then-scalars-ne256 : goal.returns-then-scalars-ne256
returns-then-scalars-ne256 c =
    let a = c.args in
    step-short-scalars a.word a.group a.machine.now a.registers.now a.marks.now a.scalars.now a.memory.now a.vectors.now c.packed-then-scalars-ne256.result c.if-machine-ne-MACHINE_BYTES.false c.if-scalars-ne256.true c.packed-then-scalars-ne256.ensures

pub put_state-requires : goal.put_state-requires
put_state-requires c =
    let a = c.args in
    record {
      block_len = search rules;
      same_machine = step_keeps a.word a.machine.now a.registers.now a.marks.now a.scalars.now a.memory.now _ c.machine_of-m.result (stepped c.machine_of-m.result (Ok c.in-Ok.next))
          _ _ _ _ _ c.machine_of-m.ensures c.in-Ok.ensures;
    }

pub returns-in-Ok : goal.returns-in-Ok
returns-in-Ok c =
    let a = c.args in
    step-shown a.word a.group a.machine.now a.registers.now a.marks.now a.scalars.now a.memory.now a.vectors.now c.machine_of-m.result (stepped c.machine_of-m.result (Ok c.in-Ok.next))
    c.put_state.new.block _ _ _ _ _ c.packed-in-Ok.result c.if-machine-ne-MACHINE_BYTES.false c.if-scalars-ne256.false
    c.machine_of-m.ensures c.in-Ok.ensures c.put_state.ensures c.packed-in-Ok.ensures

pub returns-in-Err : goal.returns-in-Err
returns-in-Err c =
    let a = c.args in
    step-shown a.word a.group a.machine.now a.registers.now a.marks.now a.scalars.now a.memory.now a.vectors.now c.machine_of-m.result (stepped c.machine_of-m.result (Err c.in-Err.refusal))
    a.machine.now _ _ _ _ _ c.packed-in-Err.result c.if-machine-ne-MACHINE_BYTES.false c.if-scalars-ne256.false
    c.machine_of-m.ensures c.in-Err.ensures
    (sym (ap (λ (m : Machine). put_machine m a.machine.now) c.machine_of-m.ensures ∙ put_machine-same a.machine.now (search rules))) c.packed-in-Err.ensures
