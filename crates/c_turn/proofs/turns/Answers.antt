use Rattle.numbers.proofs.Kit.{sym, ◌∙◌}
use Rattle.c_turn.proofs.TurnLaws.{blocks-fit, turns-shown}
use Rattle.c_turn.proofs.turns.Goals as goal

pub returns : goal.returns
returns c =
    let a = c.args in
    turns-shown a.run.now a.machine.now a.registers.now a.marks.now a.memory.now a.turns
    c.run_of-held.result c.machine_of-m.result c.turns-taken.result
    c.put_run.new.block c.put_machine.new.block c.turns-taken.new.registers c.turns-taken.new.marks c.turns-taken.new.memory
    (blocks-fit a.run.now a.machine.now (sym c.is_fit.ensures ∙ c.if-not-is_fit.false) c.if-machine-ne-MACHINE_BYTES.false)
    c.run_of-held.ensures c.machine_of-m.ensures c.turns-taken.ensures c.put_run.ensures c.put_machine.ensures
