use Rattle.numbers.proofs.Kit.{sym, ◌∙◌, ◌≡◌, true, Ok, Err}
use Rattle.std.proofs.Common.{rules}
use Rattle.unit_ranges.specs.Ranges.{seals_in}
use Rattle.run.specs.Turn.{turned_as}
use Rattle.c_blocks.specs.Blocks.{machine_of, SameMachine}
use Rattle.c_run_blocks.specs.RunBlocks.{run_of, run_fit, RunKept}
use Rattle.c_run_blocks.proofs.RunBlockLaws.{fit_length}
use Rattle.c_turn.proofs.TurnLaws.{blocks-fit, turn-shown, turn-keeps, run-stays, machine-stays}
use Rattle.c_turn.proofs.turn.Goals as goal
use Rattle.c_turn.proofs.turn.Goals.{Else-not-is_fit, In-Ok}

-- the run's block is one that a run can lie in
fit : (c : Else-not-is_fit) → run_fit c.args.run.now ≡ true
fit c = sym c.is_fit.ensures ∙ c.if-not-is_fit.false

-- what the turn has left has the blocks' other numbers
keeps : (c : In-Ok) → let a = c.args in SameMachine c.in-Ok.turned.machine (machine_of a.machine.now) × RunKept c.in-Ok.turned.run (run_of a.run.now)
keeps c =
    let a = c.args in
    turn-keeps a.run.now a.machine.now a.registers.now a.marks.now a.memory.now c.run_of-held.result c.machine_of-m.result
    (turned_as c.run_of-held.result c.machine_of-m.result (Ok c.in-Ok.turned) (seals_in a.machine.now) c.turn.new.registers c.turn.new.marks c.turn.new.memory)
    c.run_of-held.ensures c.machine_of-m.ensures c.in-Ok.ensures

pub put_place-requires : goal.put_place-requires
put_place-requires c =
    record {
      block_len = fit_length c.args.run.now (fit (goal.at.put_place-requires c).Else-not-is_fit);
      run_kept = (keeps (goal.at.put_place-requires c).In-Ok).1;
    }

pub put_state-requires : goal.put_state-requires
put_state-requires c =
    record {
      block_len = search rules;
      same_machine = (keeps (goal.at.put_state-requires c).In-Ok).0;
    }

pub returns-in-Ok : goal.returns-in-Ok
returns-in-Ok c =
    let a = c.args in
    turn-shown a.run.now a.machine.now a.registers.now a.marks.now a.memory.now c.run_of-held.result c.machine_of-m.result
    (turned_as c.run_of-held.result c.machine_of-m.result (Ok c.in-Ok.turned) (seals_in a.machine.now) c.turn.new.registers c.turn.new.marks c.turn.new.memory)
    c.put_place.new.block c.put_state.new.block c.packed-in-Ok.result
    (blocks-fit a.run.now a.machine.now (fit (goal.at.returns-in-Ok c).Else-not-is_fit) c.if-machine-ne-MACHINE_BYTES.false)
    c.run_of-held.ensures c.machine_of-m.ensures c.in-Ok.ensures c.put_place.ensures c.put_state.ensures c.packed-in-Ok.ensures

pub returns-in-Err : goal.returns-in-Err
returns-in-Err c =
    let a = c.args in
    let f = fit (goal.at.returns-in-Err c).Else-not-is_fit in
    turn-shown a.run.now a.machine.now a.registers.now a.marks.now a.memory.now c.run_of-held.result c.machine_of-m.result
    (turned_as c.run_of-held.result c.machine_of-m.result (Err c.in-Err.refusal) (seals_in a.machine.now) c.turn.new.registers c.turn.new.marks c.turn.new.memory)
    a.run.now a.machine.now c.packed-in-Err.result
    (blocks-fit a.run.now a.machine.now f c.if-machine-ne-MACHINE_BYTES.false)
    c.run_of-held.ensures c.machine_of-m.ensures c.in-Err.ensures
    (run-stays a.run.now a.machine.now a.registers.now a.marks.now a.memory.now c.run_of-held.result (λ q. search rules) f c.run_of-held.ensures)
    (machine-stays a.run.now a.machine.now a.registers.now a.marks.now a.memory.now c.machine_of-m.result (λ q. search rules) c.machine_of-m.ensures) c.packed-in-Err.ensures
