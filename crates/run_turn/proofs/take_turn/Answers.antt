use Rattle.numbers.proofs.Kit.{ap, refl, false}
use Rattle.std.proofs.lemmas.Result.{err_from_is_err_and}
use Rattle.machine.specs.Geometry.{bench_of}
use Rattle.machine.proofs.CodeLaws.{refused-not-done}
use Rattle.unit_ranges.specs.Ranges.{seals_in}
use Rattle.unit_settings.proofs.FaultLaws.{sound-numbers}
use Rattle.run.specs.Turn.{running}
use Rattle.run_place.specs.Parts.{at_place}
use Rattle.run_carry.proofs.CarriedLaws.{numbers-joined}
use Rattle.run_turn.proofs.TurnLaws.{turn-kept}
use Rattle.run_turn.proofs.ProgressLaws.{turn-carried, turn_moved}
use Rattle.run_turn.proofs.take_turn.Goals as goal

pub returns-in_err-carry_out : goal.returns-in_err-carry_out
returns-in_err-carry_out c =
    let a = c.args in
    let R = a.run in
    let B = bench_of a.m (seals_in a.seals.now) a.registers.now a.marks.now a.memory.now in
    let no = refused-not-done c.in_err-carry_out.field-0.0 in
    let p = err_from_is_err_and c.from_residual.result c.from_residual.ensures.1 in
    rw (p.1, p.2) (turn-kept (running R B) _ (turn-carried R B c.requires.run_value _ c.in_err-carry_out.ensures false no) no)

pub machine_after-requires : goal.machine_after-requires
machine_after-requires c =
    record {
      m_value = sound-numbers c.args.m c.args.registers.now c.args.marks.now c.requires.marks_value;
      run_value = c.requires.run_value;
    }

pub returns : goal.returns
returns c =
    let a = c.args in
    let R = a.run in
    let B = bench_of a.m (seals_in a.seals.now) a.registers.now a.marks.now a.memory.now in
    let j = numbers-joined _ _ _ _ _ _ _ (c.machine_after.ensures (seals_in a.seals.now) a.registers.now a.marks.now a.memory.now c.requires.marks_value c.requires.seals_value) c.in_ok-carry_out.ensures in
    turn_moved R B c.requires.run_value _ j refl _ (ap (at_place R) c.next_place.ensures)
