use Rattle.numbers.proofs.Kit.{◌≡◌, sym, ◌∙◌, true}
use Rattle.machine.specs.Geometry.{bench_of}
use Rattle.machine.specs.Faults.{sound_bench}
use Rattle.machine.proofs.NoFault.{bench-sound, bench-seals}
use Rattle.unit_ranges.specs.Ranges.{seals_in}
use Rattle.run_turn.proofs.TurnLaws.{turns-fault}
use Rattle.run_turn.proofs.ProgressLaws.{turns-unsound, at-end}
use Rattle.run_turn.proofs.turns.Goals as goal

pub returns-then-not-is_sound : goal.returns-then-not-is_sound
returns-then-not-is_sound c =
    let a = c.args in
    turns-fault a.run (bench_of a.m (seals_in a.seals.now) a.registers.now a.marks.now a.memory.now) a.limit (sym c.is_sound.ensures ∙ c.if-not-is_sound.true)

pub returns-then-not-is_sound_run : goal.returns-then-not-is_sound_run
returns-then-not-is_sound_run c =
    let a = c.args in
    turns-unsound a.run (bench_of a.m (seals_in a.seals.now) a.registers.now a.marks.now a.memory.now) a.limit (sym c.is_sound_run.ensures ∙ c.if-not-is_sound_run.true)

pub take_turns-progress-requires : goal.take_turns-progress-requires
take_turns-progress-requires c =
    let a = c.args in
    let B = bench_of a.m (seals_in a.seals.now) a.registers.now a.marks.now a.memory.now in
    let h : sound_bench B ≡ true = sym c.is_sound.ensures ∙ c.if-not-is_sound.false in
    record {
      marks_value = bench-sound B h;
      run_value = sym c.is_sound_run.ensures ∙ c.if-not-is_sound_run.false;
      seals_value = bench-seals B h;
    }

pub returns : goal.returns
returns c = at-end _ _ _ _ _ c.at_place.ensures c.take_turns-progress.ensures
