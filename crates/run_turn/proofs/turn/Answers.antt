use Rattle.numbers.proofs.Kit.{sym, ◌∙◌}
use Rattle.machine.specs.Geometry.{bench_of}
use Rattle.unit_ranges.specs.Ranges.{seals_in}
use Rattle.run_turn.proofs.TurnLaws.{turn-fault}
use Rattle.run_turn.proofs.turn.Goals as goal

pub returns-then-not-is_sound : goal.returns-then-not-is_sound
returns-then-not-is_sound c =
    let a = c.args in
    turn-fault a.run (bench_of a.m (seals_in a.seals.now) a.registers.now a.marks.now a.memory.now) (sym c.is_sound.ensures ∙ c.if-not-is_sound.true)
