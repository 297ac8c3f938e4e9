use Rattle.numbers.proofs.Kit.{◌≡◌, refl, sym, ap, ◌∙◌, ◌+◌, arith}
use Rattle.machine.specs.Geometry.{bench_of}
use Rattle.machine.specs.Setting.{chosen}
use Rattle.unit_ranges.specs.Ranges.{seals_in}
use Rattle.run.specs.declared.Run.{Run}
use Rattle.run.specs.Turn.{sound_run, running, turns}
use Rattle.run_place.specs.Parts.{at_place}
use Rattle.run_turn.specs.Parts.{Taking}
use Rattle.run_turn.proofs.TurnLaws.{turns-refused}
use Rattle.machine.proofs.CodeLaws.{refused-not-done}
use Rattle.run_turn.proofs.ProgressLaws.{none-taken, turn-taken, more-taken, taken-sane, taken_as, at-end}
use Rattle.run_turn.proofs.take_turns.Goals as goal
use Rattle.run_turn.proofs.take_turns.Goals.{In-Ok}

pub loop-count-init : goal.loop-count-init
loop-count-init c = (omega arith, none-taken c.requires.run_value c.requires.marks_value c.requires.seals_value, refl, refl, refl)

pub take_turn-requires : goal.take_turn-requires
take_turn-requires c =
    let l = c.loop-count in
    record {
      marks_value = taken-sane l.invariant.1;
      run_value = ap (sound_run chosen) c.at_place-current.ensures ∙ l.invariant.1.run_sound;
      seals_value = c.requires.seals_value;
    }

pub returns-in-Err : goal.returns-in-Err
returns-in-Err c =
    let w = c.take_turn in
    let u = c.at_place-current in
    let l = c.loop-count in
    let a = c.args in
    let r = running a.run (bench_of a.m (seals_in a.seals.now) a.registers.now a.marks.now a.memory.now) in
    let B = bench_of l.machine (seals_in a.seals.now) l.registers l.marks l.memory in
    let q = at-end l.count u.result (at_place a.run l.place) B (turns chosen r l.count) u.ensures l.invariant.1.taken in
    at-end l.count _ _ _ (turns chosen r a.limit) (sym u.ensures) (turns-refused r (running u.result B) l.count a.limit l.invariant.0 q _ c.in-Err.ensures (refused-not-done c.in-Err.field-0))

-- a turn more was answered 0
taken : (c : In-Ok) → let w = c.take_turn in let l = c.loop-count in let a = c.args in
    Taking (running a.run (bench_of a.m (seals_in a.seals.now) a.registers.now a.marks.now a.memory.now)) (l.count + 1)
    (at_place a.run c.in-Ok.moved.place) (bench_of c.in-Ok.moved.machine (seals_in a.seals.now) w.new.registers w.new.marks w.new.memory)
taken c =
    let w = c.take_turn in
    let u = c.at_place-current in
    let l = c.loop-count in
    taken_as refl (ap (λ (U : Run). at_place U c.in-Ok.moved.place) u.ensures) refl (turn-taken (taken_as refl (sym u.ensures) refl l.invariant.1) _ _ _ c.in-Ok.ensures refl)

pub overflow_add-count : goal.overflow_add-count
overflow_add-count c = omega (arith, c.loop-count-test.true, c.ranges.limit)

pub overflow_sub-limit : goal.overflow_sub-limit
overflow_sub-limit c = omega (arith, c.loop-count-test.true)

pub sums_from-sums-requires : goal.sums_from-sums-requires
sums_from-sums-requires c = let t = taken (goal.at.sums_from-sums-requires c).In-Ok in
    record {
      marks_value = taken-sane t;
      place_value = t.run_sound;
    }

pub overflow_add-count-in-loop-count : goal.overflow_add-count-in-loop-count
overflow_add-count-in-loop-count c = omega (arith, c.loop-count-test.true, c.sums_from-sums.ensures.count_le_limit, c.ranges.limit)

pub loop-count-smaller : goal.loop-count-smaller
loop-count-smaller c = omega (arith, c.loop-count-test.true, c.sums_from-sums.ensures.count_le_limit)

pub loop-count-preserved : goal.loop-count-preserved
loop-count-preserved c = (
  omega (arith, c.loop-count-test.true, c.sums_from-sums.ensures.count_le_limit),
  more-taken (taken (goal.at.loop-count-preserved c).In-Ok) (c.sums_from-sums.ensures.taking _ c.requires.seals_value),
  c.sums_from-sums.auto.registers ∙ c.take_turn.auto.registers ∙ c.loop-count.invariant.2,
  c.sums_from-sums.auto.marks ∙ c.take_turn.auto.marks ∙ c.loop-count.invariant.3,
  c.take_turn.auto.memory ∙ c.loop-count.invariant.4,
)

pub shape_of-registers : goal.shape_of-registers
shape_of-registers c = c.loop-count.invariant.2

pub shape_of-marks : goal.shape_of-marks
shape_of-marks c = c.loop-count.invariant.3

pub shape_of-memory : goal.shape_of-memory
shape_of-memory c = c.loop-count.invariant.4

pub returns : goal.returns
returns c =
    let l = c.loop-count in
    let a = c.args in
    let n : l.count ≡ a.limit = omega (arith, l.invariant.0, c.loop-count-test.false) in
    l.invariant.1.taken ∙ ap (turns chosen (running a.run (bench_of a.m (seals_in a.seals.now) a.registers.now a.marks.now a.memory.now))) n
