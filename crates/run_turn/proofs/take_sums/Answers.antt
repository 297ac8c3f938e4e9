use Rattle.numbers.proofs.Kit.{◌≡◌, refl, ap, ◌∙◌, true, List, [], ℕ, ◌+◌, ◌-◌, ◌*◌, arith}
use Rattle.machine.specs.Geometry.{Range, bench_of}
use Rattle.machine.specs.Faults.{seals_fit}
use Rattle.machine.specs.Setting.{chosen}
use Rattle.run.specs.declared.Place.{Place}
use Rattle.run.specs.declared.Place.TheVariants.{AtK}
use Rattle.run.specs.Places.{head_k}
use Rattle.run.specs.Turn.{run_shape, running}
use Rattle.run_place.specs.Parts.{at_place}
use Rattle.run_carry.proofs.SumsLaws.{none-fit}
use Rattle.run_turn.specs.Parts.{Taking}
use Rattle.run_turn.proofs.ProgressLaws.{none-taken, more-taken, taken-sane, taken_as}
use Rattle.run_turn.proofs.StepLaws.{here-numbered, here-planned, here-placed, head-next, head-past, multiply-taken}
use Rattle.std.proofs.Common.{rules}
use Rattle.run_turn.proofs.take_sums.Goals as goal
use Rattle.run_turn.proofs.take_sums.Goals.{After-block_end-term}

pub most_terms-terms-requires : goal.most_terms-terms-requires
most_terms-terms-requires c = here-numbered c.args.run c.args.row c.args.column c.args.from c.requires.from_value

pub loop-step-init : goal.loop-step-init
loop-step-init c = (λ seals fit. none-taken c.requires.from_value c.requires.marks_value fit, c.requires.steady, c.most_terms-terms.ensures, refl, refl)

pub take_loads-loaded-requires : goal.take_loads-loaded-requires
take_loads-loaded-requires c = let l = c.loop-step in
    record {
      marks_value = taken-sane (l.invariant.0 [] none-fit);
      term_value = (l.invariant.0 [] none-fit).run_sound;
      steady = l.invariant.1;
    }

pub returns-then-loaded-lt3 : goal.returns-then-loaded-lt3
returns-then-loaded-lt3 c =
    let w = c.take_loads-loaded in
    let l = c.loop-step in
    record {
      taking = λ seals fit. more-taken (l.invariant.0 seals fit) (w.ensures.taking seals fit);
      count_le_limit = omega (arith, w.ensures.count_bound);
    }

pub multiply_written-requires : goal.multiply_written-requires
multiply_written-requires c =
    let w = c.take_loads-loaded in
    let l = c.loop-step in
    let a = c.args in
    record {
      plan_value = here-planned a.run a.row a.column l.term (l.invariant.0 [] none-fit).run_sound;
      multiplies = (w.ensures.loaded c.if-loaded-lt3.false).multiplies;
    }

pub block_end-term-requires : goal.block_end-term-requires
block_end-term-requires c =
    let l = c.loop-step in
    let a = c.args in
    (here-placed a.run a.row a.column l.term (l.invariant.0 [] none-fit).run_sound).2

-- a step over k has been taken, and the place is that after it
step : (c : After-block_end-term) → let w = c.take_loads-loaded in let l = c.loop-step in let a = c.args in
    (q : Place) → q ≡ head_k (run_shape chosen a.run) a.row a.column c.block_end-term.result
    → (seals : List Range) → seals_fit seals ≡ true → Taking (running (at_place a.run (AtK a.row a.column a.from)) (bench_of a.m seals a.registers.now a.marks.now a.memory.now)) (4 * l.step + 4)
    (at_place a.run q) (bench_of w.result.machine seals c.multiply_written.new.registers w.new.marks a.memory.now)
step c q eq seals fit =
    let w = c.take_loads-loaded in
    let l = c.loop-step in
    let a = c.args in
    let R = a.run in
    let left = c.if-loaded-lt3.false in
    let h = w.ensures.loaded left in
    let three : w.result.count ≡ 3 = omega (arith, w.ensures.count_bound, left) in
    let at = c.block_end-term.ensures ∙ ap (λ (most : ℕ). l.term + chosen R.rule most (R.plan.k - l.term)) l.invariant.2 in
    multiply-taken R a.row a.column l.term (bench_of l.machine seals l.registers l.marks a.memory.now) (l.invariant.0 seals fit) w.result.count w.result.place w.result.machine seals _ _ _
    (w.ensures.taking seals fit) three h _ (c.multiply_written.ensures seals _ _ (taken-sane (w.ensures.taking seals fit)) fit (h.answered seals fit)) q (eq ∙ ap (head_k (run_shape chosen R) a.row a.column) at)

pub returns-then-term-plan : goal.returns-then-term-plan
returns-then-term-plan c =
    let l = c.loop-step in
    let a = c.args in
    record {
      taking = step (goal.at.returns-then-term-plan c).After-block_end-term _ (head-past (run_shape chosen a.run) a.row a.column c.block_end-term.result c.if-term-plan.true);
      count_le_limit = omega arith;
    }

pub loop-step-preserved : goal.loop-step-preserved
loop-step-preserved c =
    let l = c.loop-step in
    let a = c.args in (
      λ seals fit. taken_as (omega arith) refl refl (step (goal.at.loop-step-preserved c).After-block_end-term _ (head-next (run_shape chosen a.run) a.row a.column c.block_end-term.result c.if-term-plan.false) seals fit),
      (c.take_loads-loaded.ensures.loaded c.if-loaded-lt3.false).steady,
      l.invariant.2,
      search rules,
      search rules,
    )

pub shape_of-registers : goal.shape_of-registers
shape_of-registers c = c.loop-step.invariant.3

pub shape_of-marks : goal.shape_of-marks
shape_of-marks c = c.loop-step.invariant.4

pub returns : goal.returns
returns c = let l = c.loop-step in
    record {
      taking = λ seals fit. taken_as (omega arith) refl refl (l.invariant.0 seals fit);
      count_le_limit = omega arith;
    }
