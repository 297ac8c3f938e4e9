use Rattle.numbers.proofs.Kit.{◌≡◌, sym, ap, ◌∙◌, subst, true, ◌-◌, arith}
use Rattle.machine.specs.Geometry.{bench_of}
use Rattle.machine.specs.Setting.{chosen}
use Rattle.unit_settings.proofs.FaultLaws.{ready}
use Rattle.run.specs.declared.Place.{Place}
use Rattle.run.specs.Turn.{sound_run, running}
use Rattle.run_place.specs.Parts.{at_place}
use Rattle.run_carry.proofs.SumsLaws.{ready-marks, ready-steady}
use Rattle.run_turn.proofs.ProgressLaws.{none-taken, taken-from}
use Rattle.run_turn.proofs.StepLaws.{here-planned, here-placed}
use Rattle.run_turn.proofs.sums_from.Goals as goal
use Rattle.run_turn.proofs.sums_from.Goals.{Start}

-- the run at the place that the match has found
found : (s : Start) {q : Place} → s.args.place ≡ q → sound_run chosen (at_place s.args.run q) ≡ true
found s e = subst (λ (q : Place). sound_run chosen (at_place s.args.run q) ≡ true) e s.requires.place_value

pub returns-then-limit-lt4 : goal.returns-then-limit-lt4
returns-then-limit-lt4 c =
    record {
      taking = λ seals fit. none-taken c.requires.place_value c.requires.marks_value fit;
      count_le_limit = omega arith;
    }

pub overflow_sub-plan : goal.overflow_sub-plan
overflow_sub-plan c =
    omega (arith, (here-placed c.args.run c.in-AtK.row c.in-AtK.column c.in-AtK.term (found (goal.at.overflow_sub-plan c).Start c.in-AtK.is)).2)

pub sized-first-requires : goal.sized-first-requires
sized-first-requires c = ready c.args.m c.args.registers.now c.args.marks.now c.requires.marks_value

pub is_ready-requires : goal.is_ready-requires
is_ready-requires c =
    let a = c.args in
    record {
      marks_ready = ready-marks a.m a.marks.now (a.run.plan.k - c.in-AtK.term) c.sized-first.result c.sized-first.ensures a.registers.now c.requires.marks_value;
      plan_value = here-planned a.run c.in-AtK.row c.in-AtK.column c.in-AtK.term (found (goal.at.is_ready-requires c).Start c.in-AtK.is);
    }

pub take_sums-requires : goal.take_sums-requires
take_sums-requires c =
    let a = c.args in
    record {
      marks_value = c.requires.marks_value;
      from_value = found (goal.at.take_sums-requires c).Start c.in-AtK.is;
      steady = ready-steady a.m a.marks.now (a.run.plan.k - c.in-AtK.term) c.sized-first.result c.sized-first.ensures a.run.plan (sym c.is_ready.ensures ∙ c.if-is_ready.true);
    }

pub returns-then-is_ready : goal.returns-then-is_ready
returns-then-is_ready c =
    let w = c.take_sums in
    let a = c.args in
    record {
      taking = λ seals fit. taken-from (ap (λ (q : Place). running (at_place a.run q) (bench_of a.m seals a.registers.now a.marks.now a.memory.now)) (sym c.in-AtK.is)) (w.ensures.taking seals fit);
      count_le_limit = w.ensures.count_le_limit;
    }

pub returns-else-is_ready : goal.returns-else-is_ready
returns-else-is_ready c =
    record {
      taking = λ seals fit. none-taken c.requires.place_value c.requires.marks_value fit;
      count_le_limit = omega arith;
    }

pub returns-in_default : goal.returns-in_default
returns-in_default c =
    record {
      taking = λ seals fit. none-taken c.requires.place_value c.requires.marks_value fit;
      count_le_limit = omega arith;
    }
