use Rattle.numbers.proofs.Kit.{◌≡◌, refl, ap, true, not}
use Rattle.machine.specs.Geometry.{Bench, bench_of, sealed}
use Rattle.machine.specs.Faults.{sound_bench}
use Rattle.machine.proofs.NoFault.{bench-sound, bench-seals}
use Rattle.unit_ranges.specs.Ranges.{seals_in}
use Rattle.run.specs.Start.{planned, lying, separate}
use Rattle.numbers.specs.Bounds.{most_elen}
use Rattle.unit_settings.proofs.FaultLaws.{ready}
use Rattle.unit_settings.proofs.TypeLaws.{ready-elen}
use Rattle.run_plan.proofs.PlanLaws.{widest-plan}
use Rattle.unit_address.proofs.TestLaws.{test-failed, test-passed}
use Rattle.run_start.proofs.StartLaws.{started-by}
use Rattle.run_start.proofs.start.Goals as goal
use Rattle.run_start.proofs.start.Goals.{Else-not-is_lying, Else-not-is_planned, Else-not-is_sound, Start}

-- what the start is lent
abbrev bench : Start → Bench
bench s = let a = s.args in bench_of a.m (seals_in a.seals.now) a.registers.now a.marks.now a.memory.now

pub returns-then-not-is_sound : goal.returns-then-not-is_sound
returns-then-not-is_sound c =
    let a = c.args in
    started-by a.plan (bench (goal.at.returns-then-not-is_sound c).Start)
    (test-failed c.is_sound.result (sound_bench (bench (goal.at.returns-then-not-is_sound c).Start)) c.is_sound.ensures (ap not c.if-not-is_sound.true)) refl refl refl

-- the state is not at fault
fine : (c : Else-not-is_sound) → sound_bench (bench (goal.at.Else-not-is_sound c).Start) ≡ true
fine c = test-passed c.is_sound.result (sound_bench (bench (goal.at.Else-not-is_sound c).Start)) c.is_sound.ensures (ap not c.if-not-is_sound.false)

pub returns-then-not-is_planned : goal.returns-then-not-is_planned
returns-then-not-is_planned c =
    started-by c.args.plan (bench (goal.at.returns-then-not-is_planned c).Start) (fine (goal.at.returns-then-not-is_planned c).Else-not-is_sound) (test-failed c.is_planned.result (planned c.args.m.elen c.args.plan) c.is_planned.ensures (ap not c.if-not-is_planned.true)) refl refl

-- the plan's numbers are permitted
plan-ok : (c : Else-not-is_planned) → let a = c.args in planned a.m.elen a.plan ≡ true
plan-ok c =
    let a = c.args in
    test-passed c.is_planned.result (planned a.m.elen a.plan) c.is_planned.ensures (ap not c.if-not-is_planned.false)

-- on every machine of the largest ELEN too
plan-widest : (c : Else-not-is_planned) → let a = c.args in planned most_elen a.plan ≡ true
plan-widest c =
    let a = c.args in
    widest-plan a.m.elen a.plan (ready-elen a.m (ready a.m a.registers.now a.marks.now (bench-sound (bench (goal.at.Else-not-is_planned c).Start) (fine (goal.at.Else-not-is_planned c).Else-not-is_sound)))) (plan-ok c)

pub is_lying-requires : goal.is_lying-requires
is_lying-requires c = plan-widest c

pub returns-then-not-is_lying : goal.returns-then-not-is_lying
returns-then-not-is_lying c =
    started-by c.args.plan (bench (goal.at.returns-then-not-is_lying c).Start) (fine (goal.at.returns-then-not-is_lying c).Else-not-is_sound) (plan-ok (goal.at.returns-then-not-is_lying c).Else-not-is_planned)
    (test-failed c.is_lying.result (lying c.args.plan c.args.memory.now) c.is_lying.ensures (ap not c.if-not-is_lying.true)) refl

-- the matrices lie in memory
lies : (c : Else-not-is_lying) → let a = c.args in lying a.plan a.memory.now ≡ true
lies c =
    let a = c.args in
    test-passed c.is_lying.result (lying a.plan a.memory.now) c.is_lying.ensures (ap not c.if-not-is_lying.false)

pub is_separate-requires : goal.is_separate-requires
is_separate-requires c =
    record {
      plan_value = plan-widest (goal.at.is_separate-requires c).Else-not-is_planned;
      memory_value = lies c;
      seals_value = bench-seals (bench (goal.at.is_separate-requires c).Start) (fine (goal.at.is_separate-requires c).Else-not-is_sound);
    }

pub returns-then-not-is_separate : goal.returns-then-not-is_separate
returns-then-not-is_separate c =
    started-by c.args.plan (bench (goal.at.returns-then-not-is_separate c).Start) (fine (goal.at.returns-then-not-is_separate c).Else-not-is_sound) (plan-ok (goal.at.returns-then-not-is_separate c).Else-not-is_planned) (lies (goal.at.returns-then-not-is_separate c).Else-not-is_lying)
    (test-failed c.is_separate.result (separate (sealed (seals_in c.args.seals.now)) c.args.plan) c.is_separate.ensures (ap not c.if-not-is_separate.true))

pub returns : goal.returns
returns c =
    started-by c.args.plan (bench (goal.at.returns c).Start) (fine (goal.at.returns c).Else-not-is_sound) (plan-ok (goal.at.returns c).Else-not-is_planned) (lies (goal.at.returns c).Else-not-is_lying)
    (test-passed c.is_separate.result (separate (sealed (seals_in c.args.seals.now)) c.args.plan) c.is_separate.ensures (ap not c.if-not-is_separate.false))
