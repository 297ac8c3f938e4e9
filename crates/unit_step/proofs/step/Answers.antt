use Rattle.numbers.proofs.Kit.{◌≡◌, sym, ◌∙◌, true, length, eq-eqb, ne_eqb, not-true, not-false}
use Rattle.machine.specs.Geometry.{Bench, bench_of}
use Rattle.machine.specs.Vectors.{Vectors, vectors_of, vectors_fit}
use Rattle.machine.specs.Faults.{sound_bench}
use Rattle.machine.proofs.NoFault.{bench-sound, bench-seals}
use Rattle.unit_ranges.specs.Ranges.{seals_in}
use Rattle.unit_step.proofs.WordLaws.{decoded}
use Rattle.unit_step.proofs.FaultLaws.{file-bad, group-bad, file-good, step-fault, step-scalars, step-vectors, step-decoded}
use Rattle.unit_step.proofs.step.Goals as goal
use Rattle.unit_step.proofs.step.Goals.{Else-not-is_group, Else-not-is_sound, Start}

abbrev bench : Start → Bench
bench s = let a = s.args in bench_of a.m (seals_in a.seals.now) a.registers.now a.marks.now a.memory.now

abbrev lent : Start → Vectors
lent s = vectors_of s.args.vectors.now s.args.group

-- the vector file is not bad
good : (c : Else-not-is_group) → vectors_fit (lent (goal.at.Else-not-is_group c).Start) ≡ true
good c =
    let a = c.args in
    file-good a.vectors.now a.group c.if-vectors-ne512.false (sym c.is_group.ensures ∙ c.if-not-is_group.false)

-- the state is not at fault
fine : (c : Else-not-is_sound) → sound_bench (bench (goal.at.Else-not-is_sound c).Start) ≡ true
fine c = sym c.is_sound.ensures ∙ c.if-not-is_sound.false

pub returns-then-vectors-ne512 : goal.returns-then-vectors-ne512
returns-then-vectors-ne512 c =
    step-vectors c.args.word c.args.scalars.now (lent (goal.at.returns-then-vectors-ne512 c).Start) (bench (goal.at.returns-then-vectors-ne512 c).Start) (file-bad c.args.vectors.now c.args.group c.if-vectors-ne512.true)

pub returns-then-not-is_group : goal.returns-then-not-is_group
returns-then-not-is_group c =
    step-vectors c.args.word c.args.scalars.now (lent (goal.at.returns-then-not-is_group c).Start) (bench (goal.at.returns-then-not-is_group c).Start)
    (group-bad c.args.vectors.now c.args.group c.if-vectors-ne512.false (sym c.is_group.ensures ∙ c.if-not-is_group.true))

pub returns-then-not-is_sound : goal.returns-then-not-is_sound
returns-then-not-is_sound c =
    step-fault c.args.word c.args.scalars.now (lent (goal.at.returns-then-not-is_sound c).Start) (bench (goal.at.returns-then-not-is_sound c).Start) (sym c.is_sound.ensures ∙ c.if-not-is_sound.true)

pub returns-then-scalars-ne32 : goal.returns-then-scalars-ne32
returns-then-scalars-ne32 c =
    step-scalars c.args.word c.args.scalars.now (lent (goal.at.returns-then-scalars-ne32 c).Start) (bench (goal.at.returns-then-scalars-ne32 c).Start) (fine (goal.at.returns-then-scalars-ne32 c).Else-not-is_sound) (ne_eqb (length c.args.scalars.now) 32 c.if-scalars-ne32.true)

pub perform-requires : goal.perform-requires
perform-requires c =
    record {
      marks_value = bench-sound (bench (goal.at.perform-requires c).Start) (fine (goal.at.perform-requires c).Else-not-is_sound);
      scalars_value = eq-eqb (length c.args.scalars.now) 32 c.if-scalars-ne32.false;
      group_value = good (goal.at.perform-requires c).Else-not-is_group;
      decoded = decoded c.args.word c.decode.result c.decode.ensures;
      seals_value = bench-seals (bench (goal.at.perform-requires c).Start) (fine (goal.at.perform-requires c).Else-not-is_sound);
    }

pub returns : goal.returns
returns c =
    c.perform.ensures ∙ step-decoded c.args.word c.args.scalars.now (lent (goal.at.returns c).Start) (bench (goal.at.returns c).Start) (good (goal.at.returns c).Else-not-is_group) c.decode.result c.decode.ensures
