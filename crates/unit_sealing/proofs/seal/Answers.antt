use Rattle.numbers.proofs.Kit.{◌≡◌, sym, ap, ◌∙◌, true, List, [], ◌<◌, arith, length, not-true, not-false, lt-ltb, le-ltb}
use Rattle.machine.specs.Geometry.{Bench, bench_of}
use Rattle.machine.specs.Starting.{seal_ends}
use Rattle.machine.specs.Faults.{sound_bench}
use Rattle.machine.proofs.NoFault.{bench-seals}
use Rattle.unit_ranges.specs.Ranges.{seals_in}
use Rattle.unit_ranges.proofs.PutLaws.{count-is}
use Rattle.unit_sealing.proofs.SealLaws.{seal-fault, seal-beyond, seal-ninth, seal-done}
use Rattle.unit_sealing.proofs.seal.Goals as goal
use Rattle.unit_sealing.proofs.seal.Goals.{Else-count_of-ge8, Else-not-is_sound, Else-not-seal_ends, Start}

abbrev bench : Start → Bench
bench s = let a = s.args in bench_of a.m (seals_in a.block.now) a.registers.now a.marks.now []

-- the state is not at fault; the range ends where it may
fine : (c : Else-not-is_sound) → sound_bench (bench (goal.at.Else-not-is_sound c).Start) ≡ true
fine c = sym c.is_sound.ensures ∙ c.if-not-is_sound.false

ends : (c : Else-not-seal_ends) → let a = c.args in seal_ends a.start a.size ≡ true
ends c = sym c.seal_ends.ensures ∙ c.if-not-seal_ends.false

pub returns-then-not-is_sound : goal.returns-then-not-is_sound
returns-then-not-is_sound c =
    let a = c.args in
    seal-fault a.start a.size a.m a.block.now a.registers.now a.marks.now (sym c.is_sound.ensures ∙ c.if-not-is_sound.true)

pub returns-then-not-seal_ends : goal.returns-then-not-seal_ends
returns-then-not-seal_ends c =
    let a = c.args in
    seal-beyond a.start a.size a.m a.block.now a.registers.now a.marks.now (fine (goal.at.returns-then-not-seal_ends c).Else-not-is_sound) (sym c.seal_ends.ensures ∙ c.if-not-seal_ends.true)

pub count_of-requires : goal.count_of-requires
count_of-requires c = bench-seals (bench (goal.at.count_of-requires c).Start) (fine (goal.at.count_of-requires c).Else-not-is_sound)

pub returns-then-count_of-ge8 : goal.returns-then-count_of-ge8
returns-then-count_of-ge8 c =
    let a = c.args in
    seal-ninth a.start a.size a.m a.block.now a.registers.now a.marks.now (fine (goal.at.returns-then-count_of-ge8 c).Else-not-is_sound) (ends (goal.at.returns-then-count_of-ge8 c).Else-not-seal_ends)
    (le-ltb (length (seals_in a.block.now)) 8 (omega (arith, c.if-count_of-ge8.true, c.count_of.ensures.0, count-is a.block.now (bench-seals (bench (goal.at.returns-then-count_of-ge8 c).Start) (fine (goal.at.returns-then-count_of-ge8 c).Else-not-is_sound)))))

-- one more has room
room : (c : Else-count_of-ge8) → length (seals_in c.args.block.now) < 8
room c =
    omega (arith, c.if-count_of-ge8.false, c.count_of.ensures.0, count-is c.args.block.now (bench-seals (bench (goal.at.Else-count_of-ge8 c).Start) (fine (goal.at.Else-count_of-ge8 c).Else-not-is_sound)))

pub add_range-requires : goal.add_range-requires
add_range-requires c =
    record {
      block_value = bench-seals (bench (goal.at.add_range-requires c).Start) (fine (goal.at.add_range-requires c).Else-not-is_sound);
      block_len_bound = room (goal.at.add_range-requires c).Else-count_of-ge8;
    }

pub returns : goal.returns
returns c =
    let a = c.args in
    seal-done a.start a.size a.m a.block.now a.registers.now a.marks.now (fine (goal.at.returns c).Else-not-is_sound) (ends (goal.at.returns c).Else-not-seal_ends) (lt-ltb (length (seals_in a.block.now)) 8 (room (goal.at.returns c).Else-count_of-ge8))
    c.add_range.new.block c.add_range.ensures
