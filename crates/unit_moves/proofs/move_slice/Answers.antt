use Rattle.numbers.proofs.Kit.{◌%◌, arith, eq-eqb, ne_eqb}
use Rattle.machine.specs.Vectors.{Vectors, vectors_of}
use Rattle.unit_slices.proofs.GroupLaws.{file-length, group-positive, group-fits}
use Rattle.unit_moves.proofs.MoveLaws.{misaligned, moved_in, moved_out}
use Rattle.unit_moves.proofs.move_slice.Goals as goal
use Rattle.unit_moves.proofs.move_slice.Goals.{Start}

-- what is lent
abbrev lent : Start → Vectors
lent s = vectors_of s.args.vectors.now s.args.group

pub nonzero_rem-v : goal.nonzero_rem-v
nonzero_rem-v c = let b = group-positive (lent (goal.at.nonzero_rem-v c).Start) c.requires.group_value in omega (arith, b)

pub returns-then-v-group-ne0 : goal.returns-then-v-group-ne0
returns-then-v-group-ne0 c =
    let a = c.args in
    misaligned a.m a.registers.now a.marks.now a.inward a.form a.r a.v a.first (lent (goal.at.returns-then-v-group-ne0 c).Start) (ne_eqb (a.v % a.group) 0 c.if-v-group-ne0.true)

pub slice_in-requires : goal.slice_in-requires
slice_in-requires c =
    let a = c.args in
    let g = group-fits (lent (goal.at.slice_in-requires c).Start) c.requires.group_value a.v (eq-eqb (a.v % a.group) 0 c.if-v-group-ne0.false) c.requires.r_bound.1 in
    record {
      marks_value = c.requires.marks_value;
      vectors_len = file-length (lent (goal.at.slice_in-requires c).Start) c.requires.group_value;
      md_bound = (c.requires.r_bound.0, g);
    }

pub returns-then-inward : goal.returns-then-inward
returns-then-inward c =
    let a = c.args in
    moved_in a.m a.registers.now a.marks.now a.inward a.form a.r a.v a.first (lent (goal.at.returns-then-inward c).Start) (eq-eqb (a.v % a.group) 0 c.if-v-group-ne0.false) c.if-inward.true _ _ _ c.slice_in.ensures

pub slice_out-requires : goal.slice_out-requires
slice_out-requires c =
    let a = c.args in
    let g = group-fits (lent (goal.at.slice_out-requires c).Start) c.requires.group_value a.v (eq-eqb (a.v % a.group) 0 c.if-v-group-ne0.false) c.requires.r_bound.1 in
    record {
      marks_value = c.requires.marks_value;
      vectors_len = file-length (lent (goal.at.slice_out-requires c).Start) c.requires.group_value;
      ms1_bound = (c.requires.r_bound.0, g);
    }

pub returns : goal.returns
returns c =
    let a = c.args in
    moved_out a.m a.registers.now a.marks.now a.inward a.form a.r a.v a.first (lent (goal.at.returns c).Start) (eq-eqb (a.v % a.group) 0 c.if-v-group-ne0.false) c.if-inward.false _ _ c.slice_out.ensures
