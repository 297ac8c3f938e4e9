use Rattle.numbers.proofs.Kit.{refl, sym, ap, subst, [], ℕ, ◌+◌, ◌*◌, ◌^◌, ◌≤◌, ◌<◌, arith, length, Err}
use Rattle.std.proofs.lemmas.Result.{err_from_is_err_and}
use Rattle.machine.proofs.CodeLaws.{refused-not-done}
use Rattle.machine.specs.Answers.{is_done}
use Rattle.machine.specs.Geometry.{state_of}
use Rattle.machine.specs.Vectors.{vector_bytes}
use Rattle.machine.specs.Setting.{sew}
use Rattle.machine.specs.Operation.{memory_rows, memory_cols}
use Rattle.machine.specs.MoveWords.{line_of}
use Rattle.unit_element.specs.Element.{Width}
use Rattle.unit_tile.specs.Checks.{RowsIn}
use Rattle.unit_geometry.specs.declared.Placed.{Placed}
use Rattle.unit_settings.proofs.FaultLaws.{ready}
use Rattle.unit_moves.proofs.SliceLaws.{legal, width, line-in, small, corner-in, rows_in, marks-in, columns-in, shift_small, group-in}
use Rattle.unit_moves.proofs.MoveLaws.{out-refused, out-unmarked, out-done}
use Rattle.unit_moves.proofs.slice_out.Goals as goal

pub check_slice-requires : goal.check_slice-requires
check_slice-requires c = ready c.args.m c.args.registers.now c.args.marks.now c.requires.marks_value

pub returns-in_err-check_slice : goal.returns-in_err-check_slice
returns-in_err-check_slice c =
    let a = c.args in
    let p = err_from_is_err_and c.from_residual.result c.from_residual.ensures.1 in
    rw (p.1, p.2)
    (out-refused a.m a.registers.now a.marks.now a.form a.ms1 a.vd a.first a.count a.vectors.now (Err c.in_err-check_slice.field-0.0) c.in_err-check_slice.ensures
    (refused-not-done c.in_err-check_slice.field-0.0))

pub sew_bytes-w-requires : goal.sew_bytes-w-requires
sew_bytes-w-requires c =
    let a = c.args in
    legal a.m a.registers.now a.marks.now c.requires.marks_value a.form a.ms1 a.first a.count c.requires.ms1_bound.0 (sym (ap is_done c.in_ok-check_slice.ensures)) (sew a.m.mtype) refl

pub slice_of-p-requires : goal.slice_of-p-requires
slice_of-p-requires c =
    let a = c.args in
    let w = c.sew_bytes-w.result in
    let ew = c.sew_bytes-w.ensures.value in
    let i = corner-in a.m a.registers.now a.marks.now c.requires.marks_value a.form a.ms1 a.first a.count c.requires.ms1_bound.0 (sym (ap is_done c.in_ok-check_slice.ensures)) w ew in
    let b = small a.m a.registers.now a.marks.now c.requires.marks_value a.form a.ms1 a.first a.count c.requires.ms1_bound.0 (sym (ap is_done c.in_ok-check_slice.ensures)) w ew in
    record {
      ready = ready a.m a.registers.now a.marks.now c.requires.marks_value;
      r_bound = c.requires.ms1_bound.0;
      w_bound = omega (arith, i, b);
    }

pub slice_marks-requires : goal.slice_marks-requires
slice_marks-requires c =
    let a = c.args in
    let w = c.sew_bytes-w.result in
    let ew = c.sew_bytes-w.ensures.value in
    let r = marks-in a.m a.registers.now a.marks.now c.requires.marks_value a.form a.ms1 a.first a.count c.requires.ms1_bound.0 (sym (ap is_done c.in_ok-check_slice.ensures)) w ew in
    let q = columns-in a.m a.registers.now a.marks.now c.requires.marks_value a.form a.ms1 a.first a.count c.requires.ms1_bound.0 (sym (ap is_done c.in_ok-check_slice.ensures)) w ew in
    let h = shift_small a.m a.registers.now a.marks.now c.requires.marks_value a.form a.ms1 a.first a.count c.requires.ms1_bound.0 (sym (ap is_done c.in_ok-check_slice.ensures)) w ew in let r = subst (λ (p : Placed). RowsIn p.start p.pitch p.rows (p.columns * w) (length a.marks.now)
    × ((p.columns * w ≤ p.pitch) × ((a.first + p.rows < 2 ^ 64) × (a.first + p.columns < 2 ^ 64)))) (sym c.slice_of-p.ensures)
    (r, (q, h)) in record { rows_in = r.0; w_bound = r.1.0; rows_bound = r.1.1 }

pub returns-in_err-slice_marks : goal.returns-in_err-slice_marks
returns-in_err-slice_marks c =
    let a = c.args in
    let p = err_from_is_err_and c.from_residual-in_err-slice_marks.result c.from_residual-in_err-slice_marks.ensures.1 in
    rw (p.1, p.2)
    (out-unmarked a.m a.registers.now a.marks.now a.form a.ms1 a.vd a.first a.count a.vectors.now (sym (ap is_done c.in_ok-check_slice.ensures)) c.sew_bytes-w.result c.sew_bytes-w.ensures.value
    c.slice_of-p.result c.slice_of-p.ensures (Err c.in_err-slice_marks.field-0.0) c.in_err-slice_marks.ensures
    (refused-not-done c.in_err-slice_marks.field-0.0))

pub copy_slice-requires : goal.copy_slice-requires
copy_slice-requires c =
    let a = c.args in
    let w = c.sew_bytes-w.result in
    let ew = c.sew_bytes-w.ensures.value in
    let line : ℕ = line_of a.form (state_of a.m [] []) in
    let g = group-in a.m a.registers.now a.marks.now c.requires.marks_value a.form a.ms1 a.first a.count c.requires.ms1_bound.0 (sym (ap is_done c.in_ok-check_slice.ensures)) w ew a.vd a.vectors.now c.requires.ms1_bound.1.0 c.requires.vectors_len in
    let r = rows_in a.m a.registers.now a.marks.now c.requires.marks_value a.form a.ms1 a.first a.count c.requires.ms1_bound.0 (sym (ap is_done c.in_ok-check_slice.ensures)) w ew in
    let l = line-in a.m a.registers.now a.marks.now c.requires.marks_value a.form a.ms1 a.first a.count c.requires.ms1_bound.0 (sym (ap is_done c.in_ok-check_slice.ensures)) w ew in
    let y = width a.m a.registers.now a.marks.now c.requires.marks_value a.form a.ms1 a.first a.count c.requires.ms1_bound.0 (sym (ap is_done c.in_ok-check_slice.ensures)) w ew in let r = subst (λ (x : ℕ). RowsIn (a.vd * vector_bytes) vector_bytes a.count (x * w) (length a.vectors.now)
    × (RowsIn c.slice_of-p.result.start c.slice_of-p.result.pitch (memory_rows a.form a.count x) (memory_cols a.form a.count x * w) (length a.registers.now)
    × ((x * w ≤ vector_bytes) × Width w))) (sym c.line_of-line.ensures)
    (g, (subst (λ (p : Placed). RowsIn p.start p.pitch (memory_rows a.form a.count line) (memory_cols a.form a.count line * w) (length a.registers.now)) (sym c.slice_of-p.ensures) r, (l, y))) in record { rows_in = r.0; rows_in_2 = r.1.0; w_bound = r.1.1.0; width = r.1.1.1 }

pub returns : goal.returns
returns c =
    let a = c.args in
    out-done a.m a.registers.now a.marks.now a.form a.ms1 a.vd a.first a.count a.vectors.now (sym (ap is_done c.in_ok-check_slice.ensures)) c.sew_bytes-w.result c.sew_bytes-w.ensures.value
    c.slice_of-p.result c.slice_of-p.ensures
    (c.in_ok-slice_marks.ensures)
    c.line_of-line.result c.line_of-line.ensures _ c.copy_slice.ensures
