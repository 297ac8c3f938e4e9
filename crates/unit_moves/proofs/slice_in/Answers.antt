use Rattle.numbers.proofs.Kit.{refl, sym, ap, subst, [], ◌*◌, ◌^◌, ◌≤◌, ◌<◌, arith, length, Err}
use Rattle.std.proofs.lemmas.Result.{err_from_is_err_and}
use Rattle.machine.proofs.CodeLaws.{refused-not-done}
use Rattle.machine.specs.Answers.{is_done}
use Rattle.machine.specs.Geometry.{state_of}
use Rattle.machine.specs.Vectors.{vector_bytes}
use Rattle.machine.specs.Setting.{sew}
use Rattle.machine.specs.Operation.{memory_rows, memory_cols}
use Rattle.machine.specs.MoveWords.{line_of}
use Rattle.unit_tile.specs.Checks.{RowsIn}
use Rattle.unit_geometry.specs.declared.Placed.{Placed}
use Rattle.unit_settings.proofs.FaultLaws.{ready}
use Rattle.unit_moves.proofs.SliceLaws.{legal, width, small, corner-in, rows_in, marks-in, columns-in, group-in, turned-in}
use Rattle.unit_moves.proofs.MoveLaws.{in-refused, in-done}
use Rattle.unit_moves.proofs.slice_in.Goals as goal
use Rattle.unit_moves.proofs.slice_in.Goals.{After-slice_of-p}

pub check_slice-requires : goal.check_slice-requires
check_slice-requires c = ready c.args.m c.args.registers.now c.args.marks.now c.requires.marks_value

pub returns-in_err-check_slice : goal.returns-in_err-check_slice
returns-in_err-check_slice c =
    let a = c.args in
    let p = err_from_is_err_and c.from_residual.result c.from_residual.ensures.1 in
    rw (p.1, p.2)
    (in-refused a.m a.registers.now a.marks.now a.form a.md a.vs1 a.first a.count a.vectors.now (Err c.in_err-check_slice.field-0.0) c.in_err-check_slice.ensures
    (refused-not-done c.in_err-check_slice.field-0.0))

pub sew_bytes-w-requires : goal.sew_bytes-w-requires
sew_bytes-w-requires c =
    let a = c.args in
    legal a.m a.registers.now a.marks.now c.requires.marks_value a.form a.md a.first a.count c.requires.md_bound.0 (sym (ap is_done c.in_ok-check_slice.ensures)) (sew a.m.mtype) refl

pub slice_of-p-requires : goal.slice_of-p-requires
slice_of-p-requires c =
    let a = c.args in
    let w = c.sew_bytes-w.result in
    let ew = c.sew_bytes-w.ensures.value in
    let i = corner-in a.m a.registers.now a.marks.now c.requires.marks_value a.form a.md a.first a.count c.requires.md_bound.0 (sym (ap is_done c.in_ok-check_slice.ensures)) w ew in
    let b = small a.m a.registers.now a.marks.now c.requires.marks_value a.form a.md a.first a.count c.requires.md_bound.0 (sym (ap is_done c.in_ok-check_slice.ensures)) w ew in
    record {
      ready = ready a.m a.registers.now a.marks.now c.requires.marks_value;
      r_bound = c.requires.md_bound.0;
      w_bound = omega (arith, i, b);
    }

-- the slice lies in the registers and in the marks
lies : (c : After-slice_of-p) → let a = c.args in
    let p = c.slice_of-p.result in
    RowsIn p.start p.pitch p.rows (p.columns * c.sew_bytes-w.result) (length a.registers.now)
    × RowsIn p.start p.pitch p.rows (p.columns * c.sew_bytes-w.result) (length a.marks.now) × (p.columns * c.sew_bytes-w.result ≤ p.pitch) × (p.pitch < 2 ^ 32)
lies c =
    let a = c.args in
    let w = c.sew_bytes-w.result in
    let ew = c.sew_bytes-w.ensures.value in
    let r = rows_in a.m a.registers.now a.marks.now c.requires.marks_value a.form a.md a.first a.count c.requires.md_bound.0 (sym (ap is_done c.in_ok-check_slice.ensures)) w ew in
    let k = marks-in a.m a.registers.now a.marks.now c.requires.marks_value a.form a.md a.first a.count c.requires.md_bound.0 (sym (ap is_done c.in_ok-check_slice.ensures)) w ew in
    let q = columns-in a.m a.registers.now a.marks.now c.requires.marks_value a.form a.md a.first a.count c.requires.md_bound.0 (sym (ap is_done c.in_ok-check_slice.ensures)) w ew in
    let b = small a.m a.registers.now a.marks.now c.requires.marks_value a.form a.md a.first a.count c.requires.md_bound.0 (sym (ap is_done c.in_ok-check_slice.ensures)) w ew in
    subst (λ (p : Placed). RowsIn p.start p.pitch p.rows (p.columns * w) (length a.registers.now)
    × RowsIn p.start p.pitch p.rows (p.columns * w) (length a.marks.now) × (p.columns * w ≤ p.pitch) × (p.pitch < 2 ^ 32)) (sym c.slice_of-p.ensures)
    (r, k, q, b.1)

pub copy_slice-requires : goal.copy_slice-requires
copy_slice-requires c =
    let a = c.args in
    let w = c.sew_bytes-w.result in
    let ew = c.sew_bytes-w.ensures.value in
    let l = lies (goal.at.copy_slice-requires c).After-slice_of-p in
    let g = group-in a.m a.registers.now a.marks.now c.requires.marks_value a.form a.md a.first a.count c.requires.md_bound.0 (sym (ap is_done c.in_ok-check_slice.ensures)) w ew a.vs1 a.vectors.now c.requires.md_bound.1.0 c.requires.vectors_len in
    let y = width a.m a.registers.now a.marks.now c.requires.marks_value a.form a.md a.first a.count c.requires.md_bound.0 (sym (ap is_done c.in_ok-check_slice.ensures)) w ew in
    record {
      rows_in = l.0;
      rows_in_2 = subst (λ (p : Placed). RowsIn (a.vs1 * vector_bytes) vector_bytes (memory_rows a.form p.rows p.columns) (memory_cols a.form p.rows p.columns * w) (length a.vectors.now)) (sym c.slice_of-p.ensures)
          (turned-in a.form (a.vs1 * vector_bytes) vector_bytes a.count (line_of a.form (state_of a.m [] [])) w (length a.vectors.now) g);
      w_bound = l.2;
      width = y;
    }

pub overflow_mul-p : goal.overflow_mul-p
overflow_mul-p c = let l = lies (goal.at.overflow_mul-p c).After-slice_of-p in omega (arith, l.2, l.3)

pub mark_tile-requires : goal.mark_tile-requires
mark_tile-requires c = let l = lies (goal.at.mark_tile-requires c).After-slice_of-p in (l.1.0, λ i g. omega (arith, l.1.1 i g))

pub returns : goal.returns
returns c =
    let a = c.args in
    in-done a.m a.registers.now a.marks.now a.form a.md a.vs1 a.first a.count a.vectors.now c.sew_bytes-w.result c.sew_bytes-w.ensures.value
    c.slice_of-p.result c.slice_of-p.ensures
    (c.in_ok-check_slice.ensures)
    _ _ c.copy_slice.ensures c.mark_tile.ensures
