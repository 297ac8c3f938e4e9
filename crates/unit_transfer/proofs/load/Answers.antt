use Rattle.numbers.proofs.Kit.{◌≡◌, refl, sym, ap₂, ◌∙◌, subst, Bool, true, ℕ, ◌*◌, ◌^◌, ◌<◌, arith, length}
use Rattle.machine.specs.Memory.{inside}
use Rattle.machine.specs.Operation.{memory_rows, memory_cols}
use Rattle.unit_address.proofs.TestLaws.{test-failed, test-passed}
use Rattle.unit_tile.proofs.Room.{rows_end}
use Rattle.unit_transfer.proofs.FormLaws.{line_small}
use Rattle.numbers.proofs.Kit.{not}
use Rattle.numbers.proofs.Kit.{ap}
use Rattle.unit_transfer.proofs.load.Goals as goal
use Rattle.unit_transfer.proofs.load.Goals.{Else-not-rows_inside, Start}

pub overflow_mul-bytes : goal.overflow_mul-bytes
overflow_mul-bytes c =
    let a = c.args in
    record {
      fits = subst (λ (n : ℕ). n * a.t.width < 2 ^ 64) (sym c.memory_columns.ensures)
          (line_small a.form a.t.rows a.t.columns a.t.width a.t.pitch (2 ^ 64) c.requires.width_bound c.requires.width_le_pitch (omega arith) (omega (arith, c.requires.pitch_in_bounds)));
    }

-- whether the rows lie in memory, of so many rows of so many elements
abbrev lie : Start → ℕ → ℕ → Bool
lie s lines columns = let a = s.args in inside (length a.memory.now) a.t.base a.t.stride lines (columns * a.t.width)

abbrev lies : Start → Bool
lies s = let a = s.args in lie s (memory_rows a.form a.t.rows a.t.columns) (memory_cols a.form a.t.rows a.t.columns)

pub returns-then-not-rows_inside : goal.returns-then-not-rows_inside
returns-then-not-rows_inside c =
    let r = c.rows_inside in
    let e = sym (ap₂ (lie (goal.at.returns-then-not-rows_inside c).Start) c.memory_rows-lines.ensures c.memory_columns.ensures) ∙ test-failed r.result (lie (goal.at.returns-then-not-rows_inside c).Start c.memory_rows-lines.result c.memory_columns.result) r.ensures (ap not c.if-not-rows_inside.true) in
    record {
      value = rw e;
      registers_after = refl;
      marks_after = refl;
    }

rows_in : (c : Else-not-rows_inside) → lies (goal.at.Else-not-rows_inside c).Start ≡ true
rows_in c =
    let r = c.rows_inside in
    sym (ap₂ (lie (goal.at.Else-not-rows_inside c).Start) c.memory_rows-lines.ensures c.memory_columns.ensures) ∙ test-passed r.result (lie (goal.at.Else-not-rows_inside c).Start c.memory_rows-lines.result c.memory_columns.result) r.ensures (ap not c.if-not-rows_inside.false)

pub copy_in-requires : goal.copy_in-requires
copy_in-requires c =
    record {
      pitch_in_bounds = c.requires.pitch_in_bounds;
      width_bound = c.requires.width_bound;
      width = c.requires.width;
      width_value = rows_in (goal.at.copy_in-requires c).Else-not-rows_inside;
    }

pub mark_tile-requires : goal.mark_tile-requires
mark_tile-requires c =
    let a = c.args in
    rows_end a.t.start a.t.pitch a.t.rows (a.t.columns * a.t.width) (length a.marks.now) (omega (arith, c.requires.pitch_in_bounds, c.requires.marks_len)) c.requires.width_bound

pub returns : goal.returns
returns c =
    record {
      value = rw (rows_in (goal.at.returns c).Else-not-rows_inside);
      registers_after = c.copy_in.ensures;
      marks_after = c.mark_tile.ensures;
    }
