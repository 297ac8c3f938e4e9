use Rattle.numbers.proofs.Kit.{◌≡◌, subst, ◌*◌, length}
use Rattle.machine.specs.declared.Form.{Form}
use Rattle.machine.specs.Operation.{memory_rows, memory_cols}
use Rattle.unit_tile.specs.Checks.{RowsIn}
use Rattle.unit_moves.proofs.copy_slice.Goals as goal
use Rattle.unit_moves.proofs.copy_slice.Goals.{Start}

-- the rows lie in src
rows_in : (s : Start) (f : Form) → s.args.form ≡ f
    → let a = s.args in RowsIn a.from.start a.from.pitch (memory_rows f a.to.rows a.to.columns) (memory_cols f a.to.rows a.to.columns * a.w) (length a.src.now)
rows_in s f e =
    let a = s.args in
    subst (λ (f : Form). RowsIn a.from.start a.from.pitch (memory_rows f a.to.rows a.to.columns) (memory_cols f a.to.rows a.to.columns * a.w) (length a.src.now)) e s.requires.rows_in_2

pub copy_rows-requires : goal.copy_rows-requires
copy_rows-requires c =
    record {
      rows_in = c.requires.rows_in;
      rows_in_2 = rows_in (goal.at.copy_rows-requires c).Start _ c.in-Plain.is;
      w_bound = c.requires.w_bound;
    }

pub copy_columns-requires : goal.copy_columns-requires
copy_columns-requires c =
    record {
      rows_in = c.requires.rows_in;
      rows_in_2 = rows_in (goal.at.copy_columns-requires c).Start _ c.in-Transposed.is;
      width = c.requires.width;
    }

pub returns-in-Plain : goal.returns-in-Plain
returns-in-Plain c = rw c.in-Plain.is c.copy_rows.ensures

pub returns-in-Transposed : goal.returns-in-Transposed
returns-in-Transposed c = rw c.in-Transposed.is c.copy_columns.ensures
