use Rattle.numbers.proofs.Kit.{◌≡◌, subst, true, ◌*◌, length}
use Rattle.machine.specs.declared.Form.{Form}
use Rattle.machine.specs.Memory.{inside}
use Rattle.machine.specs.Operation.{memory_rows, memory_cols}
use Rattle.unit_transfer.proofs.copy_out.Goals as goal
use Rattle.unit_transfer.proofs.copy_out.Goals.{Start}

-- the rows lie in memory
rows_in : (s : Start) (f : Form) → s.args.form ≡ f
    → let a = s.args in inside (length a.memory.now) a.t.base a.t.stride (memory_rows f a.t.rows a.t.columns) (memory_cols f a.t.rows a.t.columns * a.t.width) ≡ true
rows_in s f e =
    let a = s.args in
    subst (λ (f : Form). inside (length a.memory.now) a.t.base a.t.stride (memory_rows f a.t.rows a.t.columns) (memory_cols f a.t.rows a.t.columns * a.t.width) ≡ true) e s.requires.width_value

pub store_tile-requires : goal.store_tile-requires
store_tile-requires c =
    record {
      pitch_in_bounds = c.requires.pitch_in_bounds;
      width_bound = c.requires.width_bound;
      width_value = rows_in (goal.at.store_tile-requires c).Start _ c.in-Plain.is;
    }

pub scatter_tile-requires : goal.scatter_tile-requires
scatter_tile-requires c =
    record {
      pitch_in_bounds = c.requires.pitch_in_bounds;
      width_bound = c.requires.width_bound;
      width = c.requires.width;
      width_value = rows_in (goal.at.scatter_tile-requires c).Start _ c.in-Transposed.is;
    }

pub returns-in-Plain : goal.returns-in-Plain
returns-in-Plain c = rw c.in-Plain.is c.store_tile.ensures

pub returns-in-Transposed : goal.returns-in-Transposed
returns-in-Transposed c = rw c.in-Transposed.is c.scatter_tile.ensures
