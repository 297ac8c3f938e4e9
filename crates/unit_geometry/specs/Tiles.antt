-- Where the tile of a matrix lies in its register.
use Rattle.numbers.specs.Kit.{[], ℕ}
use Rattle.machine.specs.declared.Machine.{Machine}
use Rattle.machine.specs.declared.Matrix.{Matrix}
use Rattle.machine.specs.Geometry.{state_of, start_of, pitch_of}
use Rattle.machine.specs.Operation.{tile_rows, tile_cols}
use Rattle.unit_settings.specs.Parts.{ours}
use Rattle.unit_geometry.specs.declared.Placed.{Placed}

-- the tile of a matrix in a register
abbrev pub placed_as : Machine → Matrix → ℕ → Placed
placed_as m k r = record {
  start = start_of (ours m) k r;
  pitch = pitch_of (ours m) k;
  rows = tile_rows (state_of m [] []) k;
  columns = tile_cols (state_of m [] []) k;
}
