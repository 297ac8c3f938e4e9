-- The columns of a block, and the sums that stand side by side.
use Rattle.std.specs.Prelude.{◌/◌}
use Rattle.numbers.specs.Kit.{ℕ}
use Rattle.numbers.specs.Bounds.{most_columns}

abbrev pub lanes : ℕ
lanes = most_columns / 4
