-- How many bytes a tile takes in memory, by its form.
use Rattle.numbers.proofs.Kit.{◌≡◌, refl, ℕ, ◌*◌, ◌≤◌, ◌<◌, mul-le-mul_left, arith}
use Rattle.machine.specs.declared.Form.{Form}
use Rattle.machine.specs.declared.Form.TheVariants.{Plain, Transposed}
use Rattle.machine.specs.Operation.{memory_rows, memory_cols}

-- a row of memory
pub line_small : (form : Form) (rows cols w pitch bound : ℕ) → cols * w ≤ pitch → w ≤ pitch → pitch < bound → rows * pitch < bound → memory_cols form rows cols * w < bound
line_small Plain rows cols w pitch bound hc hw lp lr = omega arith
line_small Transposed rows cols w pitch bound hc hw lp lr = omega (arith, mul-le-mul_left rows hw)

-- all of them: as many as in the registers
pub all-bytes : (form : Form) (rows cols w : ℕ) → memory_rows form rows cols * (memory_cols form rows cols * w) ≡ rows * (cols * w)
all-bytes Plain rows cols w = refl
all-bytes Transposed rows cols w = omega arith
