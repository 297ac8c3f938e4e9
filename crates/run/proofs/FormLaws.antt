-- Rows and columns of a matrix in memory by the form of its load: what holds of both holds where they change places.
use Rattle.numbers.proofs.Kit.{ℕ, zero, ◌+◌, ◌≤◌, ◌<◌, arith}
use Rattle.machine.specs.declared.Form.{Form}
use Rattle.machine.specs.declared.Form.TheVariants.{Plain, Transposed}
use Rattle.machine.specs.Operation.{memory_rows, memory_cols}

-- an element of the matrix lies in its rows in memory
pub element-in : (f : Form) (i j m k : ℕ) → i < m → j < k → (memory_rows f i j < memory_rows f m k) × (memory_cols f i j < memory_cols f m k)
element-in Plain i j m k l l' = (l, l')
element-in Transposed i j m k l l' = (l', l)

-- and so does a block of it
pub block_in : (f : Form) (i j a b m k : ℕ) → zero < a → zero < b → i + a ≤ m → j + b ≤ k
    → (zero < memory_rows f a b) × (zero < memory_cols f m k) × (memory_rows f i j + memory_rows f a b ≤ memory_rows f m k) × (memory_cols f i j + memory_cols f a b ≤ memory_cols f m k)
block_in Plain i j a b m k h h' l l' = (h, omega arith, l, l')
block_in Transposed i j a b m k h h' l l' = (h', omega arith, l', l)

-- a bound of both is one of row and column in memory
pub most-in : (f : Form) (i j n : ℕ) → i ≤ n → j ≤ n → (memory_rows f i j ≤ n) × (memory_cols f i j ≤ n)
most-in Plain i j n l l' = (l, l')
most-in Transposed i j n l l' = (l', l)
