-- The sizes of registers are small, and each lies in the file.
use Rattle.numbers.proofs.Kit.{◌≡◌, true, ℕ, ◌+◌, ◌*◌, ◌/◌, ◌^◌, ◌≤◌, ◌<◌, mul-le-mul, arith}
use Rattle.numbers.specs.Bounds.{most_pitch, most_size}
use Rattle.machine.specs.declared.Matrix.{Matrix}
use Rattle.machine.specs.declared.Matrix.TheVariants.{MatrixA, MatrixB, MatrixC}
use Rattle.machine.specs.Geometry.{permitted, register_count}
use Rattle.machine.proofs.StepLaws.{permitted-bounds, permitted-lengths}

bound : (r size : ℕ) → r < 8 → size ≤ most_size → (r * size < 2 ^ 64) × ((8 + 4 * r) * size < 2 ^ 64) × (r < 8)
bound r size l h =
    let r≤ : r ≤ 8 = omega arith in
    let s≤ : 8 + 4 * r ≤ 40 = omega arith in
    let a : r * size ≤ 8 * most_size = mul-le-mul r≤ h in
    let b : (8 + 4 * r) * size ≤ 40 * most_size = mul-le-mul s≤ h in
    omega arith

pub sizes-bounded : (rlen mlen elen : ℕ) → permitted rlen mlen elen ≡ true → (0 < rlen) × (rlen / 8 ≤ most_pitch) × (mlen / rlen * (rlen / 8) ≤ most_size)
sizes-bounded rlen mlen elen h =
    let b = permitted-bounds rlen mlen elen h in
    let l = permitted-lengths rlen mlen elen h in
    omega arith

-- a register of the file: nothing overflows
pub in-file : (k : Matrix) (r size : ℕ) → r < register_count k → size ≤ most_size → (r * size < 2 ^ 64) × ((8 + 4 * r) * size < 2 ^ 64) × (r < 8)
in-file MatrixA r size l h = bound r size l h
in-file MatrixB r size l h = bound r size l h
in-file MatrixC r size l h = bound r size (omega arith) h
