-- `numbers_coded::number_size` meets its contract.
use Prim.Native.Nat.{◌/◌}
use native.Mathlib.Omega.{arith}
use Rattle.numbers_coded.proofs.PutLaws.{length_last, length_more}
use Rattle.numbers_coded.proofs.SizeLaws.{size-bound}
use Rattle.numbers_coded.proofs.+number_size.Goals as goal

pub overflow_add-result : goal.overflow_add-result
overflow_add-result t c = omega (arith, c.number_size.ensures, size-bound (c.args.n / 128) (omega arith))

pub returns-then-n-lt128 : goal.returns-then-n-lt128
returns-then-n-lt128 t c = omega (arith, length_last c.args.n (omega arith))

pub returns-else-n-lt128 : goal.returns-else-n-lt128
returns-else-n-lt128 t c = omega (arith, c.number_size.ensures, length_more c.args.n (omega arith))
