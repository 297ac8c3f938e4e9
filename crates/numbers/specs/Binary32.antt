-- 02, Four: elements of 32 bits as binary32 numbers. `add` and `mul` of the kit's lib.Ieee are the exact sum and product "rounded .. to the
-- nearest binary32, ties to even": subnormal numbers are kept, and what is too large becomes an infinity.
use Rattle.numbers.specs.Kit.{false, ℕ, zero, suc, pos}
use Rattle.std.specs.Prelude.{Float}
use Rattle.std.specs.Float.{nan, inf, fin, binary32}
use Rattle.std.specs.Float.Ieee.{add, mul, of_bits, to_bits}

-- the value that 32 bits stand for: a number, an infinity, or `nan`, which is not a number
unfoldable pub value_of : ℕ → Float
value_of bits = of_bits binary32 bits

-- the bits that are stored for a value: "A result that is not a number is stored as 0x7FC00000"
unfoldable pub settled : Float → ℕ
settled nan = 0x7FC00000
settled (inf s) = to_bits binary32 (inf s)
settled (fin s m e) = to_bits binary32 (fin s m e)

-- x + a x b: "the product is rounded, then the sum is rounded"
unfoldable pub multiply_add : Float → Float → Float → Float
multiply_add x a b = add binary32 x (mul binary32 a b)

-- from x on, the first n products a(l) x b(l), "for k rising"
unfoldable pub float_sum : Float → ℕ → (a b : ℕ → Float) → Float
float_sum x zero a b = x
float_sum x (suc n) a b = multiply_add (float_sum x n a b) (a n) (b n)

-- an element of C after a multiply, from the elements of A and B: "Each C element starts from its old value"; a result "is stored ..,
-- an old value too where tile_k is 0"
unfoldable pub float_product : (terms old : ℕ) → (a b : ℕ → ℕ) → ℕ
float_product terms old a b = settled (float_sum (value_of old) terms (λ l. value_of (a l)) (λ l. value_of (b l)))

-- +0
abbrev pub plus_zero : Float
plus_zero = fin false zero (pos zero)
