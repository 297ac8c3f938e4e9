-- 02, Four: products of binary32 elements, computed.
use Rattle.std.specs.Prelude.{◌≡◌, ◌∷◌}
use Rattle.numbers.specs.Kit.{refl, List, [], map, ℕ, length, get_or}
use Rattle.std.specs.Float.Ieee.{add, mul, of_bits, to_bits}
use Rattle.numbers.specs.Binary32.{value_of, settled, multiply_add, float_sum, float_product}

pub record Line : Type 0 where
  pub got : ℕ
  pub want : ℕ

-- an element of C from its old value and the elements of A and B, and what it shall be
pub float : ℕ → List ℕ → List ℕ → ℕ → Line
float old xs ys want = record { got = float_product (length xs) old (λ l. get_or xs l 0) (λ l. get_or ys l 0); want = want }

pub floats : List Line
floats =
    -- 1 + 2 x 3
    float 0x3F800000 (0x40000000 ∷ []) (0x40400000 ∷ []) 0x40E00000
    -- the product is rounded, then the sum: -1 + (1 + 2^-23) x (1 - 2^-24) is +0
    ∷ float 0xBF800000 (0x3F800001 ∷ []) (0x3F7FFFFF ∷ []) 0
    -- ties to even: 2^24 + 1 and 2^24 + 2 + 1
    ∷ float 0x4B800000 (0x3F800000 ∷ []) (0x3F800000 ∷ []) 0x4B800000
    ∷ float 0x4B800001 (0x3F800000 ∷ []) (0x3F800000 ∷ []) 0x4B800002
    -- k rises: 1 + 2^24 - 2^24 is 0, and 1 - 2^24 + 2^24 is 1
    ∷ float 0x3F800000 (0x4B800000 ∷ 0xCB800000 ∷ []) (0x3F800000 ∷ 0x3F800000 ∷ []) 0
    ∷ float 0x3F800000 (0xCB800000 ∷ 0x4B800000 ∷ []) (0x3F800000 ∷ 0x3F800000 ∷ []) 0x3F800000
    -- zeros: -0 + -0 x 0, 0 + -0 x 1, -3 + 1 x 3
    ∷ float 0x80000000 (0x80000000 ∷ []) (0 ∷ []) 0x80000000
    ∷ float 0 (0x80000000 ∷ []) (0x3F800000 ∷ []) 0
    ∷ float 0xC0400000 (0x3F800000 ∷ []) (0x40400000 ∷ []) 0
    -- overflow; the smallest numbers are kept
    ∷ float 0 (0x7F7FFFFF ∷ []) (0x40000000 ∷ []) 0x7F800000
    ∷ float 0 (0x00000003 ∷ []) (0x3F000000 ∷ []) 0x00000002
    ∷ float 0x00000001 (0x00800000 ∷ []) (0x3F000000 ∷ []) 0x00400001
    -- not a number: infinity - infinity, infinity x 0, such an old value, also with no term; but -0 stays
    ∷ float 0x7F800000 (0xFF800000 ∷ []) (0x3F800000 ∷ []) 0x7FC00000
    ∷ float 0 (0x7F800000 ∷ []) (0 ∷ []) 0x7FC00000
    ∷ float 0x7F800001 (0x3F800000 ∷ []) (0x3F800000 ∷ []) 0x7FC00000
    ∷ float 0xFFC01234 [] [] 0x7FC00000
    ∷ float 0x80000000 [] [] 0x80000000
    ∷ []

pub floats-right : map (λ l. l.got) floats ≡ map (λ l. l.want) floats
unfolding floats float value_of settled multiply_add float_sum float_product add mul of_bits to_bits
floats-right = refl
