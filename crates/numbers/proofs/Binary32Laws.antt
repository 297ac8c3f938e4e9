-- Sums of binary32 products: what is stored is read again as it was, so a sum made in blocks is the sum at once.
use Rattle.numbers.proofs.Kit.{◌≡◌, refl, sym, ap, ◌∙◌, subst, ℕ, zero, suc, ◌+◌, ◌%◌, ◌^◌, ◌<◌, add-zero, add-suc, mod-eq_of_lt, arith, T}
use lib.Ieee.{Float, nan, inf, fin, binary32, of_bits, to_bits, fits}
use lib.Ieee.Bits.{of_bits-to_bits, of_bits-fits, to_bits-lt}
use lib.Ieee.Fits.{add-fits}
use Rattle.numbers.specs.Binary32.{value_of, settled, multiply_add, float_sum, float_product, plus_zero}

-- ---- what is stored

-- `settled` is the kit's `to_bits`, which writes the same NaN
pub stored_is : (x : Float) → settled x ≡ to_bits binary32 x
unfolding settled to_bits
stored_is nan = refl
stored_is (inf s) = refl
stored_is (fin s m e) = refl

pub value-stored : (x : Float) → T (fits binary32 x) → value_of (settled x) ≡ x
unfolding value_of
value-stored x h = ap (of_bits binary32) (stored_is x) ∙ of_bits-to_bits binary32 x h

value-fits : (bits : ℕ) → T (fits binary32 (value_of bits))
unfolding value_of
value-fits bits = of_bits-fits binary32 bits

-- ---- sums

pub sum_fits : (x : Float) (n : ℕ) (a b : ℕ → Float) → T (fits binary32 x) → T (fits binary32 (float_sum x n a b))
unfolding float_sum multiply_add
sum_fits x zero a b h = h
sum_fits x (suc n) a b h = add-fits binary32 (float_sum x n a b) _

sum_more : (x : Float) (m n : ℕ) (a b : ℕ → Float) → float_sum x (m + n) a b ≡ float_sum (float_sum x m a b) n (λ l. a (m + l)) (λ l. b (m + l))
unfolding float_sum
sum_more x m zero a b = rw add-zero
sum_more x m (suc n) a b = rw add-suc (ap (λ (y : Float). multiply_add y (a (m + n)) (b (m + n))) (sum_more x m n a b))

pub sum-cong : (x : Float) (n : ℕ) (a b c d : ℕ → Float) → ((l : ℕ) → l < n → a l ≡ c l) → ((l : ℕ) → l < n → b l ≡ d l) → float_sum x n a b ≡ float_sum x n c d
unfolding float_sum
sum-cong x zero a b c d h k = refl
sum-cong x (suc n) a b c d h k = rw (sum-cong x n a b c d (λ l g. h l (omega arith)) (λ l g. k l (omega arith)), h n (omega arith), k n (omega arith))

-- ---- an element of C

-- +0 is the bits 0
pub from_zero : (n : ℕ) (a b : ℕ → ℕ) → float_product n 0 a b ≡ settled (float_sum plus_zero n (λ l. value_of (a l)) (λ l. value_of (b l)))
unfolding float_product value_of of_bits
from_zero n a b = refl

-- and a sum of no product, stored, is these bits
pub zero-stored : (a b : ℕ → Float) → settled (float_sum plus_zero 0 a b) ≡ 0
unfolding settled float_sum to_bits
zero-stored a b = refl

pub stored-small : (x : Float) → T (fits binary32 x) → settled x % 256 ^ 4 ≡ settled x
stored-small x h = mod-eq_of_lt (subst (λ (n : ℕ). n < 256 ^ 4) (sym (stored_is x)) (to_bits-lt binary32 x h))

pub product_small : (n old : ℕ) (a b : ℕ → ℕ) → float_product n old a b % 256 ^ 4 ≡ float_product n old a b
unfolding float_product
product_small n old a b = stored-small (float_sum (value_of old) n (λ l. value_of (a l)) (λ l. value_of (b l))) (sum_fits (value_of old) n (λ l. value_of (a l)) (λ l. value_of (b l)) (value-fits old))

pub product-cong : (old n : ℕ) (a b c d : ℕ → ℕ) → ((l : ℕ) → l < n → a l ≡ c l) → ((l : ℕ) → l < n → b l ≡ d l) → float_product n old a b ≡ float_product n old c d
unfolding float_product
product-cong old n a b c d h k =
    ap settled (sum-cong (value_of old) n (λ l. value_of (a l)) (λ l. value_of (b l)) (λ l. value_of (c l)) (λ l. value_of (d l))
    (λ l g. ap value_of (h l g)) (λ l g. ap value_of (k l g)))

-- two multiplies, one after the other: only what is stored is settled, and the sum goes on from it as if it were not
pub product-more : (old m n : ℕ) (a b : ℕ → ℕ) → float_product n (float_product m old a b) (λ l. a (m + l)) (λ l. b (m + l)) ≡ float_product (m + n) old a b
unfolding float_product
product-more old m n a b =
    let x : ℕ → Float = λ l. value_of (a l) in
    let y : ℕ → Float = λ l. value_of (b l) in
    ap (λ (v : Float). settled (float_sum v n (λ l. x (m + l)) (λ l. y (m + l)))) (value-stored (float_sum (value_of old) m x y) (sum_fits (value_of old) m x y (value-fits old)))
    ∙ ap settled (sym (sum_more (value_of old) m n x y))
