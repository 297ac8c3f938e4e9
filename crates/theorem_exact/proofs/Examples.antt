-- The example of specs/Examples.antt.
use Rattle.numbers.proofs.Kit.{refl, ℕ, zero, suc, ◌≤◌, ◌<◌, arith, ◌*ℤ◌}
use lib.Ieee.{of_bits}
use Rattle.numbers.specs.Reduce.{sumℤ}
use Rattle.numbers.specs.Binary32.{value_of}
use Rattle.theorem_exact.specs.Exact.{Is, Within24}
use Rattle.theorem_exact.specs.Examples.{row_bits, row_numbers, TwoTerms}

whole : (l : ℕ) → l < 2 → Is (value_of (row_bits l)) (row_numbers l)
unfolding value_of of_bits row_bits row_numbers
whole zero h = refl
whole (suc l) h = refl

product : (l : ℕ) → Within24 (row_numbers l *ℤ row_numbers l)
unfolding row_numbers
product zero = omega arith
product (suc l) = omega arith

sum : (s : ℕ) → s ≤ 2 → Within24 (sumℤ s (λ l. row_numbers l *ℤ row_numbers l))
unfolding row_numbers
sum zero h = omega arith
sum (suc zero) h = omega arith
sum (suc (suc zero)) h = omega arith
sum (suc (suc (suc s))) h = absurd (omega arith)

pub two-terms : TwoTerms
two-terms = record { a-whole = whole; b-whole = whole; products = λ l h. product l; sums = sum }
