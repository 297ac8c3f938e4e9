-- A counted loop over a value.
use Rattle.numbers.specs.Kit.{ℕ, zero, suc}

-- f 0, then f 1, .., then f (n - 1)
abbrev pub upto {ℓ} : {X : Type ℓ} → ℕ → (ℕ → X → X) → X → X
upto zero f x = x
upto (suc n) f x = f n (upto n f x)
