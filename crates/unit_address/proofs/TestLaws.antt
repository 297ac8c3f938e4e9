-- Tests: one that a call made, and tests one after another.
use Rattle.numbers.proofs.Kit.{◌≡◌, refl, sym, ◌∙◌, Bool, true, false, not, ◌&&◌, ℕ, ◌+◌, ◌<◌, arith, add-one, not-true, not-false}
use Rattle.machine.specs.Tests.{all, first}
use Rattle.machine.proofs.TestLaws.{all-at, all-false, first-is, and-true}

-- `if !r`, of a call that returned the test t
pub test-failed : (r t : Bool) → r ≡ t → not r ≡ true → t ≡ false
test-failed r t e h = sym e ∙ not-true r h

pub test-passed : (r t : Bool) → r ≡ t → not r ≡ false → t ≡ true
test-passed r t e h = sym e ∙ not-false r h

-- one more test that passes
pub all-next : (i : ℕ) (p : ℕ → Bool) → all i p ≡ true → p i ≡ true → all (i + 1) p ≡ true
all-next i p h g = rw add-one (and-true (all i p) (p i) h g)

pub all_same : (i : ℕ) (p : ℕ → Bool) → p i ≡ true → all i p ≡ all (i + 1) p
all_same i p h = rw (add-one, h) (sym (and-id (all i p)))
  where
    and-id : (x : Bool) → (x && true) ≡ x
    and-id true = refl
    and-id false = refl

-- and one that fails
pub all-not : (i : ℕ) (p : ℕ → Bool) → p i ≡ false → false ≡ all (i + 1) p
all-not i p h = sym (all-false (i + 1) p i (omega arith) h)

-- the first that fails
pub first-here : (n : ℕ) (p : ℕ → Bool) (i : ℕ) → i < n → all i p ≡ true → p i ≡ false → first n (λ k. not (p k)) ≡ i
first-here n p i l h g = first-is n (λ k. not (p k)) i l (rw g) (λ k l'. rw (all-at i p h k l'))
