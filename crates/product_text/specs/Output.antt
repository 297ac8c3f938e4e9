-- 01, the program `product`: the text that it writes, for each text that it reads.
use Rattle.std.specs.Prelude.{◌∷◌, ◌+◌, ◌*◌, ◌/◌, ◌^◌, ◌*ℤ◌}
use Rattle.numbers.specs.Kit.{List, [], Option, none, some, ℕ, zero, suc, ℤ}
use Rattle.numbers.specs.Reduce.{signed, reduce, sumℤ}
use Rattle.run.specs.Words.{steps}
use Rattle.run.specs.Plan.{shape}
use Rattle.product_memory.specs.Memory.{job_for}
use Rattle.product_text.specs.Problem.{Problem, nth, problem}
use Rattle.text_lines.specs.Lines.{accepted, refused}

-- "The count that `product` writes is the number of turns answered 0": the steps of its run, 1 + M(1 + N(3 + 4K)), whatever the memory
unfoldable pub steps_of : Problem → ℕ
steps_of p = steps (shape (job_for p.sew p.factor p.m p.k p.n []))

-- "the sum, for l from 0 to k - 1, of A(i, l) x B(l, j)"
abbrev pub sum_at : Problem → ℕ → ℕ → ℤ
sum_at p i j = sumℤ p.k (λ l. nth p.a (i * p.k + l) *ℤ nth p.b (l * p.n + j))

-- the modulus of f x SEW bits
abbrev pub modulus : Problem → ℕ
modulus p = 256 ^ (p.factor * (p.sew / 8))

-- C(i, j): that sum, "reduced to f x SEW bits in two's complement", signed
abbrev pub product_at : Problem → ℕ → ℕ → ℤ
product_at p i j = signed (modulus p) (reduce (modulus p) (sum_at p i j))

-- f 0, f 1, .., f (n - 1)
abbrev pub list_of : {X : Type 0} → ℕ → (ℕ → X) → List X
list_of zero f = []
list_of (suc n) f = f 0 ∷ list_of n (λ i. f (suc i))

-- the rows of C
unfoldable pub product_rows : Problem → List (List ℤ)
product_rows p = list_of p.m (λ i. list_of p.n (λ j. product_at p i j))

abbrev pub output_for : Option Problem → List ℕ
output_for none = refused
output_for (some p) = accepted (steps_of p) (product_rows p)

-- what `product` writes for the text t
unfoldable pub answer_text : List ℕ → List ℕ
answer_text t = output_for (problem t)
