-- What the contracts of inner functions name; a reader of Output.antt need not read it.
use Rattle.std.specs.Prelude.{◌≡◌, ◌&&◌, ◌∷◌, ◌++◌, ◌+◌, ◌*◌, ◌-◌, ◌≤◌, ◌<◌}
use Rattle.numbers.specs.Kit.{Bool, cond, List, [], map, Option, none, some, Option·map, ℕ, suc, min, leb}
use Rattle.numbers.specs.Kit.{ltb, length, take, drop, ℤ, pos, negsuc}
use Rattle.std.specs.Prelude as code
use Rattle.std.specs.Prelude.{None, Some}
use Rattle.product_memory.specs.declared.Product.{Product}
use Rattle.product_text.specs.Text.{words, number, numbers}
use Rattle.product_text.specs.Problem.{Problem}

-- an Option as the code returns it
abbrev pub returned : {X : Type 0} → Option X → code.Option X
returned none = None
returned (some x) = Some x

-- ---- numbers as the code holds them

-- z + 2^32, but no less than 0 and no more than 2^33: no number that a problem may have is changed by that
abbrev pub held : ℤ → ℕ
held (pos n) = 0x1_0000_0000 + min n 0x1_0000_0000
held (negsuc n) = 0x1_0000_0000 - min (suc n) 0x1_0000_0000

-- the numbers of a text
unfoldable pub held_in : List ℕ → Option (List ℕ)
held_in t = Option·map (map held) (numbers t)

-- the numbers of words before the first that is none
abbrev pub at_front : Option ℤ → List ℕ → List ℕ
at_front none l = []
at_front (some z) l = held z ∷ l

abbrev pub front_of : List (List ℕ) → List ℕ
front_of [] = []
front_of (w ∷ ws) = at_front (number w) (front_of ws)

-- and those of a text
unfoldable pub front : List ℕ → List ℕ
front t = front_of (words t)

-- numbers written over a buffer from its start on, as many as it has room for
abbrev pub put_front : List ℕ → List ℕ → List ℕ
put_front l out = take (length out) l ++ drop (length l) out

-- a number from 0 up, but no more than 2^32
abbrev pub kept : Option ℕ → Option ℕ
kept o = Option·map (λ n. min n 0x1_0000_0000) o

-- numbers before those of a text
abbrev pub onto : List ℕ → Option (List ℕ) → Option (List ℕ)
onto l ls = Option·map (λ t. l ++ t) ls

-- all numbers stand at the front of out; or there are none, or more than out has room for
abbrev pub counted : Option (List ℕ) → List ℕ → code.Option ℕ → Type 0
counted ls out (Some n) = (n ≤ length out) × (ls ≡ some (take n out))
counted ls out None = ((l : List ℕ) → ls ≡ some l → length out < length l)

-- the number from 0 up that is held as x, and a large one where that is below 0
abbrev pub size_held : ℕ → ℕ
size_held x = cond (leb 0x1_0000_0000 x) (x - 0x1_0000_0000) 0x2_0000_0000

-- the number that is held as x is from -h to h - 1
abbrev pub inside : ℕ → ℕ → Bool
inside h x = leb (0x1_0000_0000 - h) x && ltb x (0x1_0000_0000 + h)

-- ---- a problem as the code returns it

-- SEW, f, m, k and n of a problem
abbrev pub sizes_of : Problem → List ℕ
sizes_of p = p.sew ∷ p.factor ∷ p.m ∷ p.k ∷ p.n ∷ []

-- and as the code returns them
abbrev pub sizes : Product → List ℕ
sizes p = p.sew ∷ p.factor ∷ p.m ∷ p.k ∷ p.n ∷ []

-- what reading a text leaves in a buffer
abbrev pub read_into : List ℕ → List ℕ → List ℕ
read_into t out = cond (leb (length t) 8192) (put_front (front t) out) out

-- the elements of A and then of B, as the code holds them, stand in out from 5 on
abbrev pub ElementsIn : Option Problem → List ℕ → Type 0
ElementsIn none out = Unit
ElementsIn (some p) out = map held (p.a ++ p.b) ≡ take (p.m * p.k + p.k * p.n) (drop 5 out)
