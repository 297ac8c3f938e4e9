-- What the contracts of writers name; a reader of Lines.antt need not read it.
use Rattle.std.specs.Prelude.{◌≡◌, ◌∷◌, ◌++◌, ◌+◌}
use Rattle.numbers.specs.Kit.{List, [], map, ℕ, zero, suc, length, take, drop, ℤ}
use Rattle.numbers.specs.Reduce.{signed}

-- a writer went from at to next: what stood before at stands, t follows it, and what stands after t is as it was
pub record Wrote (entry : List ℕ) (at : ℕ) (exit : List ℕ) (next : ℕ) (t : List ℕ) : Type 0 where
  pub to : next ≡ at + length t
  pub same : length exit ≡ length entry
  pub text : take next exit ≡ take at entry ++ t
  pub rest : drop next exit ≡ drop next entry

-- the signed numbers that the residues xs stand for, at the modulus q
abbrev pub signed_all : ℕ → List ℕ → List ℤ
signed_all q xs = map (signed q) xs

-- the rows of a matrix that stands row by row
abbrev pub rows_of : ℕ → ℕ → List ℤ → List (List ℤ)
rows_of zero cols zs = []
rows_of (suc rows) cols zs = take cols zs ∷ rows_of rows cols (drop cols zs)
