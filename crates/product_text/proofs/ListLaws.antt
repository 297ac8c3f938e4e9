-- The rest of a list, and a part of its front.
use Rattle.numbers.proofs.Kit.{◌≡◌, sym, List, [], ◌∷◌, ℕ, zero, suc, ◌+◌, ◌-◌, zero-add, suc-add, arith, length, take, drop, length-drop, take_all}
use Rattle.numbers.proofs.Kit.{take-nil}

-- as code lends it: `&xs[i..]`
pub rest_of : (i : ℕ) (xs : List ℕ) → take (length xs - i) (drop i xs) ≡ drop i xs
rest_of i xs = take_all (length xs - i) (drop i xs) (simp length-drop (omega arith))

pub drop-take : (i j : ℕ) (l : List ℕ) → drop i (take (i + j) l) ≡ take j (drop i l)
drop-take zero j l = rw zero-add
drop-take (suc i) j [] = rw suc-add (sym (take-nil j))
drop-take (suc i) j (x ∷ l) = rw suc-add (drop-take i j l)
