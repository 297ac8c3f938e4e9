-- 01, the program `product`: the numbers of a text. It "reads decimal numbers split by spaces or line ends". A text is its bytes.
use Rattle.std.specs.Prelude.{◌&&◌, ◌||◌, ◌∷◌, ◌++◌, ◌+◌, ◌*◌, ◌-◌}
use Rattle.numbers.specs.Kit.{Bool, cond, List, [], Option, none, some, Option·map, ℕ, eqb, leb, ℤ, pos, neg_ℤ}

-- ---- "split by spaces or line ends"

abbrev pub separator : ℕ → Bool
separator b = eqb b 32 || eqb b 10

-- a word before others, unless it is empty: "extra separators are allowed"
abbrev pub keep : List ℕ → List (List ℕ) → List (List ℕ)
keep [] ws = ws
keep (b ∷ w) ws = (b ∷ w) ∷ ws

-- the words of a text, where w is what was read of the first
abbrev pub words_from : List ℕ → List ℕ → List (List ℕ)
words_from w [] = keep w []
words_from w (b ∷ t) = cond (separator b) (keep w (words_from [] t)) (words_from (w ++ (b ∷ [])) t)

abbrev pub words : List ℕ → List (List ℕ)
words t = words_from [] t

-- ---- "A number is digits with at most one minus before them; leading zeros .. are allowed."

abbrev pub digit : ℕ → Bool
digit b = leb 48 b && leb b 57

-- the number whose digits are those of v and then these; none, if one of these is no digit
abbrev pub value_from : ℕ → List ℕ → Option ℕ
value_from v [] = some v
value_from v (d ∷ t) = cond (digit d) (value_from (10 * v + (d - 48)) t) none

-- one digit or more
abbrev pub natural : List ℕ → Option ℕ
natural [] = none
natural (d ∷ t) = value_from 0 (d ∷ t)

abbrev pub number : List ℕ → Option ℤ
number [] = none
number (b ∷ t) = cond (eqb b 45) (Option·map (λ n. neg_ℤ (pos n)) (natural t)) (Option·map pos (natural (b ∷ t)))

-- ---- the numbers of a text; none, if a word is no number

abbrev pub before : Option ℤ → Option (List ℤ) → Option (List ℤ)
before none zs = none
before (some z) zs = Option·map (λ l. z ∷ l) zs

abbrev pub numbers_of : List (List ℕ) → Option (List ℤ)
numbers_of [] = some []
numbers_of (w ∷ ws) = before (number w) (numbers_of ws)

abbrev pub numbers : List ℕ → Option (List ℤ)
numbers t = numbers_of (words t)
