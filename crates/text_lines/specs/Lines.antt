-- 01, the program `product`: the lines that it writes. A text is its bytes, and a line ends with a line feed.
use Rattle.std.specs.Prelude.{◌∷◌, ◌++◌, ◌+◌, ◌/◌, ◌%◌}
use Rattle.numbers.specs.Kit.{cond, List, [], ℕ, zero, suc, ltb, ℤ, pos, negsuc, Err}
use Rattle.machine.specs.declared.Refusal.TheVariants.{BadArguments}
use Rattle.machine.specs.Answers.{number, Done}

-- ---- a number in decimal

-- the digits of n, without leading zeros, by at most f divisions by 10
abbrev pub digits_of : ℕ → ℕ → List ℕ
digits_of zero n = (48 + n % 10) ∷ []
digits_of (suc f) n = cond (ltb n 10) [] (digits_of f (n / 10)) ++ ((48 + n % 10) ∷ [])

unfoldable pub decimal : ℕ → List ℕ
decimal n = digits_of n n

-- "signed": with a minus before it where it is below 0
abbrev pub number_text : ℤ → List ℕ
number_text (pos n) = decimal n
number_text (negsuc n) = 45 ∷ decimal (suc n)

-- ---- "then a line for each row of C, signed, one space between (an empty line where n is 0)"

-- numbers, each with a space before it
abbrev pub further_numbers : List ℤ → List ℕ
further_numbers [] = []
further_numbers (z ∷ zs) = 32 ∷ (number_text z ++ further_numbers zs)

-- numbers with one space between
abbrev pub spaced : List ℤ → List ℕ
spaced [] = []
spaced (z ∷ zs) = number_text z ++ further_numbers zs

abbrev pub lines : List (List ℤ) → List ℕ
lines [] = []
lines (row ∷ rows) = spaced row ++ (10 ∷ lines rows)

-- ---- the whole text

-- the bytes of `answer ` and of ` steps `
abbrev pub answer_word : List ℕ
answer_word = 97 ∷ 110 ∷ 115 ∷ 119 ∷ 101 ∷ 114 ∷ 32 ∷ []

abbrev pub steps_word : List ℕ
steps_word = 32 ∷ 115 ∷ 116 ∷ 101 ∷ 112 ∷ 115 ∷ 32 ∷ []

-- "It writes `answer` with the number and `steps` with the count"
abbrev pub first_line : ℕ → ℕ → List ℕ
first_line answer steps = answer_word ++ (decimal answer ++ (steps_word ++ (decimal steps ++ (10 ∷ []))))

-- 0, the count, and the rows of C
abbrev pub accepted : ℕ → List (List ℤ) → List ℕ
accepted count rows = first_line (number Done) count ++ lines rows

-- "the line `answer 8 steps 0` alone"
abbrev pub refused : List ℕ
refused = first_line (number (Err BadArguments)) 0
