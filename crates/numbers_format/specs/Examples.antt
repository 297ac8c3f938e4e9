-- Computed examples of numbers in groups of seven bits.
use Rattle.std.specs.Prelude.{◌≡◌, refl, List, [], ◌∷◌, ℕ}
use Rattle.numbers_format.specs.Numbers.{groups, encode, span}
use Rattle.numbers_format.specs.Parser.{Got, read_number, is_among, nonempty}
use Rattle.numbers_format.specs.Parser.Got.{value, fault}

-- seven bits, one more, and fourteen
encoded : encode 0 ∷ encode 127 ∷ encode 128 ∷ encode 300 ∷ encode 16383 ∷ []
    ≡ (0 ∷ []) ∷ (127 ∷ []) ∷ (128 ∷ 1 ∷ []) ∷ (172 ∷ 2 ∷ []) ∷ (255 ∷ 127 ∷ []) ∷ []
unfolding groups encode
encoded = refl

abbrev read : List ℕ → Got
read = read_number (span 0 300)

-- 5 in its shortest form and in a longer one; 300, 301 (at fault in its second byte) and a number that only its second byte makes too large;
-- a number that is cut short
numbers : read (5 ∷ []) ∷ read (133 ∷ 0 ∷ []) ∷ read (172 ∷ 2 ∷ 9 ∷ []) ∷ read (173 ∷ 2 ∷ []) ∷ read (128 ∷ 3 ∷ []) ∷ read (128 ∷ 130 ∷ []) ∷ read (200 ∷ []) ∷ []
    ≡ value 5 1 ∷ fault 1 ∷ value 300 2 ∷ fault 1 ∷ fault 1 ∷ fault 1 ∷ fault 1 ∷ []
unfolding read_number is_among nonempty
numbers = refl
