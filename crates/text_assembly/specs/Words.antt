-- 02, Fourteen: "lines of eight lower-case hexadecimal digits".
use Rattle.std.specs.Prelude.{◌&&◌, ◌||◌, ◌∷◌, ◌+◌, ◌*◌, ◌-◌, ◌/◌, ◌%◌, ◌^◌}
use Rattle.numbers.specs.Kit.{Bool, cond, List, [], ℕ, zero, suc, ltb, leb}
use Rattle.numbers_format.specs.Parser.{Parsed, later}
use Rattle.numbers_format.specs.Parser.Parsed.{whole, stopped}

-- 0 to 9 and a to f
abbrev pub hex_of : ℕ → ℕ
hex_of d = cond (ltb d 10) (48 + d) (87 + d)

-- n digits of w
abbrev pub hex_digits : ℕ → ℕ → List ℕ
hex_digits zero w = []
hex_digits (suc n) w = hex_of (w / 16 ^ n % 16) ∷ hex_digits n w

unfoldable pub word_text : ℕ → List ℕ
word_text w = hex_digits 8 w

-- ---- and back

abbrev pub is_hex : ℕ → Bool
is_hex b = (leb 48 b && leb b 57) || (leb 97 b && leb b 102)

abbrev pub hex_value : ℕ → ℕ
hex_value b = cond (leb b 57) (b - 48) (b - 87)

-- n digits after v
abbrev pub hex_from : (n v : ℕ) → List ℕ → Parsed ℕ
hex_from zero v [] = whole v
hex_from zero v (b ∷ s) = stopped 0
hex_from (suc n) v [] = stopped 0
hex_from (suc n) v (b ∷ s) = cond (is_hex b) (later 1 (hex_from n (16 * v + hex_value b) s)) (stopped 0)

unfoldable pub read_word : List ℕ → Parsed ℕ
read_word s = hex_from 8 0 s
