-- 02, Fourteen: reading a line. "Refusals: 17 with the column, from 1, of the first character at which no accepted line .. can go on
-- (one past the end if cut short)". Places count from 0 here: the column is the place and one more.
use Rattle.std.specs.Prelude.{◌&&◌, ◌∷◌, ◌+◌, ◌*◌, ◌-◌}
use Rattle.numbers.specs.Kit.{Bool, cond, List, [], ℕ, suc, max, ltb, leb, eqb, drop}
use Rattle.machine.specs.Listing.{Fixed, Row, listing}
use Rattle.numbers_format.specs.Parser.{Got, Parsed, later}
use Rattle.numbers_format.specs.Parser.Got.{value, fault}
use Rattle.numbers_format.specs.Parser.Parsed.{whole, stopped}
use Rattle.text_assembly.specs.Lines.{Operand, Piece, below, wide, small, letter, operand, pieces, word_with}

-- ---- decimal numbers without leading zeros

abbrev pub is_digit : ℕ → Bool
is_digit b = leb 48 b && leb b 57

-- v goes on with the digit b
abbrev pub goes_on : (most v b : ℕ) → Bool
goes_on most v b = is_digit b && (ltb 0 v && leb (10 * v + (b - 48)) most)

-- the same, behind one byte
abbrev pub one_more : Got → Got
one_more (value n l) = value n (suc l)
one_more (fault p) = fault (suc p)

-- v, and the digits of s that go on with it: the number, and how many bytes it took
abbrev pub digits_on : (most v : ℕ) → List ℕ → Got
digits_on most v [] = value v 0
digits_on most v (b ∷ s) = cond (goes_on most v b) (one_more (digits_on most (10 * v + (b - 48)) s)) (value v 0)

-- b begins a number from least to most
abbrev pub is_first : (least most b : ℕ) → Bool
is_first least most b = is_digit b && (leb least (b - 48) && leb (b - 48) most)

-- the number at the front of s: the longest that is not above most; least is 0 or 1
abbrev pub read_decimal : (least most : ℕ) → List ℕ → Got
read_decimal least most [] = fault 0
read_decimal least most (b ∷ s) =
    cond (is_first least most b) (one_more (digits_on most (b - 48) s)) (fault 0)

abbrev pub negative : Got → Got
negative (value n l) = value (32 - n) (suc l)
negative (fault p) = fault (suc p)

abbrev pub read_operand : Operand → List ℕ → Got
read_operand (below n) s = read_decimal 0 (n - 1) s
read_operand wide s = read_decimal 0 8191 s
read_operand small [] = fault 0
read_operand small (b ∷ s) = cond (eqb b 45) (negative (read_decimal 1 16 s)) (read_decimal 0 15 (b ∷ s))

-- ---- the line of a row

abbrev pub with_first : ℕ → Parsed (List ℕ) → Parsed (List ℕ)
with_first v (whole vs) = whole (v ∷ vs)
with_first v (stopped p) = stopped p

-- the values with which s is the row's text, or the place at which it is not
abbrev pub read_pieces : List Piece → List ℕ → Parsed (List ℕ)
read_pieces [] [] = whole []
read_pieces [] (b ∷ s) = stopped 0
read_pieces (letter c ∷ ps) [] = stopped 0
read_pieces (letter c ∷ ps) (b ∷ s) = cond (eqb b c) (later 1 (read_pieces ps s)) (stopped 0)
read_pieces (operand o ∷ ps) s = elim (read_operand o s) [ value v l ↦ with_first v (later l (read_pieces ps (drop l s))) | fault p ↦ stopped p ]

-- ---- a line: the word of the row whose text it is, or the last of the rows' places

abbrev pub as_word : List Fixed → Parsed (List ℕ) → Parsed ℕ
as_word fs (whole vs) = whole (word_with fs vs)
as_word fs (stopped p) = stopped p

abbrev pub either : Parsed ℕ → Parsed ℕ → Parsed ℕ
either (whole w) r = whole w
either (stopped p) (whole w) = whole w
either (stopped p) (stopped q) = stopped (max p q)

abbrev pub read_in : List Row → List ℕ → Parsed ℕ
read_in [] s = stopped 0
read_in (r ∷ rs) s = either (as_word r.code.fixed (read_pieces (pieces r.text) s)) (read_in rs s)

unfoldable pub read_line : List ℕ → Parsed ℕ
read_line s = read_in listing s
