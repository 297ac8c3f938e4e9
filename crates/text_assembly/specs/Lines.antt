-- 02, Fourteen: the line of a word. "Every word of all families so far that some machine accepts has exactly one line, lower case, one
-- space after the mnemonic, a comma and a space between operands."
use Rattle.std.specs.Prelude.{◌&&◌, ◌∷◌, ◌++◌, ◌+◌, ◌*◌, ◌-◌, ◌^◌}
use Rattle.numbers.specs.Kit.{Bool, true, false, cond, List, [], map, Option, none, some, ℕ, zero, suc, ltb, eqb, get_or}
use Prim.Native.String.{String}
use Rattle.machine.specs.Tests.{is_in}
use Rattle.machine.specs.Listing.{bits, field7, field15, field20, immediate13, Fixed, Row, has, listing}
use Rattle.text_lines.specs.Lines.{decimal}
use Rattle.text_assembly.specs.Bytes.{bytes}

-- ---- operands

-- the number of a register or an immediate that is below so many; the 13-bit immediate; the five-bit immediate, which is signed
pub data Operand : Type 0 where
  below : ℕ → Operand
  wide : Operand
  small : Operand

-- how many values its field may have
abbrev pub operand_count : Operand → ℕ
operand_count (below n) = n
operand_count wide = 8192
operand_count small = 32

-- "plain decimal immediates": the text of a field's value
abbrev pub shown : Operand → ℕ → List ℕ
shown (below n) v = decimal v
shown wide v = decimal v
shown small v = cond (ltb v 16) (decimal v) (45 ∷ decimal (32 - v))

-- ---- the pieces of a row's text: letters as they are, and operands

pub data Piece : Type 0 where
  letter : ℕ → Piece
  operand : Operand → Piece

-- X, T, A, I and S
abbrev pub is_mark : ℕ → Bool
is_mark c = is_in c (88 ∷ 84 ∷ 65 ∷ 73 ∷ 83 ∷ [])

abbrev pub operand_of : ℕ → Operand
operand_of c = cond (eqb c 88) (below 32) (cond (eqb c 84) (below 8) (cond (eqb c 65) (below 2) (cond (eqb c 73) wide small)))

abbrev pub piece_of : ℕ → Piece
piece_of c = cond (is_mark c) (operand (operand_of c)) (letter c)

abbrev pub pieces : String → List Piece
pieces t = map piece_of (bytes t)

abbrev pub operands_in : List Piece → List Operand
operands_in [] = []
operands_in (letter c ∷ ps) = operands_in ps
operands_in (operand o ∷ ps) = o ∷ operands_in ps

-- the text with these values
abbrev pub fill : List Piece → List ℕ → List ℕ
fill [] vs = []
fill (letter c ∷ ps) vs = c ∷ fill ps vs
fill (operand o ∷ ps) [] = []
fill (operand o ∷ ps) (v ∷ vs) = shown o v ++ fill ps vs

-- ---- the line of a word

-- operands stand in the order of their fields: bits 11..7, then 19..15, then 24..20; the 13-bit immediate has bits 27..15
abbrev pub field_at : ℕ → Operand → ℕ → ℕ
field_at i wide word = immediate13 word
field_at zero (below n) word = field7 word
field_at zero small word = field7 word
field_at (suc zero) (below n) word = field15 word
field_at (suc zero) small word = field15 word
field_at (suc (suc i)) (below n) word = field20 word
field_at (suc (suc i)) small word = field20 word

abbrev pub fields_from : ℕ → List Operand → ℕ → List ℕ
fields_from i [] word = []
fields_from i (o ∷ os) word = field_at i o word ∷ fields_from (suc i) os word

abbrev pub fields_of : List Piece → ℕ → List ℕ
fields_of ps word = fields_from 0 (operands_in ps) word

-- each field holds a value that it may have
abbrev pub in_operands : List Operand → List ℕ → Bool
in_operands [] vs = true
in_operands (o ∷ os) [] = false
in_operands (o ∷ os) (v ∷ vs) = ltb v (operand_count o) && in_operands os vs

abbrev pub line_by : List Piece → ℕ → Option (List ℕ)
line_by ps word = cond (in_operands (operands_in ps) (fields_of ps word)) (some (fill ps (fields_of ps word))) none

-- by the first row whose bits the word has
abbrev pub line_in : ℕ → List Row → Option (List ℕ)
line_in word [] = none
line_in word (r ∷ rs) = cond (has word r.code.fixed) (line_by (pieces r.text) word) (line_in word rs)

unfoldable pub line : ℕ → Option (List ℕ)
line word = cond (eqb (bits 6 0 word) 0b1110111) (line_in word listing) none

-- ---- the word of a row with these values

-- the bits that the row fixes
abbrev pub fixed_sum : List Fixed → ℕ
fixed_sum [] = 0
fixed_sum (f ∷ fs) = f.value * 2 ^ f.low + fixed_sum fs

abbrev pub word_with : List Fixed → List ℕ → ℕ
word_with fs vs = 0b1110111 + fixed_sum fs + get_or vs 0 0 * 2 ^ 7 + get_or vs 1 0 * 2 ^ 15 + get_or vs 2 0 * 2 ^ 20
