-- The text of a word along a row's text, as code goes.
use Rattle.std.specs.Prelude.{Bool, true, false, cond, ◌&&◌, List, [], ◌∷◌, ◌++◌, ℕ, suc, ltb, leb, eqb, get_or}
use Rattle.std.proofs.Math.Option.{Option, none, some}
use Rattle.machine.specs.Listing.{field7, field15, field20, immediate13, Row}
use Rattle.text_assembly.specs.Lines.{Operand, below, wide, small, shown, is_mark, operand_of}
use Rattle.text_read.specs.Parts.{next_scale}

-- an operand's field, by its place in the word
abbrev pub narrow_by : ℕ → ℕ → ℕ
narrow_by scale word = cond (eqb scale 128) (field7 word) (cond (eqb scale 32768) (field15 word) (field20 word))

abbrev pub field_by : ℕ → Operand → ℕ → ℕ
field_by scale (below n) word = narrow_by scale word
field_by scale wide word = immediate13 word
field_by scale small word = narrow_by scale word

-- written with a minus
abbrev pub is_minus : Operand → ℕ → Bool
is_minus (below n) v = false
is_minus wide v = false
is_minus small v = leb 16 v

-- one letter of a row's text: what is written, and the place of the next operand
abbrev pub piece_text : (c scale word : ℕ) → List ℕ
piece_text c scale word = cond (is_mark c) (shown (operand_of c) (field_by scale (operand_of c) word)) (c ∷ [])

abbrev pub scale_after : (c scale : ℕ) → ℕ
scale_after c scale = cond (is_mark c) (next_scale scale) scale

-- a row's text, with the fields of a word
abbrev pub text_from : List ℕ → (scale word : ℕ) → List ℕ
text_from [] scale word = []
text_from (c ∷ t) scale word = piece_text c scale word ++ text_from t (scale_after c scale) word

-- what is written of a line
abbrev pub line_text : Option (List ℕ) → List ℕ
line_text none = []
line_text (some s) = s

-- the index has each row's place, from k on, at its number in the listing
abbrev pub finds : List ℕ → ℕ → List Row → Bool
finds index k [] = true
finds index k (r ∷ rs) = (ltb 0 r.code.number && eqb (get_or index r.code.number 0) k) && finds index (suc k) rs
