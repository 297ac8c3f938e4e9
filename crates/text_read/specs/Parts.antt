-- Reading at a place, as code does it.
use Rattle.std.specs.Prelude.{Bool, false, cond, ◌||◌, Option, Some, None, Result, Ok, Err, List, [], ◌∷◌, ℕ, zero, suc, ◌+◌, ◌*◌, ◌≤◌, eqb, length, drop}
use Rattle.numbers_format.specs.Parser.{Parsed}
use Rattle.numbers_format.specs.Parser.Parsed.{whole, stopped}
use Rattle.numbers_format.specs.Parser.{Got}
use Rattle.numbers_format.specs.Parser.Got.{value, fault}
use Rattle.machine.specs.Listing.{Row}
use Rattle.text_assembly.specs.Lines as Lines
use Rattle.text_assembly.specs.Lines.{below, wide, small, is_mark, operand_of, pieces}
use Rattle.text_assembly.specs.Reading.{read_operand, read_pieces, as_word}
use Rattle.text_read.specs.declared.Number.{Number}
use Rattle.text_read.specs.declared.Fault.{Fault}
use Rattle.text_read.specs.declared.Operand.{Operand}
use Rattle.text_read.specs.declared.Operand.TheVariants.{Register, Tile, Accumulator, Immediate, SignedImmediate}
use Rattle.text_read.specs.declared.Progress.{Progress}

abbrev pub fault_at : ℕ → Fault
fault_at p = record { place = p }

-- what was found from a place on
abbrev pub found : (n next : ℕ) → Number
found n next = record { value = n; next = next }

abbrev pub got_from : ℕ → Got → Result Number Fault
got_from at (value n l) = Ok (found n (at + l))
got_from at (fault p) = Err (fault_at (at + p))

abbrev pub as_line : Parsed ℕ → Result ℕ Fault
as_line (whole w) = Ok w
as_line (stopped p) = Err (fault_at p)

-- the operand for which a letter stands
abbrev pub meant_by : Operand → Lines.Operand
meant_by Register = below 32
meant_by Tile = below 8
meant_by Accumulator = below 2
meant_by Immediate = wide
meant_by SignedImmediate = small

abbrev pub operand_in : ℕ → Option Operand
operand_in c =
    cond (eqb c 88) (Some Register) (cond (eqb c 84) (Some Tile) (cond (eqb c 65) (Some Accumulator) (cond (eqb c 73) (Some Immediate) (cond (eqb c 83) (Some SignedImmediate) None))))

-- the first operand is placed 7 bits up, the second 15, the third 20
abbrev pub next_scale : ℕ → ℕ
next_scale scale = cond (eqb scale 128) 32768 (cond (eqb scale 32768) 0x10_0000 0)

abbrev pub end_at : List ℕ → ℕ → ℕ → Parsed ℕ
end_at [] j w = whole w
end_at (b ∷ s) j w = stopped j

-- what follows an operand that was read, and a letter
abbrev pub onward : Got → ℕ → (ℕ → ℕ → Parsed ℕ) → Parsed ℕ
onward (value v l) j k = k v l
onward (fault p) j k = stopped (j + p)

abbrev pub past_letter : ℕ → List ℕ → ℕ → (List ℕ → Parsed ℕ) → Parsed ℕ
past_letter c [] j k = stopped j
past_letter c (b ∷ s) j k = cond (eqb b c) (k s) (stopped j)

-- the rest of a line along the rest of a row's text: from place j of the line, with the next operand's place and what is known of the word
abbrev pub row_from : List ℕ → List ℕ → (j scale w : ℕ) → Parsed ℕ
row_from [] s j scale w = end_at s j w
row_from (c ∷ t) s j scale w =
    cond (is_mark c)
    (onward (read_operand (operand_of c) s) j (λ v l. row_from t (drop l s) (j + l) (next_scale scale) (w + v * scale)))
    (past_letter c s j (λ r. row_from t r (j + 1) scale w))

-- the rest, after a letter
abbrev pub go_on : List ℕ → List ℕ → Result Progress Fault → Parsed ℕ
go_on t s (Ok p) = row_from t (drop p.at s) p.at p.scale p.word
go_on t s (Err e) = stopped e.place

abbrev pub Bounded : List ℕ → ℕ → Result Progress Fault → Type 0
Bounded s word (Ok p) = (p.at ≤ length s) × (p.scale ≤ 0x10_0000) × (p.word ≤ word + 0x2_0000_0000)
Bounded s word (Err e) = Unit {0}

-- how many bytes stand before the first line feed
abbrev pub feed_at : List ℕ → ℕ
feed_at [] = 0
feed_at (c ∷ t) = cond (eqb c 10) 0 (suc (feed_at t))

-- a line along a row
abbrev pub read_row : Row → List ℕ → Parsed ℕ
read_row r s = as_word r.code.fixed (read_pieces (pieces r.text) s)

-- one of the first n bytes is a space
abbrev pub space_in : ℕ → List ℕ → Bool
space_in zero s = false
space_in (suc n) [] = false
space_in (suc n) (b ∷ s) = eqb b 32 || space_in n s
