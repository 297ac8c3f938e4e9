-- The decode table, and when it agrees with the listing.
use Rattle.std.specs.Prelude.{◌≡◌, Bool, true, cond, ◌&&◌, ◌||◌, List, [], ◌∷◌, ℕ, suc, ◌+◌, ◌*◌, ◌^◌, get_or, replicate, eqb, leb}
use Rattle.machine.specs.declared.Form.{Form}
use Rattle.machine.specs.declared.Form.TheVariants.{Plain, Transposed}
use Rattle.machine.specs.declared.Wrong.TheVariants.{LeftOut, Unlisted}
use Rattle.machine.specs.declared.Instruction.{Instruction}
use Rattle.machine.specs.declared.Instruction.TheVariants.{Illegal}
use Rattle.machine.specs.Tests.{is_in}
use Rattle.machine.specs.Listing.{bits, field20, Code, Row, has, listing, others, ranged, decode}

-- ---- the table

abbrev none : List (List ℕ)
none = replicate 8 (replicate 8 0)

-- a block for each value of bits 31..28, in it a row for each of bits 27..25, and in that an entry for each of bits 14..12
unfoldable pub numbers : List (List (List ℕ))
numbers =
    ((17 ∷ 18 ∷ 19 ∷ 20 ∷ 0 ∷ 229 ∷ 33 ∷ 1 ∷ [])  -- 0000 000
    ∷ (29 ∷ 30 ∷ 31 ∷ 32 ∷ 0 ∷ 230 ∷ 34 ∷ 1 ∷ [])  -- 0000 001
    ∷ (9 ∷ 10 ∷ 11 ∷ 12 ∷ 0 ∷ 0 ∷ 35 ∷ 1 ∷ [])  -- 0000 010
    ∷ (21 ∷ 22 ∷ 23 ∷ 24 ∷ 0 ∷ 0 ∷ 36 ∷ 1 ∷ [])  -- 0000 011
    ∷ (13 ∷ 14 ∷ 15 ∷ 16 ∷ 0 ∷ 0 ∷ 37 ∷ 1 ∷ [])  -- 0000 100
    ∷ (25 ∷ 26 ∷ 27 ∷ 28 ∷ 0 ∷ 0 ∷ 0 ∷ 1 ∷ [])  -- 0000 101
    ∷ (0 ∷ 0 ∷ 0 ∷ 0 ∷ 0 ∷ 0 ∷ 0 ∷ 1 ∷ [])  -- 0000 110
    ∷ (0 ∷ 0 ∷ 0 ∷ 0 ∷ 0 ∷ 0 ∷ 0 ∷ 1 ∷ [])  -- 0000 111
    ∷ [])
    ∷ ((117 ∷ 118 ∷ 119 ∷ 120 ∷ 0 ∷ 235 ∷ 38 ∷ 2 ∷ [])  -- 0001 000
    ∷ (129 ∷ 130 ∷ 131 ∷ 132 ∷ 0 ∷ 236 ∷ 39 ∷ 0 ∷ [])  -- 0001 001
    ∷ (109 ∷ 110 ∷ 111 ∷ 112 ∷ 0 ∷ 0 ∷ 40 ∷ 0 ∷ [])  -- 0001 010
    ∷ (121 ∷ 122 ∷ 123 ∷ 124 ∷ 0 ∷ 0 ∷ 41 ∷ 0 ∷ [])  -- 0001 011
    ∷ (113 ∷ 114 ∷ 115 ∷ 116 ∷ 0 ∷ 0 ∷ 42 ∷ 0 ∷ [])  -- 0001 100
    ∷ (125 ∷ 126 ∷ 127 ∷ 128 ∷ 0 ∷ 0 ∷ 0 ∷ 0 ∷ [])  -- 0001 101
    ∷ (0 ∷ 0 ∷ 0 ∷ 0 ∷ 0 ∷ 0 ∷ 43 ∷ 0 ∷ [])  -- 0001 110
    ∷ (0 ∷ 0 ∷ 0 ∷ 0 ∷ 0 ∷ 0 ∷ 44 ∷ 0 ∷ [])  -- 0001 111
    ∷ [])
    ∷ ((0 ∷ 0 ∷ 0 ∷ 0 ∷ 0 ∷ 0 ∷ 45 ∷ 3 ∷ [])  -- 0010 000
    ∷ (0 ∷ 0 ∷ 0 ∷ 0 ∷ 0 ∷ 0 ∷ 46 ∷ 3 ∷ [])  -- 0010 001
    ∷ (0 ∷ 0 ∷ 0 ∷ 0 ∷ 0 ∷ 0 ∷ 47 ∷ 3 ∷ [])  -- 0010 010
    ∷ (0 ∷ 0 ∷ 0 ∷ 0 ∷ 0 ∷ 0 ∷ 0 ∷ 3 ∷ [])  -- 0010 011
    ∷ (0 ∷ 0 ∷ 0 ∷ 0 ∷ 0 ∷ 0 ∷ 48 ∷ 3 ∷ [])  -- 0010 100
    ∷ (0 ∷ 0 ∷ 0 ∷ 0 ∷ 0 ∷ 0 ∷ 49 ∷ 3 ∷ [])  -- 0010 101
    ∷ (0 ∷ 0 ∷ 0 ∷ 0 ∷ 0 ∷ 0 ∷ 50 ∷ 3 ∷ [])  -- 0010 110
    ∷ (0 ∷ 0 ∷ 0 ∷ 0 ∷ 0 ∷ 0 ∷ 51 ∷ 3 ∷ [])  -- 0010 111
    ∷ [])
    ∷ ((0 ∷ 0 ∷ 0 ∷ 0 ∷ 0 ∷ 0 ∷ 52 ∷ 4 ∷ [])  -- 0011 000
    ∷ (0 ∷ 0 ∷ 0 ∷ 0 ∷ 0 ∷ 0 ∷ 0 ∷ 0 ∷ [])  -- 0011 001
    ∷ (0 ∷ 0 ∷ 0 ∷ 0 ∷ 0 ∷ 0 ∷ 53 ∷ 0 ∷ [])  -- 0011 010
    ∷ (0 ∷ 0 ∷ 0 ∷ 0 ∷ 0 ∷ 0 ∷ 54 ∷ 0 ∷ [])  -- 0011 011
    ∷ (0 ∷ 0 ∷ 0 ∷ 0 ∷ 0 ∷ 0 ∷ 55 ∷ 0 ∷ [])  -- 0011 100
    ∷ (0 ∷ 0 ∷ 0 ∷ 0 ∷ 0 ∷ 0 ∷ 56 ∷ 0 ∷ [])  -- 0011 101
    ∷ (0 ∷ 0 ∷ 0 ∷ 0 ∷ 0 ∷ 0 ∷ 57 ∷ 0 ∷ [])  -- 0011 110
    ∷ (0 ∷ 0 ∷ 0 ∷ 0 ∷ 0 ∷ 0 ∷ 0 ∷ 0 ∷ [])  -- 0011 111
    ∷ [])
    ∷ ((0 ∷ 0 ∷ 0 ∷ 0 ∷ 0 ∷ 0 ∷ 58 ∷ 5 ∷ [])  -- 0100 000
    ∷ (0 ∷ 0 ∷ 0 ∷ 0 ∷ 0 ∷ 0 ∷ 0 ∷ 5 ∷ [])  -- 0100 001
    ∷ (0 ∷ 0 ∷ 0 ∷ 0 ∷ 0 ∷ 0 ∷ 59 ∷ 5 ∷ [])  -- 0100 010
    ∷ (0 ∷ 0 ∷ 0 ∷ 0 ∷ 0 ∷ 0 ∷ 0 ∷ 5 ∷ [])  -- 0100 011
    ∷ (0 ∷ 0 ∷ 0 ∷ 0 ∷ 0 ∷ 0 ∷ 60 ∷ 5 ∷ [])  -- 0100 100
    ∷ (0 ∷ 0 ∷ 0 ∷ 0 ∷ 0 ∷ 0 ∷ 0 ∷ 5 ∷ [])  -- 0100 101
    ∷ (0 ∷ 0 ∷ 0 ∷ 0 ∷ 0 ∷ 0 ∷ 0 ∷ 5 ∷ [])  -- 0100 110
    ∷ (0 ∷ 0 ∷ 0 ∷ 0 ∷ 0 ∷ 0 ∷ 0 ∷ 5 ∷ [])  -- 0100 111
    ∷ [])
    ∷ ((0 ∷ 0 ∷ 0 ∷ 0 ∷ 0 ∷ 0 ∷ 0 ∷ 6 ∷ [])  -- 0101 000
    ∷ (0 ∷ 0 ∷ 0 ∷ 0 ∷ 0 ∷ 0 ∷ 0 ∷ 0 ∷ [])  -- 0101 001
    ∷ (0 ∷ 0 ∷ 0 ∷ 0 ∷ 0 ∷ 0 ∷ 0 ∷ 0 ∷ [])  -- 0101 010
    ∷ (0 ∷ 0 ∷ 0 ∷ 0 ∷ 0 ∷ 0 ∷ 0 ∷ 0 ∷ [])  -- 0101 011
    ∷ (0 ∷ 0 ∷ 0 ∷ 0 ∷ 0 ∷ 0 ∷ 0 ∷ 0 ∷ [])  -- 0101 100
    ∷ (0 ∷ 0 ∷ 0 ∷ 0 ∷ 0 ∷ 0 ∷ 0 ∷ 0 ∷ [])  -- 0101 101
    ∷ (0 ∷ 0 ∷ 0 ∷ 0 ∷ 0 ∷ 0 ∷ 0 ∷ 0 ∷ [])  -- 0101 110
    ∷ (0 ∷ 0 ∷ 0 ∷ 0 ∷ 0 ∷ 0 ∷ 0 ∷ 0 ∷ [])  -- 0101 111
    ∷ [])
    ∷ ((0 ∷ 0 ∷ 0 ∷ 0 ∷ 0 ∷ 0 ∷ 62 ∷ 7 ∷ [])  -- 0110 000
    ∷ (0 ∷ 0 ∷ 0 ∷ 0 ∷ 0 ∷ 0 ∷ 61 ∷ 7 ∷ [])  -- 0110 001
    ∷ (0 ∷ 0 ∷ 0 ∷ 0 ∷ 0 ∷ 0 ∷ 0 ∷ 7 ∷ [])  -- 0110 010
    ∷ (0 ∷ 0 ∷ 0 ∷ 0 ∷ 0 ∷ 0 ∷ 0 ∷ 7 ∷ [])  -- 0110 011
    ∷ (0 ∷ 0 ∷ 0 ∷ 0 ∷ 0 ∷ 0 ∷ 64 ∷ 7 ∷ [])  -- 0110 100
    ∷ (0 ∷ 0 ∷ 0 ∷ 0 ∷ 0 ∷ 0 ∷ 63 ∷ 7 ∷ [])  -- 0110 101
    ∷ (0 ∷ 0 ∷ 0 ∷ 0 ∷ 0 ∷ 0 ∷ 66 ∷ 7 ∷ [])  -- 0110 110
    ∷ (0 ∷ 0 ∷ 0 ∷ 0 ∷ 0 ∷ 0 ∷ 65 ∷ 7 ∷ [])  -- 0110 111
    ∷ [])
    ∷ ((0 ∷ 0 ∷ 0 ∷ 0 ∷ 0 ∷ 0 ∷ 68 ∷ 8 ∷ [])  -- 0111 000
    ∷ (0 ∷ 0 ∷ 0 ∷ 0 ∷ 0 ∷ 0 ∷ 67 ∷ 0 ∷ [])  -- 0111 001
    ∷ (0 ∷ 0 ∷ 0 ∷ 0 ∷ 0 ∷ 0 ∷ 70 ∷ 0 ∷ [])  -- 0111 010
    ∷ (0 ∷ 0 ∷ 0 ∷ 0 ∷ 0 ∷ 0 ∷ 69 ∷ 0 ∷ [])  -- 0111 011
    ∷ (0 ∷ 0 ∷ 0 ∷ 0 ∷ 0 ∷ 0 ∷ 72 ∷ 0 ∷ [])  -- 0111 100
    ∷ (0 ∷ 0 ∷ 0 ∷ 0 ∷ 0 ∷ 0 ∷ 71 ∷ 0 ∷ [])  -- 0111 101
    ∷ (0 ∷ 0 ∷ 0 ∷ 0 ∷ 0 ∷ 0 ∷ 74 ∷ 0 ∷ [])  -- 0111 110
    ∷ (0 ∷ 0 ∷ 0 ∷ 0 ∷ 0 ∷ 0 ∷ 73 ∷ 0 ∷ [])  -- 0111 111
    ∷ [])
    ∷ none ∷ none ∷ none ∷ none ∷ none ∷ none ∷ none ∷ none ∷ []

-- "what other bits decide is tested beside it": settings with rs1, adds and subtracts (float ones too), and conversions fix bits
-- 24..20 at zero
unfoldable pub fixes_zero : ℕ → Bool
fixes_zero number = is_in number (2 ∷ 4 ∷ 6 ∷ 8 ∷ []) || ((leb 38 number && leb number 52) || (leb 61 number && leb number 74))

-- ---- agreement with the listing

-- the number of the first entry of section 4.5 whose bits a word has, or 0
abbrev pub number_among : ℕ → List Code → ℕ
number_among word [] = 0
number_among word (c ∷ cs) = cond (has word c.fixed) c.number (number_among word cs)

abbrev pub number_in : ℕ → List Row → ℕ
number_in word [] = number_among word others
number_in word (r ∷ rs) = cond (has word r.code.fixed) r.code.number (number_in word rs)

-- a word with these bits 31..25, 24..20 and 14..12
abbrev pub sample : (code rest form : ℕ) → ℕ
sample code rest form = code * 2 ^ 25 + rest * 2 ^ 20 + form * 2 ^ 12

-- n is the number of a word with these bits 31..25 and 14..12 and zeros in bits 24..20; and of one with 00001 there, unless its
-- entry fixes zeros (`TableDecodes` lifts this to every value)
abbrev pub agrees : (code form n : ℕ) → Bool
agrees code form n = eqb (number_in (sample code 0 form) listing) n && eqb (number_in (sample code 1 form) listing) (cond (fixes_zero n) 0 n)

-- and so each entry of a row, of a block, and of the table
abbrev pub row_agrees : (code form : ℕ) → List ℕ → Bool
row_agrees code form [] = eqb form 8
row_agrees code form (n ∷ ns) = agrees code form n && row_agrees code (suc form) ns

abbrev pub block_agrees : (high middle : ℕ) → List (List ℕ) → Bool
block_agrees high middle [] = eqb middle 8
block_agrees high middle (r ∷ rs) = row_agrees (high * 8 + middle) 0 r && block_agrees high (suc middle) rs

abbrev pub table_agrees : ℕ → List (List (List ℕ)) → Bool
table_agrees high [] = eqb high 16
table_agrees high (b ∷ bs) = block_agrees high 0 b && table_agrees (suc high) bs

-- the computed test: every one of the 1,024 entries agrees
abbrev pub TableAgrees : Type 0
TableAgrees = table_agrees 0 numbers ≡ true

-- ---- how a word is read by the table

-- its entry
abbrev pub entry_of : ℕ → ℕ
entry_of word = get_or (get_or (get_or numbers (bits 31 28 word) []) (bits 27 25 word) []) (bits 14 12 word) 0

-- bits 24..20 are what the entry with this number fixes
abbrev pub rest_right : (number word : ℕ) → Bool
rest_right number word = cond (fixes_zero number) (eqb (field20 word) 0) true

-- the instruction of our entry with this number; else the word is left out, or has no number
abbrev pub meant : (number word : ℕ) → List Row → Instruction
meant number word [] = Illegal (cond (eqb number 0) Unlisted LeftOut)
meant number word (r ∷ rs) = cond (eqb number r.code.number) (r.means word) (meant number word rs)

-- the number of a load or store: a transposed one has 100 added
abbrev pub numbered : Form → ℕ → ℕ
numbered Plain number = number
numbered Transposed number = 100 + number

-- the table decodes every word as the listing does
abbrev pub TableDecodes : Type 0
TableDecodes = (word : ℕ) → bits 6 0 word ≡ 0b1110111
    → cond (rest_right (entry_of word) word) (ranged (meant (entry_of word) word listing)) (Illegal Unlisted) ≡ decode word
