-- 01, "The unit and its papers": the listing of section 4.5 of source document 000, as data, and the decoding of a word by
-- look-up in it: `listing` has our instructions, with the four of section 6.1.7 that 02, Eleven, adds, `others` the rest of section 4.5.
-- Ten rows, all ours, are damaged in our copy and read by symmetry: No. 1, 3, 5, 6, 7, 8, 15, 21, 22 and 31 (docs/DIFFERENCES.md, 1.2).
-- No code is given twice.
use Rattle.std.specs.Prelude.{◌&&◌, ◌||◌, ◌∷◌, ◌+◌, ◌-◌, ◌/◌, ◌%◌, ◌^◌}
use Rattle.numbers.specs.Kit.{Bool, true, false, cond, List, [], ℕ, ltb, eqb}
use Prim.Native.String.{String}
use Rattle.machine.specs.declared.Matrix.{Matrix}
use Rattle.machine.specs.declared.Matrix.TheVariants.{MatrixA, MatrixB, MatrixC}
use Rattle.machine.specs.declared.Dimension.TheVariants.{DimensionM, DimensionK, DimensionN}
use Rattle.machine.specs.declared.Form.{Form}
use Rattle.machine.specs.declared.Form.TheVariants.{Plain, Transposed}
use Rattle.machine.specs.declared.Factor.{Factor}
use Rattle.machine.specs.declared.Factor.TheVariants.{Single, Double, Quadruple}
use Rattle.machine.specs.declared.Sum.{Sum}
use Rattle.machine.specs.declared.Sum.TheVariants.{Add, Subtract, ReverseSubtract}
use Rattle.machine.specs.declared.Wrong.TheVariants.{Opcode, LeftOut, Unlisted, Register}
use Rattle.machine.specs.declared.Instruction.{Instruction}
use Rattle.machine.specs.declared.Instruction.TheVariants.{Illegal, SetTypeImmediate, SetType, SetTileImmediate, SetTile, Load, Store, Multiply, Combine, Scale, ScaleImmediate, FloatMultiply, MoveOut, MoveIn}
use Rattle.machine.specs.Tests.{every}
use Rattle.machine.specs.Geometry.{register_count}

-- ---- fields of a word

-- bits high..low
abbrev pub bits : ℕ → ℕ → ℕ → ℕ
bits high low word = word / 2 ^ low % 2 ^ (high - low + 1)

-- rd, md and ms3; rs1 and ms1; rs2, ms2 and the five-bit immediate; "the 13 unsigned bits 27..15"
abbrev pub field7 : ℕ → ℕ
field7 word = bits 11 7 word

abbrev pub field15 : ℕ → ℕ
field15 word = bits 19 15 word

abbrev pub field20 : ℕ → ℕ
field20 word = bits 24 20 word

abbrev pub immediate13 : ℕ → ℕ
immediate13 word = bits 27 15 word

-- ---- the listing

-- bits that the listing fixes
pub record Fixed : Type 0 where
  pub high : ℕ
  pub low : ℕ
  pub value : ℕ

-- an entry: its number in the listing (that of a transposed load or store, which is printed twice, with 100 added; that of section
-- 6.1.7 with 200 added), and the bits it fixes beside the opcode
pub record Code : Type 0 where
  pub number : ℕ
  pub fixed : List Fixed

-- an entry that is ours, its line (02, Fourteen: "the draft's mnemonics (mg printed there is mq)", "Operands stand as in the draft, the base in
-- brackets"), in which a capital letter stands for an operand's number (text_assembly/specs/Lines.antt: operand_of), and the instruction that a
-- word with its bits is
pub record Row : Type 0 where
  pub code : Code
  pub text : String
  pub means : ℕ → Instruction

abbrev fix : ℕ → ℕ → ℕ → Fixed
fix high low value = record { high = high; low = low; value = value }

abbrev entry : ℕ → List Fixed → Code
entry number fixed = record { number = number; fixed = fixed }

-- bits 14..12, 31..26 and 25; the second form has zeros in bits 24..20
abbrev coded : (number funct6 bit25 funct3 : ℕ) → Code
coded number funct6 bit25 funct3 = entry number (fix 14 12 funct3 ∷ fix 31 26 funct6 ∷ fix 25 25 bit25 ∷ [])

abbrev coded0 : (number funct6 bit25 funct3 : ℕ) → Code
coded0 number funct6 bit25 funct3 = entry number (fix 14 12 funct3 ∷ fix 31 26 funct6 ∷ fix 25 25 bit25 ∷ fix 24 20 0 ∷ [])

abbrev meaning : Code → String → (ℕ → Instruction) → Row
meaning code text means = record { code = code; text = text; means = means }

-- settings with an immediate: bits 14..12 and 31..28
abbrev setting_i : ℕ → String → (funct4 : ℕ) → (ℕ → Instruction) → Row
setting_i number text funct4 means = meaning (entry number (fix 14 12 0b111 ∷ fix 31 28 funct4 ∷ [])) text means

-- settings with rs1; "any bit of 27..20 set in a setting word that has an rs1 field" is refused
abbrev setting : ℕ → String → (funct4 : ℕ) → (ℕ → Instruction) → Row
setting number text funct4 means = meaning (entry number (fix 14 12 0b111 ∷ fix 31 28 funct4 ∷ fix 27 20 0 ∷ [])) text means

-- loads and stores
abbrev loading : ℕ → String → (funct6 eew : ℕ) → Form → Matrix → ℕ → Row
loading number text funct6 eew form matrix width = meaning (coded number funct6 0 eew) text (λ word. Load form matrix width (field7 word) (field15 word) (field20 word))

abbrev storing : ℕ → String → (funct6 eew : ℕ) → Form → Matrix → ℕ → Row
storing number text funct6 eew form matrix width = meaning (coded number funct6 1 eew) text (λ word. Store form matrix width (field7 word) (field15 word) (field20 word))

-- multiplies and element-wise multiplies
abbrev arithmetic : ℕ → String → (funct6 : ℕ) → (ℕ → Instruction) → Row
arithmetic number text funct6 means = meaning (coded number funct6 0 0b110) text means

-- adds and subtracts; "bits 24..20 of an add or subtract not what the listing fixes (zero where it fixes nothing)" are refused
abbrev combining : ℕ → String → (funct6 : ℕ) → Sum → Factor → Row
combining number text funct6 sum factor = meaning (coded0 number funct6 0 0b110) text (λ word. Combine sum factor (field7 word) (field15 word))

-- moves between accumulators and vector registers, of rows (plain) and of columns (transposed): vd, ms1 and rs2; md, vs1 and rs2
abbrev moving_out : ℕ → String → (funct6 : ℕ) → Form → Row
moving_out number text funct6 form = meaning (coded number funct6 0 0b101) text (λ word. MoveOut form (field7 word) (field15 word) (field20 word))

abbrev moving_in : ℕ → String → (funct6 : ℕ) → Form → Row
moving_in number text funct6 form = meaning (coded number funct6 1 0b101) text (λ word. MoveIn form (field7 word) (field15 word) (field20 word))

-- our entries
unfoldable pub listing : List Row
listing =
    -- configuration: "the eight setting codes are 0000 to 0111 in listing order"
    setting_i 1 "msettypei xX, I" 0b0000 (λ word. SetTypeImmediate (field7 word) (immediate13 word))
    ∷ setting 2 "msettype xX, xX" 0b0001 (λ word. SetType (field7 word) (field15 word))
    ∷ setting_i 3 "msettilemi xX, I" 0b0010 (λ word. SetTileImmediate DimensionM (field7 word) (immediate13 word))
    ∷ setting 4 "msettilem xX, xX" 0b0011 (λ word. SetTile DimensionM (field7 word) (field15 word))
    ∷ setting_i 5 "msettileki xX, I" 0b0100 (λ word. SetTileImmediate DimensionK (field7 word) (immediate13 word))
    ∷ setting 6 "msettilek xX, xX" 0b0101 (λ word. SetTile DimensionK (field7 word) (field15 word))
    ∷ setting_i 7 "msettileni xX, I" 0b0110 (λ word. SetTileImmediate DimensionN (field7 word) (immediate13 word))
    ∷ setting 8 "msettilen xX, xX" 0b0111 (λ word. SetTile DimensionN (field7 word) (field15 word))
    -- loads
    ∷ loading 9 "mlae8.m trT, (xX), xX" 0b000001 0b000 Plain MatrixA 1
    ∷ loading 10 "mlae16.m trT, (xX), xX" 0b000001 0b001 Plain MatrixA 2
    ∷ loading 11 "mlae32.m trT, (xX), xX" 0b000001 0b010 Plain MatrixA 4
    ∷ loading 12 "mlae64.m trT, (xX), xX" 0b000001 0b011 Plain MatrixA 8
    ∷ loading 13 "mlbe8.m trT, (xX), xX" 0b000010 0b000 Plain MatrixB 1
    ∷ loading 14 "mlbe16.m trT, (xX), xX" 0b000010 0b001 Plain MatrixB 2
    ∷ loading 15 "mlbe32.m trT, (xX), xX" 0b000010 0b010 Plain MatrixB 4
    ∷ loading 16 "mlbe64.m trT, (xX), xX" 0b000010 0b011 Plain MatrixB 8
    ∷ loading 17 "mlce8.m accA, (xX), xX" 0b000000 0b000 Plain MatrixC 1
    ∷ loading 18 "mlce16.m accA, (xX), xX" 0b000000 0b001 Plain MatrixC 2
    ∷ loading 19 "mlce32.m accA, (xX), xX" 0b000000 0b010 Plain MatrixC 4
    ∷ loading 20 "mlce64.m accA, (xX), xX" 0b000000 0b011 Plain MatrixC 8
    -- stores
    ∷ storing 21 "msae8.m trT, (xX), xX" 0b000001 0b000 Plain MatrixA 1
    ∷ storing 22 "msae16.m trT, (xX), xX" 0b000001 0b001 Plain MatrixA 2
    ∷ storing 23 "msae32.m trT, (xX), xX" 0b000001 0b010 Plain MatrixA 4
    ∷ storing 24 "msae64.m trT, (xX), xX" 0b000001 0b011 Plain MatrixA 8
    ∷ storing 25 "msbe8.m trT, (xX), xX" 0b000010 0b000 Plain MatrixB 1
    ∷ storing 26 "msbe16.m trT, (xX), xX" 0b000010 0b001 Plain MatrixB 2
    ∷ storing 27 "msbe32.m trT, (xX), xX" 0b000010 0b010 Plain MatrixB 4
    ∷ storing 28 "msbe64.m trT, (xX), xX" 0b000010 0b011 Plain MatrixB 8
    ∷ storing 29 "msce8.m accA, (xX), xX" 0b000000 0b000 Plain MatrixC 1
    ∷ storing 30 "msce16.m accA, (xX), xX" 0b000000 0b001 Plain MatrixC 2
    ∷ storing 31 "msce32.m accA, (xX), xX" 0b000000 0b010 Plain MatrixC 4
    ∷ storing 32 "msce64.m accA, (xX), xX" 0b000000 0b011 Plain MatrixC 8
    -- 02, Two: transposed loads
    ∷ loading 109 "mlate8.m trT, (xX), xX" 0b000101 0b000 Transposed MatrixA 1
    ∷ loading 110 "mlate16.m trT, (xX), xX" 0b000101 0b001 Transposed MatrixA 2
    ∷ loading 111 "mlate32.m trT, (xX), xX" 0b000101 0b010 Transposed MatrixA 4
    ∷ loading 112 "mlate64.m trT, (xX), xX" 0b000101 0b011 Transposed MatrixA 8
    ∷ loading 113 "mlbte8.m trT, (xX), xX" 0b000110 0b000 Transposed MatrixB 1
    ∷ loading 114 "mlbte16.m trT, (xX), xX" 0b000110 0b001 Transposed MatrixB 2
    ∷ loading 115 "mlbte32.m trT, (xX), xX" 0b000110 0b010 Transposed MatrixB 4
    ∷ loading 116 "mlbte64.m trT, (xX), xX" 0b000110 0b011 Transposed MatrixB 8
    ∷ loading 117 "mlcte8.m accA, (xX), xX" 0b000100 0b000 Transposed MatrixC 1
    ∷ loading 118 "mlcte16.m accA, (xX), xX" 0b000100 0b001 Transposed MatrixC 2
    ∷ loading 119 "mlcte32.m accA, (xX), xX" 0b000100 0b010 Transposed MatrixC 4
    ∷ loading 120 "mlcte64.m accA, (xX), xX" 0b000100 0b011 Transposed MatrixC 8
    -- 02, Two: transposed stores
    ∷ storing 121 "msate8.m trT, (xX), xX" 0b000101 0b000 Transposed MatrixA 1
    ∷ storing 122 "msate16.m trT, (xX), xX" 0b000101 0b001 Transposed MatrixA 2
    ∷ storing 123 "msate32.m trT, (xX), xX" 0b000101 0b010 Transposed MatrixA 4
    ∷ storing 124 "msate64.m trT, (xX), xX" 0b000101 0b011 Transposed MatrixA 8
    ∷ storing 125 "msbte8.m trT, (xX), xX" 0b000110 0b000 Transposed MatrixB 1
    ∷ storing 126 "msbte16.m trT, (xX), xX" 0b000110 0b001 Transposed MatrixB 2
    ∷ storing 127 "msbte32.m trT, (xX), xX" 0b000110 0b010 Transposed MatrixB 4
    ∷ storing 128 "msbte64.m trT, (xX), xX" 0b000110 0b011 Transposed MatrixB 8
    ∷ storing 129 "mscte8.m accA, (xX), xX" 0b000100 0b000 Transposed MatrixC 1
    ∷ storing 130 "mscte16.m accA, (xX), xX" 0b000100 0b001 Transposed MatrixC 2
    ∷ storing 131 "mscte32.m accA, (xX), xX" 0b000100 0b010 Transposed MatrixC 4
    ∷ storing 132 "mscte64.m accA, (xX), xX" 0b000100 0b011 Transposed MatrixC 8
    -- 02, Eleven: "the plain moves mmvcr and mmvcc in both forms, .. (codes from its 6.1.7 ..)"
    ∷ moving_out 229 "mmvcr.v.m vX, accA, xX" 0b000000 Plain
    ∷ moving_in 230 "mmvcr.m.v accA, vX, xX" 0b000000 Plain
    ∷ moving_out 235 "mmvcc.v.m vX, accA, xX" 0b000100 Transposed
    ∷ moving_in 236 "mmvcc.m.v accA, vX, xX" 0b000100 Transposed
    -- arithmetic
    ∷ arithmetic 33 "mma.mm accA, trT, trT" 0b000000 (λ word. Multiply Single (field7 word) (field15 word) (field20 word))
    ∷ meaning (coded 34 0b000000 1 0b110) "mfma.mm accA, trT, trT" (λ word. FloatMultiply (field7 word) (field15 word) (field20 word))  -- 02, Four
    ∷ arithmetic 35 "mwma.mm accA, trT, trT" 0b000001 (λ word. Multiply Double (field7 word) (field15 word) (field20 word))
    ∷ arithmetic 37 "mqma.mm accA, trT, trT" 0b000010 (λ word. Multiply Quadruple (field7 word) (field15 word) (field20 word))
    ∷ combining 38 "maddc.mm accA, accA" 0b000100 Add Single
    ∷ combining 40 "mwaddc.mm accA, accA" 0b000101 Add Double
    ∷ combining 42 "mqaddc.mm accA, accA" 0b000110 Add Quadruple
    ∷ combining 43 "msubc.mm accA, accA" 0b000111 Subtract Single
    ∷ combining 45 "mwsubc.mm accA, accA" 0b001000 Subtract Double
    ∷ combining 47 "mqsubc.mm accA, accA" 0b001001 Subtract Quadruple
    ∷ combining 48 "mrsubc.mm accA, accA" 0b001010 ReverseSubtract Single
    ∷ combining 50 "mwrsubc.mm accA, accA" 0b001011 ReverseSubtract Double
    ∷ combining 52 "mqrsubc.mm accA, accA" 0b001100 ReverseSubtract Quadruple
    ∷ arithmetic 53 "memulc.mx accA, accA, xX" 0b001101 (λ word. Scale Single (field7 word) (field15 word) (field20 word))
    ∷ arithmetic 55 "mwemulc.mx accA, accA, xX" 0b001110 (λ word. Scale Double (field7 word) (field15 word) (field20 word))
    ∷ arithmetic 57 "mqemulc.mx accA, accA, xX" 0b001111 (λ word. Scale Quadruple (field7 word) (field15 word) (field20 word))
    ∷ arithmetic 58 "memulc.mi accA, accA, S" 0b010000 (λ word. ScaleImmediate Single (field7 word) (field15 word) (field20 word))
    ∷ arithmetic 59 "mwemulc.mi accA, accA, S" 0b010001 (λ word. ScaleImmediate Double (field7 word) (field15 word) (field20 word))
    ∷ arithmetic 60 "mqemulc.mi accA, accA, S" 0b010010 (λ word. ScaleImmediate Quadruple (field7 word) (field15 word) (field20 word))
    ∷ []

-- the entries of section 4.5 that are not ours
unfoldable pub others : List Code
others =
    -- floats
    coded 36 0b000001 1 0b110  -- mfwma.mm
    ∷ coded0 39 0b000100 1 0b110  -- mfaddc.mm
    ∷ coded0 41 0b000101 1 0b110  -- mfwaddc.mm
    ∷ coded0 44 0b000111 1 0b110  -- mfsubc.mm
    ∷ coded0 46 0b001000 1 0b110  -- mfwsubc.mm
    ∷ coded0 49 0b001010 1 0b110  -- mfrsubc.mm
    ∷ coded0 51 0b001011 1 0b110  -- mfwrsubc.mm
    ∷ coded 54 0b001101 1 0b110  -- mfemulc.mf
    ∷ coded 56 0b001110 1 0b110  -- mfwemulc.mf
    -- conversions
    ∷ coded0 61 0b011000 1 0b110  -- mfncvtc.f.fw.m
    ∷ coded0 62 0b011000 0 0b110  -- mfwcvtc.fw.f.m
    ∷ coded0 63 0b011010 1 0b110  -- mfcvtc.f.x.m
    ∷ coded0 64 0b011010 0 0b110  -- mfcvtc.x.f.m
    ∷ coded0 65 0b011011 1 0b110  -- mfncvtc.f.xw.m
    ∷ coded0 66 0b011011 0 0b110  -- mfwcvtc.xw.f.m
    ∷ coded0 67 0b011100 1 0b110  -- mfncvtc.f.xq.m
    ∷ coded0 68 0b011100 0 0b110  -- mfwcvtc.xq.f.m
    ∷ coded0 69 0b011101 1 0b110  -- mfwcvtc.fw.x.m
    ∷ coded0 70 0b011101 0 0b110  -- mfncvtc.x.fw.m
    ∷ coded0 71 0b011110 1 0b110  -- mfcvtc.fw.xw.m
    ∷ coded0 72 0b011110 0 0b110  -- mfcvtc.xw.fw.m
    ∷ coded0 73 0b011111 1 0b110  -- mfncvtc.fw.xq.m
    ∷ coded0 74 0b011111 0 0b110  -- mfwcvtc.xq.fw.m
    ∷ []

-- ---- decoding

-- the word has the fixed bits
abbrev pub has : ℕ → List Fixed → Bool
has word [] = true
has word (f ∷ fs) = eqb (bits f.high f.low word) f.value && has word fs

-- the word has the bits of one of the entries
abbrev pub listed : ℕ → List Code → Bool
listed word [] = false
listed word (c ∷ cs) = has word c.fixed || listed word cs

-- the instruction of the first row whose bits the word has, else the one given
abbrev pub look_up : ℕ → Instruction → List Row → Instruction
look_up word none [] = none
look_up word none (r ∷ rs) = cond (has word r.code.fixed) (r.means word) (look_up word none rs)

-- 11: "A word that has every bit which section 4.5 of source document 000 fixes for an instruction we don't carry out, but not every
-- bit fixed for one of ours"; 1: "Whatever else got 1 so far" (a code of no entry, or fixed fields that are not zero)
abbrev pub not_ours : ℕ → Instruction
not_ours word = Illegal (cond (listed word others) LeftOut Unlisted)

-- "a tile register is 0 to 7, an accumulator 0 or 1 .. Multiply reads two tile registers into an accumulator. Element-wise
-- instructions read and write accumulators."
abbrev pub in_range : Instruction → Bool
in_range (Illegal wrong) = true
in_range (SetTypeImmediate rd immediate) = true
in_range (SetType rd rs1) = true
in_range (SetTileImmediate dimension rd immediate) = true
in_range (SetTile dimension rd rs1) = true
in_range (Load form matrix width md rs1 rs2) = ltb md (register_count matrix)
in_range (Store form matrix width ms3 rs1 rs2) = ltb ms3 (register_count matrix)
in_range (Multiply factor md ms1 ms2) = every (ltb md 2 ∷ ltb ms1 8 ∷ ltb ms2 8 ∷ [])
in_range (Combine sum factor md ms1) = every (ltb md 2 ∷ ltb ms1 2 ∷ [])
in_range (Scale factor md ms1 rs2) = every (ltb md 2 ∷ ltb ms1 2 ∷ [])
in_range (ScaleImmediate factor md ms1 immediate) = every (ltb md 2 ∷ ltb ms1 2 ∷ [])
in_range (FloatMultiply md ms1 ms2) = every (ltb md 2 ∷ ltb ms1 8 ∷ ltb ms2 8 ∷ [])
in_range (MoveOut form vd ms1 rs2) = ltb ms1 2
in_range (MoveIn form md vs1 rs2) = ltb md 2

-- 12: "A register field out of range"
abbrev pub ranged : Instruction → Instruction
ranged i = cond (in_range i) i (Illegal Register)

-- 10: "A wrong opcode"; "Refusals: 10, 11, 1, 12 in this order"
unfoldable pub decode : ℕ → Instruction
decode word = cond (eqb (bits 6 0 word) 0b1110111) (ranged (look_up word (not_ours word) listing)) (Illegal Opcode)
