-- 02, One: which words get 10, 11, 1 and 12, in its words; and that nothing else moved, but the words that a later request of 02 adds. The proofs stand in proofs/WordRefusals.antt.
use Rattle.std.specs.Prelude.{◌≡◌, ◌↔◌, ◌||◌, ◌&&◌, ◌∷◌}
use Rattle.numbers.specs.Kit.{Bool, true, false, cond, List, [], List-as-Memᴰ, ℕ, eqb, ltb}
use Rattle.numbers.specs.Blocks.{Choice}
use Rattle.machine.specs.declared.Wrong.TheVariants.{Unlisted}
use Rattle.machine.specs.declared.Instruction.{Instruction}
use Rattle.machine.specs.declared.Instruction.TheVariants.{Illegal, SetTypeImmediate, SetType, SetTileImmediate, SetTile, Load, Store, Multiply, Combine, Scale, ScaleImmediate, FloatMultiply, MoveOut, MoveIn}
use Rattle.machine.specs.Tests.{is_in}
use Rattle.machine.specs.Geometry.{parameters, Bench}
use Rattle.machine.specs.Listing.{bits, Fixed, Code, Row, listing, others, look_up, in_range}
use Rattle.machine.specs.Faults.{sound_bench, thirty_two}
use Rattle.machine.specs.Vectors.{Vectors, vectors_fit, aligned}
use Rattle.machine.specs.Step.{VectorOutcome, stepped_in, step_with}

-- ---- which words are refused, and with which number

-- nothing gives 8, which comes first
abbrev pub Faultless : List ℕ → Vectors → Bench → Type 0
Faultless xs W B = (sound_bench B ≡ true) × (thirty_two xs ≡ true) × (vectors_fit W ≡ true)

abbrev pub RightOpcode : ℕ → Type 0
RightOpcode word = bits 6 0 word ≡ 0b1110111

-- "every bit which section 4.5 of source document 000 fixes for an instruction", beside the opcode, which is `RightOpcode`
abbrev pub EveryBit : ℕ → Code → Type 0
EveryBit word c = (f : Fixed) → List-as-Memᴰ f c.fixed → bits f.high f.low word ≡ f.value

-- .. "for an instruction we don't carry out"
abbrev pub IsOther : ℕ → Type 0
IsOther word = (c : Code) × List-as-Memᴰ c others × EveryBit word c

-- .. "for one of ours"
abbrev pub IsOurs : ℕ → Type 0
IsOurs word = (r : Row) × List-as-Memᴰ r listing × EveryBit word r.code

-- 02, Eleven: "The group must start at a multiple of its size."
abbrev pub group_fits : Vectors → Instruction → Bool
group_fits W (Illegal wrong) = true
group_fits W (SetTypeImmediate rd immediate) = true
group_fits W (SetType rd rs1) = true
group_fits W (SetTileImmediate dimension rd immediate) = true
group_fits W (SetTile dimension rd rs1) = true
group_fits W (Load form matrix width md rs1 rs2) = true
group_fits W (Store form matrix width ms3 rs1 rs2) = true
group_fits W (Multiply factor md ms1 ms2) = true
group_fits W (Combine sum factor md ms1) = true
group_fits W (Scale factor md ms1 rs2) = true
group_fits W (ScaleImmediate factor md ms1 immediate) = true
group_fits W (FloatMultiply md ms1 ms2) = true
group_fits W (MoveOut form vd ms1 rs2) = aligned W vd
group_fits W (MoveIn form md vs1 rs2) = aligned W vs1

-- "A register field out of range", in a word of ours; 02, Eleven: "a misaligned group gets 12"
abbrev pub OutOfRange : Vectors → ℕ → Type 0
OutOfRange W word = (r : Row) × List-as-Memᴰ r listing × EveryBit word r.code × (in_range (r.means word) && group_fits W (r.means word) ≡ false)

-- the number n that a word is answered with is 10, 11, 1 or 12 exactly in these cases
pub record RefusedAs (n word : ℕ) (xs : List ℕ) (W : Vectors) (B : Bench) : Type 0 where
  pub ten : (n ≡ 10) ↔ Faultless xs W B × ¬ RightOpcode word
  pub eleven : (n ≡ 11) ↔ Faultless xs W B × RightOpcode word × IsOther word × ¬ IsOurs word
  pub one : (n ≡ 1) ↔ Faultless xs W B × RightOpcode word × ¬ IsOther word × ¬ IsOurs word
  pub twelve : (n ≡ 12) ↔ Faultless xs W B × RightOpcode word × OutOfRange W word

abbrev pub WordRefusals : Type 0
WordRefusals = (grant : Choice) (word : ℕ) (xs : List ℕ) (W : Vectors) (B : Bench) → RefusedAs (step_with grant word xs W B).answer.number word xs W B

-- ---- nothing else moved

-- the entries that became ours with a request of 02: Two, the transposed loads and stores, and Eleven, the moves, whose numbers are above
-- 100; Four, mfma.mm, No. 34
abbrev pub is_added : Row → Bool
is_added r = ltb 100 r.code.number || eqb r.code.number 34

-- those that were ours before
abbrev pub listing_before : List Row → List Row
listing_before [] = []
listing_before (r ∷ rs) = cond (is_added r) (listing_before rs) (r ∷ listing_before rs)

-- decoding as it was before One, over the entries that were ours then: any other word gets 1; and the step with it. What an instruction
-- does and when it is refused (`stepped_in`) is the same definition in both, so this compares decoding only
abbrev pub decode_before : ℕ → Instruction
decode_before word =
    let i : Instruction = look_up word (Illegal Unlisted) (listing_before listing) in
    cond (eqb (bits 6 0 word) 0b1110111) (cond (in_range i) i (Illegal Unlisted)) (Illegal Unlisted)

abbrev pub step_before : Choice → ℕ → List ℕ → Vectors → Bench → VectorOutcome
step_before grant word xs W B = stepped_in W (parameters grant B.machine) (decode_before word) xs B

-- 10, 11 and 12 stand where 1 stood
abbrev pub number_before : ℕ → ℕ
number_before n = cond (is_in n (10 ∷ 11 ∷ 12 ∷ [])) 1 n

pub record OnlyNumberMoved (after before : VectorOutcome) : Type 0 where
  pub same_number : number_before after.answer.number ≡ before.answer.number
  pub same_row : after.answer.row ≡ before.answer.row
  pub same-column : after.answer.column ≡ before.answer.column
  pub same-bench : after.bench ≡ before.bench
  pub same-scalars : after.scalars ≡ before.scalars
  pub same-vectors : after.vectors ≡ before.vectors

-- a word of an entry that became ours since
abbrev pub IsAdded : ℕ → Type 0
IsAdded word = RightOpcode word × ((r : Row) × List-as-Memᴰ r listing × EveryBit word r.code × (is_added r ≡ true))

-- of every word but these
abbrev pub NothingElseMoved : Type 0
NothingElseMoved = (grant : Choice) (word : ℕ) (xs : List ℕ) (W : Vectors) (B : Bench) → ¬ IsAdded word
    → OnlyNumberMoved (step_with grant word xs W B) (step_before grant word xs W B)

-- and these got 1
abbrev pub AddedGotOne : Type 0
AddedGotOne = (grant : Choice) (word : ℕ) (xs : List ℕ) (W : Vectors) (B : Bench) → Faultless xs W B → IsAdded word
    → (step_before grant word xs W B).answer.number ≡ 1
