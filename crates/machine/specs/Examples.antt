-- Refusals of each number and their neighbours, computed: a machine of RLEN 64 and MLEN 128 (two rows of eight bytes) and
-- ELEN 32; at the end one of RLEN 128 and MLEN 256, with ELEN 64.
use Rattle.std.specs.Prelude.{◌≡◌, ◌∷◌, ◌++◌, ◌+◌, ◌*◌, ◌-◌, ◌^◌}
use Rattle.numbers.specs.Kit.{refl, true, false, List, [], map, ℕ, zero, suc, get_or, replicate, set, take, drop}
use Rattle.std.specs.Float.Ieee as Ieee
use Rattle.numbers.specs.Reduce.{reduce}
use Rattle.numbers.specs.Tile.{put_tile, put_row, put_le, mark_tile, mark_row}
use Rattle.numbers.specs.Binary32.{value_of, settled, multiply_add, float_sum, float_product}
use Rattle.machine.specs.declared.Machine.{Machine}
use Rattle.machine.specs.declared.Reply.{Reply}
use Rattle.machine.specs.Geometry.{permitted}
use Rattle.machine.specs.Setting.{sew, new_type, legal_type, halving, chosen}
use Rattle.machine.specs.TransferWords.{width_of}
use Rattle.machine.specs.ArithmeticWords.{width_ok}
use Rattle.machine.specs.Memory.{inside, misses, rows_miss, distinct, stored}
use Rattle.machine.specs.Refusals.{marked}
use Rattle.machine.specs.Listing.{decode, listing, others}
use Rattle.machine.specs.Geometry.{range, Bench}
use Rattle.machine.specs.Faults.{sound, seals_fit}
use Rattle.machine.specs.Step.{Outcome, step, step_by, outcome}

pub record Line : Type 0 where
  pub got : List ℕ
  pub want : List ℕ

-- bits 31..25, 24..20, 19..15, 14..12 and 11..7
unfoldable pub word : ℕ → ℕ → ℕ → ℕ → ℕ → ℕ
word f e d c b = f * 2 ^ 25 + e * 2 ^ 20 + d * 2 ^ 15 + c * 2 ^ 12 + b * 2 ^ 7 + 0b1110111

-- mtype, the tile sizes, a seal, and a mark for every byte; a memory of 32 bytes
unfoldable pub bench : (t m k n sealStart sealLength mark : ℕ) → Bench
bench t m k n s l mark = record {
  machine = record { rlen = 64; mlen = 128; mtype = t; tile_m = m; tile_k = k; tile_n = n; rule = 0; elen = 32 };
  seals = range s l ∷ [];
  registers = replicate 256 5;
  marks = replicate 256 mark;
  memory = replicate 32 9;
}

-- scalars 10 and 11
unfoldable pub scalars : ℕ → ℕ → List ℕ
scalars a b = replicate 10 0 ++ a ∷ b ∷ replicate 20 0

unfoldable pub shown : Reply → List ℕ
shown a = a.number ∷ a.row ∷ a.column ∷ []

-- a word is stepped, and the answer's number, row and column come out
pub gives : Outcome → ℕ → Line
gives o n = record { got = shown o.answer; want = n ∷ 0 ∷ 0 ∷ [] }

pub unwritten : Outcome → ℕ → ℕ → Line
unwritten o row column = record { got = shown o.answer; want = 5 ∷ row ∷ column ∷ [] }

pub good : Bench
good = bench 0 2 2 2 0 0 1

-- with other marks
pub marking : List ℕ → Bench → Bench
marking ms B = record { machine = B.machine; seals = B.seals; registers = B.registers; marks = ms; memory = B.memory }

pub with : Machine → Bench → Bench
with m B = record { machine = m; seals = B.seals; registers = B.registers; marks = B.marks; memory = B.memory }

-- with another rule
pub ruled : ℕ → Bench → Bench
ruled r B = let m = B.machine in
    with (record { rlen = m.rlen; mlen = m.mlen; mtype = m.mtype; tile_m = m.tile_m; tile_k = m.tile_k; tile_n = m.tile_n; rule = r; elen = m.elen }) B

pub examples : List Line
examples =
    -- 8, before 10
    gives (step 0 (replicate 31 0) good) 8
    ∷ gives (step 0 (scalars 0 0) (bench 3 2 2 2 0 0 1)) 8
    ∷ gives (step 0 (scalars 0 0) (bench 4 2 2 2 0 0 1)) 8
    ∷ gives (step 0 (scalars 0 0) (bench 9 2 2 2 0 0 1)) 8
    ∷ gives (step 0 (scalars 0 0) (bench 0 3 2 2 0 0 1)) 8
    ∷ gives (step 0 (scalars 0 0) (bench 0 2 3 2 0 0 1)) 8
    ∷ gives (step 0 (scalars 0 0) (bench 0 2 2 9 0 0 1)) 8
    ∷ gives (step 0 (scalars 0 0) (bench 0 2 2 2 (2 ^ 64 - 1) 1 1)) 8
    ∷ gives (step 0 (scalars 0 0) (bench 0 2 2 2 0 0 2)) 8
    ∷ gives (step 0 (scalars 0 0) (marking (replicate 255 0) good)) 8
    ∷ gives (step 0 (scalars 0 0) (with (record { rlen = 128; mlen = 128; mtype = 0; tile_m = 0; tile_k = 0; tile_n = 0; rule = 0; elen = 32 }) good)) 8
    ∷ gives (step 0 (scalars 0 0) (ruled 2 good)) 8
    -- none of these is a fault: a seal that ends at 2^64 - 1, mtype 2^63 and 8, sizes above the maximum at the present SEW
    ∷ gives (step (word 0 0 0 7 0) (scalars 0 0) (bench 0 2 2 8 (2 ^ 64 - 1) 0 1)) 0
    ∷ gives (step (word 0 0 0 7 0) (scalars 0 0) (bench (2 ^ 63) 2 2 8 0 0 1)) 0
    ∷ gives (step (word 0 0 0 7 0) (scalars 0 0) (bench 2 2 2 8 0 0 1)) 0
    -- 10: the opcode, also of what would be a float
    ∷ gives (step 0x00007033 (scalars 0 0) good) 10
    ∷ gives (step 0x02006033 (scalars 0 0) good) 10
    -- 11: mfwma.mm, whatever its registers; mfaddc.mm; a conversion
    ∷ gives (step (word 0b0000011 31 31 6 31) (scalars 0 0) good) 11
    ∷ gives (step (word 0b0001001 0 0 6 0) (scalars 0 0) good) 11
    ∷ gives (step (word 0b0111110 0 0 6 0) (scalars 0 0) good) 11
    -- 1: bits 14..12 of 100; bits 27..20 of msettype; bits 24..20 of maddc.mm, of mfaddc.mm and of a conversion; no entry
    ∷ gives (step (word 0b0000010 0 0 4 0) (scalars 0 0) good) 1
    ∷ gives (step (word 0b0001000 1 10 7 0) (scalars 0 0) good) 1
    ∷ gives (step (word 0b0001100 0 10 7 0) (scalars 0 0) good) 1
    ∷ gives (step (word 0b0001000 1 0 6 31) (scalars 0 0) good) 1
    ∷ gives (step (word 0b0001001 1 0 6 0) (scalars 0 0) good) 1
    ∷ gives (step (word 0b0111110 1 0 6 0) (scalars 0 0) good) 1
    ∷ gives (step (word 0b1000000 0 0 7 0) (scalars 0 0) good) 1
    ∷ gives (step (word 0b0000101 0 0 6 0) (scalars 0 0) good) 1
    -- 12: tr8; acc2; ms2, ms1 and md of a multiply
    ∷ gives (step (word 0b0000010 11 10 0 8) (scalars 0 8) good) 12
    ∷ gives (step (word 0b0000000 11 10 0 2) (scalars 0 8) good) 12
    ∷ gives (step (word 0b0000000 8 0 6 0) (scalars 0 0) good) 12
    ∷ gives (step (word 0b0000000 0 8 6 0) (scalars 0 0) good) 12
    ∷ gives (step (word 0b0000000 0 0 6 2) (scalars 0 0) good) 12
    ∷ gives (step (word 0b0000001 0 0 6 2) (scalars 0 0) good) 12
    -- and of transposed loads
    ∷ gives (step (word 0b0001010 11 10 3 8) (scalars 0 8) good) 12
    ∷ gives (step (word 0b0001000 11 10 0 2) (scalars 0 8) good) 12
    -- 2, but msettypei is done
    ∷ gives (step (word 0b0010000 0 0 7 0) (scalars 0 0) (bench (2 ^ 63) 0 0 0 0 0 1)) 2
    ∷ gives (step (word 0b0011000 0 0 7 0) (scalars 0 0) (bench (2 ^ 63) 0 0 0 0 0 1)) 2
    ∷ gives (step (word 0b0000010 11 10 0 0) (scalars 0 8) (bench (2 ^ 63) 0 0 0 0 0 1)) 2
    ∷ gives (step (word 0b0001000 0 10 7 0) (scalars 0 0) (bench (2 ^ 63) 0 0 0 0 0 1)) 0
    -- 3: a 16-bit and a 64-bit load of A at SEW 8; 32 bits of C at SEW 8, without and with maccq; double at SEW 32; quadruple
    ∷ gives (step (word 0b0000010 11 10 1 0) (scalars 0 8) good) 3
    ∷ gives (step (word 0b0000010 11 10 3 0) (scalars 0 8) good) 3
    ∷ gives (step (word 0b0001010 11 10 3 0) (scalars 0 8) good) 3
    ∷ gives (step (word 0b0000000 11 10 2 0) (scalars 0 8) good) 3
    ∷ gives (step (word 0b0000000 11 10 2 0) (scalars 0 8) (bench 8 2 2 2 0 0 1)) 0
    ∷ gives (step (word 0b0000000 11 10 1 0) (scalars 0 8) good) 0
    ∷ gives (step (word 0b0000010 1 0 6 0) (scalars 0 0) (bench 2 2 2 2 0 0 1)) 3
    ∷ gives (step (word 0b0000100 1 0 6 0) (scalars 0 0) good) 3
    ∷ gives (step (word 0b0000100 1 0 6 0) (scalars 0 0) (bench 8 2 2 2 0 0 1)) 0
    -- 02, Four: mfma.mm at SEW 8, 16 and 32; 2 comes before, 4 after
    ∷ gives (step (word 0b0000001 1 0 6 0) (scalars 0 0) good) 3
    ∷ gives (step (word 0b0000001 1 0 6 0) (scalars 0 0) (bench 1 2 2 8 0 0 1)) 3
    ∷ gives (step (word 0b0000001 1 0 6 0) (scalars 0 0) (bench 2 2 2 2 0 0 1)) 0
    ∷ gives (step (word 0b0000001 1 0 6 0) (scalars 0 0) (bench (2 ^ 63) 2 2 2 0 0 1)) 2
    ∷ gives (step (word 0b0000001 1 0 6 0) (scalars 0 0) (bench 2 2 2 8 0 0 1)) 4
    -- 4: "tile_n 8 set at SEW 8, then SEW 16: a 16-bit load of B gives 4"; A does not use tile_n
    ∷ gives (step (word 0b0000100 11 10 1 0) (scalars 0 8) (bench 1 2 2 8 0 0 1)) 4
    ∷ gives (step (word 0b0000010 11 10 1 0) (scalars 0 8) (bench 1 2 2 8 0 0 1)) 0
    ∷ gives (step (word 0b0000000 11 10 1 0) (scalars 0 8) (bench 1 0 2 8 0 0 1)) 4
    -- 5: the first element without all its marks, in ms1, then ms2, then md; a multiply of no element reads nothing
    ∷ unwritten (step (word 0b0000011 11 10 0 0) (scalars 0 8) (marking (set (replicate 256 1) 9 0) good)) 1 1
    ∷ unwritten (step (word 0b0000000 1 0 6 0) (scalars 0 0) (marking (set (set (replicate 256 1) 8 0) 16 0) good)) 1 0
    ∷ unwritten (step (word 0b0000000 1 0 6 0) (scalars 0 0) (marking (set (set (replicate 256 1) 17 0) 128 0) good)) 0 1
    ∷ unwritten (step (word 0b0000010 1 0 6 0) (scalars 0 0) (marking (set (replicate 256 1) 163 0) good)) 1 1
    ∷ unwritten (step (word 0b0000001 1 0 6 0) (scalars 0 0) (marking (set (set (replicate 256 1) 12 0) 16 0) (bench 2 2 2 2 0 0 1))) 1 1
    ∷ unwritten (step (word 0b0000001 1 0 6 0) (scalars 0 0) (marking (set (replicate 256 1) 167 0) (bench 2 2 0 2 0 0 1))) 1 1
    ∷ gives (step (word 0b0000000 1 0 6 0) (scalars 0 0) (bench 0 0 2 2 0 0 0)) 0
    ∷ unwritten (step (word 0b0000000 1 0 6 0) (scalars 0 0) (bench 0 2 0 2 0 0 0)) 0 0
    ∷ unwritten (step (word 0b0001000 0 1 6 0) (scalars 0 0) (marking (set (replicate 256 1) 192 0) good)) 0 0
    -- md of a widening add is read at its two bytes an element, past the bytes that SEW would read
    ∷ unwritten (step (word 0b0001010 0 1 6 0) (scalars 0 0) (marking (set (replicate 256 1) 163 0) good)) 1 1
    -- a multiplier of 0 reads no ms1: an immediate, slot 0, and 256 at SEW 8
    ∷ gives (step (word 0b0100000 0 1 6 0) (scalars 0 0) (bench 0 2 2 2 0 0 0)) 0
    ∷ gives (step (word 0b0011010 0 1 6 0) (scalars 0 0) (bench 0 2 2 2 0 0 0)) 0
    ∷ gives (step (word 0b0011010 10 1 6 0) (scalars 256 0) (bench 0 2 2 2 0 0 0)) 0
    ∷ unwritten (step (word 0b0011010 10 1 6 0) (scalars 257 0) (bench 0 2 2 2 0 0 0)) 0 0
    -- 6: "A last byte at the end of memory is stored; one byte further gives 6"; strides down; no element, no address
    ∷ gives (step (word 0b0000011 11 10 0 0) (scalars 22 8) good) 0
    ∷ gives (step (word 0b0000011 11 10 0 0) (scalars 23 8) good) 6
    ∷ gives (step (word 0b0000010 11 10 0 0) (scalars 8 (2 ^ 64 - 8)) good) 0
    ∷ gives (step (word 0b0000010 11 10 0 0) (scalars 7 (2 ^ 64 - 8)) good) 6
    ∷ gives (step (word 0b0000010 11 10 0 0) (scalars (2 ^ 64 - 8) 8) good) 6
    ∷ gives (step (word 0b0000010 11 10 0 0) (scalars (2 ^ 64 - 8) 8) (bench 0 2 0 2 0 0 1)) 0
    -- 7, after 6; not for a load, a seal of no byte, or a tile of no element
    ∷ gives (step (word 0b0000011 11 10 0 0) (scalars 0 8) (bench 0 2 2 2 9 1 1)) 7
    ∷ gives (step (word 0b0000011 11 10 0 0) (scalars 0 8) (bench 0 2 2 2 10 100 1)) 0
    ∷ gives (step (word 0b0000011 11 10 0 0) (scalars 0 40) (bench 0 2 2 2 0 1 1)) 6
    ∷ gives (step (word 0b0000010 11 10 0 0) (scalars 0 8) (bench 0 2 2 2 9 1 1)) 0
    ∷ gives (step (word 0b0000011 11 10 0 0) (scalars 0 8) (bench 0 2 2 2 9 0 1)) 0
    ∷ gives (step (word 0b0000011 11 10 0 0) (scalars 9 0) (bench 0 2 0 2 9 1 1)) 0
    -- 02, Two: B of two rows and three columns, transposed. 4 is tested over the same sizes; 5 goes by rows of the register: (0, 2) comes before
    -- (1, 0), which lies in the first row of memory
    ∷ gives (step (word 0b0001100 11 10 1 0) (scalars 0 8) (bench 1 2 2 8 0 0 1)) 4
    ∷ unwritten (step (word 0b0001101 11 10 0 0) (scalars 0 8) (marking (set (set (replicate 256 1) 2 0) 8 0) (bench 0 2 2 3 0 0 1))) 0 2
    -- 6 and 7 go by rows of memory: three rows of two bytes; A of two rows and one column lies in one row of two bytes
    ∷ gives (step (word 0b0001100 11 10 0 0) (scalars 14 8) (bench 0 2 2 3 0 0 1)) 0
    ∷ gives (step (word 0b0001100 11 10 0 0) (scalars 15 8) (bench 0 2 2 3 0 0 1)) 6
    ∷ gives (step (word 0b0001010 11 10 0 0) (scalars 30 8) (bench 0 2 1 3 0 0 1)) 0
    ∷ gives (step (word 0b0001010 11 10 0 0) (scalars 31 8) (bench 0 2 1 3 0 0 1)) 6
    ∷ gives (step (word 0b0001001 11 10 0 0) (scalars 14 8) (bench 0 2 2 3 0 0 1)) 0
    ∷ gives (step (word 0b0001001 11 10 0 0) (scalars 15 8) (bench 0 2 2 3 0 0 1)) 6
    ∷ gives (step (word 0b0001101 11 10 0 0) (scalars 0 8) (bench 0 2 2 3 17 1 1)) 7
    ∷ gives (step (word 0b0001101 11 10 0 0) (scalars 0 8) (bench 0 2 2 3 10 1 1)) 0
    -- no element, no address, whether memory has no row or rows of no byte
    ∷ gives (step (word 0b0001101 11 10 0 0) (scalars (2 ^ 64 - 8) 8) (bench 0 2 2 0 0 1 0)) 0
    ∷ gives (step (word 0b0001101 11 10 0 0) (scalars (2 ^ 64 - 8) 8) (bench 0 2 0 3 0 1 0)) 0
    ∷ []

pub refusals : map (λ l. l.got) examples ≡ map (λ l. l.want) examples
unfolding examples word bench scalars shown gives unwritten good marking with ruled permitted sew new_type legal_type width_ok width_of inside misses rows_miss distinct marked listing others decode sound seals_fit step_by outcome
refusals = refl

-- 02, Seven: "Refuse a store .. in which a byte belongs to two rows". A of two rows of two bytes
pub overlapping : List Line
overlapping =
    -- strides shorter than a row by one byte, exactly a row, none, and down
    gives (step (word 0b0000011 11 10 0 0) (scalars 0 1) good) 13
    ∷ gives (step (word 0b0000011 11 10 0 0) (scalars 0 2) good) 0
    ∷ gives (step (word 0b0000011 11 10 0 0) (scalars 0 0) good) 13
    ∷ gives (step (word 0b0000011 11 10 0 0) (scalars 8 (2 ^ 64 - 1)) good) 13
    ∷ gives (step (word 0b0000011 11 10 0 0) (scalars 8 (2 ^ 64 - 2)) good) 0
    -- two elements of two bytes
    ∷ gives (step (word 0b0000011 11 10 1 0) (scalars 0 3) (bench 1 2 2 2 0 0 1)) 13
    ∷ gives (step (word 0b0000011 11 10 1 0) (scalars 0 4) (bench 1 2 2 2 0 0 1)) 0
    -- C of two rows of two elements of 16 bits, at SEW 8
    ∷ gives (step (word 0b0000001 11 10 1 0) (scalars 0 3) good) 13
    ∷ gives (step (word 0b0000001 11 10 1 0) (scalars 0 4) good) 0
    -- one row, whatever the stride; rows of no byte; a load
    ∷ gives (step (word 0b0000011 11 10 0 0) (scalars 0 0) (bench 0 1 2 2 0 0 1)) 0
    ∷ gives (step (word 0b0000011 11 10 0 0) (scalars 0 (2 ^ 63)) (bench 0 1 2 2 0 0 1)) 0
    ∷ gives (step (word 0b0000011 11 10 0 0) (scalars 0 0) (bench 0 2 0 2 0 0 1)) 0
    ∷ gives (step (word 0b0000010 11 10 0 0) (scalars 0 1) good) 0
    -- after 5 and 6, before 7
    ∷ unwritten (step (word 0b0000011 11 10 0 0) (scalars 0 1) (bench 0 2 2 2 0 0 0)) 0 0
    ∷ gives (step (word 0b0000011 11 10 0 0) (scalars 30 1) good) 6
    ∷ gives (step (word 0b0000011 11 10 0 0) (scalars 0 (2 ^ 63)) good) 6
    ∷ gives (step (word 0b0000011 11 10 0 0) (scalars 0 1) (bench 0 2 2 2 0 1 1)) 13
    -- the rows in memory: B of two rows and three columns is two rows of three bytes, transposed three rows of two
    ∷ gives (step (word 0b0000101 11 10 0 0) (scalars 0 2) (bench 0 2 2 3 0 0 1)) 13
    ∷ gives (step (word 0b0001101 11 10 0 0) (scalars 0 2) (bench 0 2 2 3 0 0 1)) 0
    ∷ gives (step (word 0b0001101 11 10 0 0) (scalars 0 1) (bench 0 2 2 3 0 0 1)) 13
    ∷ gives (step (word 0b0001101 11 10 0 0) (scalars 4 (2 ^ 64 - 1)) (bench 0 2 2 3 0 0 1)) 13
    ∷ gives (step (word 0b0001101 11 10 0 0) (scalars 0 1) (bench 0 2 2 3 0 1 1)) 13
    ∷ []

pub overlapping-right : map (λ l. l.got) overlapping ≡ map (λ l. l.want) overlapping
unfolding overlapping word bench scalars shown gives unwritten good permitted sew new_type legal_type width_of inside misses rows_miss distinct marked listing others decode sound seals_fit step_by outcome
overlapping-right = refl

-- ---- effects

-- settings by rs1: the scalar; the maximum where only rd is given; and with both x0 the smaller of the size and the maximum (02, Three)
pub settings : List Line
settings =
    (let o = step (word 0b0011000 0 10 7 3) (scalars 1 0) good in record { got = o.bench.machine.tile_m ∷ get_or o.scalars 3 9 ∷ []; want = 1 ∷ 1 ∷ [] })
    ∷ (let o = step (word 0b0111000 0 0 7 3) (scalars 1 0) good in record { got = o.bench.machine.tile_n ∷ get_or o.scalars 3 9 ∷ []; want = 8 ∷ 8 ∷ [] })
    ∷ (let o = step (word 0b0101000 0 0 7 10) (scalars 1 0) good in record { got = o.bench.machine.tile_k ∷ get_or o.scalars 10 9 ∷ []; want = 2 ∷ 2 ∷ [] })
    ∷ (let o = step (word 0b0111000 0 0 7 0) (scalars 1 0) (bench 1 2 2 8 0 0 1) in record { got = o.bench.machine.tile_n ∷ get_or o.scalars 0 9 ∷ []; want = 4 ∷ 0 ∷ [] })
    ∷ (let o = step (word 0b0111000 0 0 7 0) (scalars 1 0) (bench 1 2 2 3 0 0 1) in record { got = o.bench.machine.tile_n ∷ get_or o.scalars 0 9 ∷ []; want = 3 ∷ 0 ∷ [] })
    ∷ (let o = step (word 0b0111000 0 11 7 11) (scalars 1 100) good in record { got = o.bench.machine.tile_n ∷ get_or o.scalars 11 9 ∷ []; want = 8 ∷ 8 ∷ [] })
    ∷ (let o = step (word 0b0001000 0 0 7 4) (scalars 1 100) (bench 8 2 2 2 0 0 1) in record { got = o.bench.machine.mtype ∷ get_or o.scalars 4 9 ∷ []; want = 0 ∷ 0 ∷ [] })
    -- an illegal value: mtype becomes 2^63, and so does rd
    ∷ (let o = step (word 0b0001000 0 11 7 4) (scalars 1 100) good in record { got = o.bench.machine.mtype ∷ get_or o.scalars 4 9 ∷ []; want = 0x8000_0000_0000_0000 ∷ 0x8000_0000_0000_0000 ∷ [] })
    -- slot 0 is read as 0 and never written
    ∷ (let o = step (word 0b0001000 0 0 7 0) (set (scalars 1 100) 0 2) (bench 8 2 2 2 0 0 1) in record { got = o.bench.machine.mtype ∷ get_or o.scalars 0 9 ∷ []; want = 0 ∷ 2 ∷ [] })
    ∷ (let o = step (word 0b0010000 0 1 7 0) (set (scalars 1 100) 0 2) good in record { got = o.bench.machine.tile_m ∷ get_or o.scalars 0 9 ∷ []; want = 1 ∷ 2 ∷ [] })
    ∷ []

pub settings-right : map (λ l. l.got) settings ≡ map (λ l. l.want) settings
unfolding settings word bench scalars good chosen permitted sew new_type legal_type listing others decode sound seals_fit step_by outcome
settings-right = refl

-- 02, Eight: sizes 3 to 9 asked at a maximum of 4, by either rule
pub sizes : map (chosen 0 4) (3 ∷ 4 ∷ 5 ∷ 6 ∷ 7 ∷ 8 ∷ 9 ∷ []) ++ map (chosen 1 4) (3 ∷ 4 ∷ 5 ∷ 6 ∷ 7 ∷ 8 ∷ 9 ∷ [])
    ≡ 3 ∷ 4 ∷ 4 ∷ 4 ∷ 4 ∷ 4 ∷ 4 ∷ 3 ∷ 4 ∷ 3 ∷ 3 ∷ 4 ∷ 4 ∷ 4 ∷ []
unfolding chosen halving
sizes = refl

-- words at SEW 16, where at most 4 columns fit, on a halving machine: 7, 6 and 5 are asked, then by a scalar; the maximum; and with both x0 a
-- size of 6 becomes the smaller of the two
pub halved : ℕ → ℕ → List ℕ → Line
halved w x want =
    let o = step w (scalars x 0) (ruled 1 (bench 1 2 2 6 0 0 1)) in
    record { got = o.answer.number ∷ o.bench.machine.tile_n ∷ get_or o.scalars 3 9 ∷ []; want = 0 ∷ want }

pub halved_sizes : List Line
halved_sizes =
    halved (word 0b0110000 0 7 7 3) 0 (4 ∷ 4 ∷ [])
    ∷ halved (word 0b0110000 0 6 7 3) 0 (3 ∷ 3 ∷ [])
    ∷ halved (word 0b0110000 0 5 7 3) 0 (3 ∷ 3 ∷ [])
    ∷ halved (word 0b0111000 0 10 7 3) 5 (3 ∷ 3 ∷ [])
    ∷ halved (word 0b0111000 0 0 7 3) 0 (4 ∷ 4 ∷ [])
    ∷ halved (word 0b0111000 0 0 7 0) 0 (4 ∷ 0 ∷ [])
    ∷ []

pub halved-right : map (λ l. l.got) halved_sizes ≡ map (λ l. l.want) halved_sizes
unfolding halved_sizes halved word bench scalars with ruled chosen halving permitted sew new_type legal_type listing others decode sound seals_fit step_by outcome
halved-right = refl

-- 02, Three: "A technician changed from 8 to 16 bits, renewed his sizes in this way and was refused with 4." Words one after another,
-- with a memory row of 8 bytes at 0 and at 8
pub after : List ℕ → Bench → Bench
after [] B = B
after (w ∷ ws) B = after ws (step w (scalars 0 8) B).bench

-- msettypei to 16 bits; msettilem, msettilek and msettilen with rs1 and rd both x0
pub changed : List ℕ
changed = word 0b0000000 0 1 7 0 ∷ []

pub renewed : List ℕ
renewed = word 0b0000000 0 1 7 0 ∷ word 0b0011000 0 0 7 0 ∷ word 0b0101000 0 0 7 0 ∷ word 0b0111000 0 0 7 0 ∷ []

pub sizes_of : Bench → List ℕ
sizes_of B = B.machine.tile_m ∷ B.machine.tile_k ∷ B.machine.tile_n ∷ []

-- a load of B of 16 bits, before and after
pub technician : List Line
technician =
    gives (step (word 0b0000100 11 10 1 0) (scalars 0 8) (after changed (bench 0 2 2 8 0 0 1))) 4
    ∷ gives (step (word 0b0000100 11 10 1 0) (scalars 0 8) (after renewed (bench 0 2 2 8 0 0 1))) 0
    ∷ record { got = sizes_of (after renewed (bench 0 2 2 8 0 0 1)); want = 2 ∷ 2 ∷ 4 ∷ [] }
    ∷ []

pub technician-right : map (λ l. l.got) technician ≡ map (λ l. l.want) technician
unfolding technician after changed renewed sizes_of word bench scalars shown gives permitted sew new_type legal_type width_of inside misses rows_miss listing others decode sound seals_fit step_by outcome
technician-right = refl

-- acc0 and acc1 hold 0xFB, -5 at SEW 8, in every byte: one element of each instruction, with the byte after it
pub bytes : Outcome → ℕ → List ℕ
bytes o p = get_or o.bench.registers p 0 ∷ get_or o.bench.registers (p + 1) 0 ∷ get_or o.bench.registers (p + 2) 0 ∷ []

pub minus5 : ℕ → Bench
minus5 t = record { machine = (bench t 1 1 1 0 0 1).machine; seals = []; registers = replicate 256 0xFB; marks = replicate 256 1; memory = [] }

pub arithmetic : List Line
arithmetic =
    -- maddc, mwaddc, msubc, mwsubc, mrsubc, mwrsubc: md is 0xFB or 0xFBFB (-1029), ms1 is -5
    record { got = bytes (step (word 0b0001000 0 1 6 0) (scalars 0 0) (minus5 0)) 128; want = 0xF6 ∷ 0xFB ∷ 0xFB ∷ [] }
    ∷ record { got = bytes (step (word 0b0001010 0 1 6 0) (scalars 0 0) (minus5 0)) 128; want = 0xF6 ∷ 0xFB ∷ 0xFB ∷ [] }
    ∷ record { got = bytes (step (word 0b0001110 0 1 6 0) (scalars 0 0) (minus5 0)) 128; want = 0 ∷ 0xFB ∷ 0xFB ∷ [] }
    ∷ record { got = bytes (step (word 0b0010000 0 1 6 0) (scalars 0 0) (minus5 0)) 128; want = 0 ∷ 0xFC ∷ 0xFB ∷ [] }
    ∷ record { got = bytes (step (word 0b0010100 0 1 6 0) (scalars 0 0) (minus5 0)) 128; want = 0 ∷ 0xFB ∷ 0xFB ∷ [] }
    ∷ record { got = bytes (step (word 0b0010110 0 1 6 0) (scalars 0 0) (minus5 0)) 128; want = 0 ∷ 4 ∷ 0xFB ∷ [] }
    -- memulc.mx by 259 (3), mwemulc.mx by 255 (-1) into its own source, memulc.mi and mwemulc.mi by -16
    ∷ record { got = bytes (step (word 0b0011010 10 1 6 0) (scalars 259 0) (minus5 0)) 128; want = 0xF1 ∷ 0xFB ∷ 0xFB ∷ [] }
    ∷ record { got = bytes (step (word 0b0011100 10 0 6 0) (scalars 255 0) (minus5 0)) 128; want = 5 ∷ 0 ∷ 0xFB ∷ [] }
    ∷ record { got = bytes (step (word 0b0100000 16 1 6 0) (scalars 0 0) (minus5 0)) 128; want = 80 ∷ 0xFB ∷ 0xFB ∷ [] }
    ∷ record { got = bytes (step (word 0b0100010 16 1 6 0) (scalars 0 0) (minus5 0)) 128; want = 80 ∷ 0 ∷ 0xFB ∷ [] }
    -- mma, mwma: -5 x -5 on 0xFB and 0xFBFB
    ∷ record { got = bytes (step (word 0b0000000 1 0 6 1) (scalars 0 0) (minus5 0)) 192; want = 20 ∷ 0xFB ∷ 0xFB ∷ [] }
    ∷ record { got = bytes (step (word 0b0000010 1 0 6 1) (scalars 0 0) (minus5 0)) 192; want = 0x14 ∷ 0xFC ∷ 0xFB ∷ [] }
    ∷ []

pub arithmetic-right : map (λ l. l.got) arithmetic ≡ map (λ l. l.want) arithmetic
unfolding arithmetic bytes minus5 word bench scalars permitted sew new_type legal_type width_ok marked listing others decode sound seals_fit step_by outcome put_tile put_row put_le mark_tile mark_row reduce
arithmetic-right = refl

-- 02, Four: mfma.mm acc0, tr0, tr1 of one row, two terms and one column: 0.5 + 1.5 x 2 + -3 x 4 is -8.5, and other bytes stay
pub halves : Bench
halves =
    let B = bench 2 1 2 1 0 0 1 in
    record {
      machine = B.machine;
      seals = [];
      registers = 0 ∷ 0 ∷ 0xC0 ∷ 0x3F ∷ 0 ∷ 0 ∷ 0x40 ∷ 0xC0 ∷ replicate 8 9
          ++ 0 ∷ 0 ∷ 0 ∷ 0x40 ∷ replicate 4 9 ++ 0 ∷ 0 ∷ 0x80 ∷ 0x40 ∷ replicate 100 9 ++ 0 ∷ 0 ∷ 0 ∷ 0x3F ∷ replicate 124 9;
      marks = B.marks;
      memory = [];
    }

pub halves-right : drop 126 (take 134 (step (word 0b0000001 1 0 6 0) (scalars 0 0) halves).bench.registers) ≡ 9 ∷ 9 ∷ 0 ∷ 0 ∷ 0x08 ∷ 0xC1 ∷ 9 ∷ 9 ∷ []
unfolding halves word bench scalars permitted sew new_type legal_type marked listing others decode sound seals_fit step_by outcome put_tile put_row put_le mark_tile mark_row value_of settled multiply_add float_sum float_product Ieee.add Ieee.mul Ieee.of_bits Ieee.to_bits
halves-right = refl

-- 02, Two: B of two rows and three columns, transposed. Memory, or tr0 on, counts its bytes from 0
unfoldable pub counting : ℕ → ℕ → List ℕ
counting zero x = []
counting (suc n) x = x ∷ counting n (x + 1)

pub counted : ℕ → Bench
counted t =
    let B = bench t 2 2 3 0 0 1 in
    record { machine = B.machine; seals = B.seals; registers = counting 24 0 ++ replicate 232 5; marks = B.marks; memory = counting 32 0 }

pub transposed : List Line
transposed =
    -- mlbte8.m and mlbte16.m to tr1: rows of memory at 0, 8 and 16 become columns
    (let o = step (word 0b0001100 11 10 0 1) (scalars 0 8) (counted 0) in
    record { got = take 12 (drop 16 o.bench.registers); want = 0 ∷ 8 ∷ 16 ∷ 19 ∷ 20 ∷ 21 ∷ 22 ∷ 23 ∷ 1 ∷ 9 ∷ 17 ∷ 5 ∷ [] })
    ∷ (let o = step (word 0b0001100 11 10 1 1) (scalars 0 8) (counted 1) in
    record { got = take 16 (drop 16 o.bench.registers); want = 0 ∷ 1 ∷ 8 ∷ 9 ∷ 16 ∷ 17 ∷ 22 ∷ 23 ∷ 2 ∷ 3 ∷ 10 ∷ 11 ∷ 18 ∷ 19 ∷ 5 ∷ 5 ∷ [] })
    -- msbte8.m of tr0 to rows at 1, 5 and 9: its columns become rows
    ∷ (let o = step (word 0b0001101 11 10 0 0) (scalars 1 4) (counted 0) in
    record { got = take 12 o.bench.memory; want = 0 ∷ 0 ∷ 8 ∷ 3 ∷ 4 ∷ 1 ∷ 9 ∷ 7 ∷ 8 ∷ 2 ∷ 10 ∷ 11 ∷ [] })
    -- at 1, 3 and 5, and at 5, 3 and 1: rows that touch
    ∷ (let o = step (word 0b0001101 11 10 0 0) (scalars 1 2) (counted 0) in
    record { got = take 8 o.bench.memory; want = 0 ∷ 0 ∷ 8 ∷ 1 ∷ 9 ∷ 2 ∷ 10 ∷ 7 ∷ [] })
    ∷ (let o = step (word 0b0001101 11 10 0 0) (scalars 5 (2 ^ 64 - 2)) (counted 0) in
    record { got = take 8 o.bench.memory; want = 0 ∷ 2 ∷ 10 ∷ 1 ∷ 9 ∷ 0 ∷ 8 ∷ 7 ∷ [] })
    ∷ []

pub transposed-right : map (λ l. l.got) transposed ≡ map (λ l. l.want) transposed
unfolding transposed counting counted word bench scalars permitted sew new_type legal_type width_of inside misses rows_miss distinct stored marked listing others decode sound seals_fit step_by outcome put_tile put_row put_le mark_tile mark_row
transposed-right = refl

-- ---- 02, Ten

-- RLEN, MLEN and ELEN: the least and the largest; ELEN not below RLEN, and others; lengths past the bounds, or not above one another
pub lengths : permitted 64 128 32 ∷ permitted 64 65536 32 ∷ permitted 4096 8192 32 ∷ permitted 128 256 64 ∷ permitted 4096 65536 64
    ∷ permitted 64 128 64 ∷ permitted 128 256 16 ∷ permitted 128 256 48 ∷ permitted 256 512 128
    ∷ permitted 32 128 32 ∷ permitted 8192 65536 64 ∷ permitted 4096 131072 64 ∷ permitted 4096 4096 64 ∷ permitted 192 256 64 ∷ []
    ≡ true ∷ true ∷ true ∷ true ∷ true ∷ false ∷ false ∷ false ∷ false ∷ false ∷ false ∷ false ∷ false ∷ false ∷ []
unfolding permitted
lengths = refl

-- "msew 3 means 64 bits where ELEN is 64, and 4 x 16 bits is then allowed for C": mtype 2, 3, 4, 8 to 11 and 16 set by either ELEN
pub types : map (new_type 32) (2 ∷ 3 ∷ 4 ∷ 8 ∷ 9 ∷ 10 ∷ 11 ∷ 16 ∷ []) ++ map (new_type 64) (2 ∷ 3 ∷ 4 ∷ 8 ∷ 9 ∷ 10 ∷ 11 ∷ 16 ∷ [])
    ≡ 2 ∷ 2 ^ 63 ∷ 2 ^ 63 ∷ 8 ∷ 2 ^ 63 ∷ 2 ^ 63 ∷ 2 ^ 63 ∷ 2 ^ 63 ∷ 2 ∷ 3 ∷ 2 ^ 63 ∷ 8 ∷ 9 ∷ 2 ^ 63 ∷ 2 ^ 63 ∷ 2 ^ 63 ∷ []
unfolding new_type legal_type sew
types = refl

-- RLEN 128 and MLEN 256, with this ELEN and mtype: two rows of sixteen bytes; tr1 from byte 32 on, acc0 from 256 and acc1 from 384 on, in rows
-- of 64
pub larger : (elen t m k n : ℕ) → Bench
larger e t m k n = record {
  machine = record { rlen = 128; mlen = 256; mtype = t; tile_m = m; tile_k = k; tile_n = n; rule = 0; elen = e };
  seals = [];
  registers = replicate 512 5;
  marks = replicate 512 1;
  memory = replicate 32 9;
}

pub elen64 : List Line
elen64 =
    -- 8, before 10: an ELEN of 16 or 48, or of RLEN; an mtype that cannot arise by this ELEN
    gives (step 0 (scalars 0 0) (larger 16 0 2 2 2)) 8
    ∷ gives (step 0 (scalars 0 0) (larger 48 0 2 2 2)) 8
    ∷ gives (step 0 (scalars 0 0) (larger 128 0 2 2 2)) 8
    ∷ gives (step 0 (scalars 0 0) (with (record { rlen = 64; mlen = 128; mtype = 0; tile_m = 0; tile_k = 0; tile_n = 0; rule = 0; elen = 64 }) good)) 8
    ∷ gives (step 0 (scalars 0 0) (larger 32 3 2 2 2)) 8
    ∷ gives (step 0 (scalars 0 0) (larger 32 9 2 2 2)) 8
    ∷ gives (step 0 (scalars 0 0) (larger 64 10 2 2 2)) 8
    ∷ gives (step 0 (scalars 0 0) (larger 64 3 2 2 2)) 10
    ∷ gives (step 0 (scalars 0 0) (larger 64 9 2 2 2)) 10
    -- 3: mlae64.m at SEW 64, at SEW 32, and where ELEN is 32
    ∷ gives (step (word 0b0000010 11 10 3 0) (scalars 0 16) (larger 64 3 2 2 2)) 0
    ∷ gives (step (word 0b0000010 11 10 3 0) (scalars 0 16) (larger 64 2 2 2 2)) 3
    ∷ gives (step (word 0b0000010 11 10 3 0) (scalars 0 16) (larger 32 2 2 2 2)) 3
    -- 64 bits of C: at SEW 64; at SEW 32, by either ELEN; at SEW 16, with maccq and without
    ∷ gives (step (word 0b0000000 11 10 3 0) (scalars 0 16) (larger 64 3 2 2 2)) 0
    ∷ gives (step (word 0b0000000 11 10 3 0) (scalars 0 16) (larger 64 2 2 2 2)) 0
    ∷ gives (step (word 0b0000000 11 10 3 0) (scalars 0 16) (larger 32 2 2 2 2)) 3
    ∷ gives (step (word 0b0000000 11 10 3 0) (scalars 0 16) (larger 64 9 2 2 2)) 0
    ∷ gives (step (word 0b0000000 11 10 3 0) (scalars 0 16) (larger 64 1 2 2 2)) 3
    -- mwma.mm at SEW 32, by either ELEN, and at SEW 64; mqma.mm at SEW 16, with maccq and without; mfma.mm at SEW 32 and 64
    ∷ gives (step (word 0b0000010 1 0 6 0) (scalars 0 0) (larger 64 2 2 2 2)) 0
    ∷ gives (step (word 0b0000010 1 0 6 0) (scalars 0 0) (larger 32 2 2 2 2)) 3
    ∷ gives (step (word 0b0000010 1 0 6 0) (scalars 0 0) (larger 64 3 2 2 2)) 3
    ∷ gives (step (word 0b0000100 1 0 6 0) (scalars 0 0) (larger 64 9 2 2 2)) 0
    ∷ gives (step (word 0b0000100 1 0 6 0) (scalars 0 0) (larger 64 1 2 2 2)) 3
    ∷ gives (step (word 0b0000001 1 0 6 0) (scalars 0 0) (larger 64 2 2 2 2)) 0
    ∷ gives (step (word 0b0000001 1 0 6 0) (scalars 0 0) (larger 64 3 2 2 2)) 3
    -- 4: two columns fit at SEW 64, four at SEW 32
    ∷ gives (step (word 0b0000100 11 10 3 0) (scalars 0 0) (larger 64 3 2 2 3)) 4
    ∷ gives (step (word 0b0000100 11 10 2 0) (scalars 0 0) (larger 64 2 2 2 3)) 0
    -- 5: the last byte of element (1, 1) of C, and of one of 4 x 16 bits
    ∷ unwritten (step (word 0b0000000 1 0 6 0) (scalars 0 0) (marking (set (replicate 512 1) 335 0) (larger 64 3 2 2 2))) 1 1
    ∷ unwritten (step (word 0b0000100 1 0 6 0) (scalars 0 0) (marking (set (replicate 512 1) 335 0) (larger 64 9 2 2 2))) 1 1
    ∷ []

pub elen64-right : map (λ l. l.got) elen64 ≡ map (λ l. l.want) elen64
unfolding elen64 larger word bench scalars shown gives unwritten good marking with permitted sew new_type legal_type width_ok width_of inside misses rows_miss distinct marked listing others decode sound seals_fit step_by outcome
elen64-right = refl

-- row 0 of tr0, of tr1, row 1 of tr1 and row 0 of acc0, each from its first byte on, among bytes of 9
pub wide_rows : (a b b' c : List ℕ) → List ℕ
wide_rows a b b' c = take 32 (a ++ replicate 32 9) ++ take 16 (b ++ replicate 16 9) ++ take 208 (b' ++ replicate 208 9) ++ take 256 (c ++ replicate 256 9)

-- acc0 of one row after a word, at this mtype, of k terms and n columns: its first 17 bytes
pub accumulated : (t k n w : ℕ) → (registers : List ℕ) → List ℕ
accumulated t k n w registers =
    take 17 (drop 256 (step w (scalars (2 ^ 64 - 3) 0) (record { machine = (larger 64 t 1 k n).machine; seals = []; registers = registers; marks = replicate 512 1; memory = [] })).bench.registers)

pub sums64 : List Line
sums64 =
    -- mma.mm at SEW 64: A is -2^63 and 2^32 + 1, B is 3, -1 and 2^32 - 1, -2, C is 5, -1: 2^63 + 4 and 2^63 - 2^33 - 3
    record {
      got = accumulated 3 2 2 (word 0b0000000 1 0 6 0)
          (wide_rows (replicate 7 0 ++ 0x80 ∷ 1 ∷ 0 ∷ 0 ∷ 0 ∷ 1 ∷ 0 ∷ 0 ∷ 0 ∷ []) (3 ∷ replicate 7 0 ++ replicate 8 0xFF) (replicate 4 0xFF ++ replicate 4 0 ++ 0xFE ∷ replicate 7 0xFF) (5 ∷ replicate 7 0 ++ replicate 8 0xFF));
      want = 4 ∷ replicate 6 0 ++ 0x80 ∷ 0xFD ∷ 0xFF ∷ 0xFF ∷ 0xFF ∷ 0xFD ∷ 0xFF ∷ 0xFF ∷ 0x7F ∷ 9 ∷ [];
    }
    -- mwma.mm at SEW 32: twice -2^31 x -2^31, on -1, is 2^63 - 1
    ∷ record {
      got = accumulated 2 2 1 (word 0b0000010 1 0 6 0)
          (wide_rows (0 ∷ 0 ∷ 0 ∷ 0x80 ∷ 0 ∷ 0 ∷ 0 ∷ 0x80 ∷ []) (0 ∷ 0 ∷ 0 ∷ 0x80 ∷ []) (0 ∷ 0 ∷ 0 ∷ 0x80 ∷ []) (replicate 8 0xFF));
      want = replicate 7 0xFF ++ 0x7F ∷ replicate 9 9;
    }
    -- mqma.mm at SEW 16, 4 x 16 bits: twice -2^15 x -2^15, on 2^63 - 1, is 2^63 + 2^31 - 1, which is -2^63 + 2^31 - 1
    ∷ record {
      got = accumulated 9 2 1 (word 0b0000100 1 0 6 0)
          (wide_rows (0 ∷ 0x80 ∷ 0 ∷ 0x80 ∷ []) (0 ∷ 0x80 ∷ []) (0 ∷ 0x80 ∷ []) (replicate 7 0xFF ++ 0x7F ∷ []));
      want = 0xFF ∷ 0xFF ∷ 0xFF ∷ 0x7F ∷ 0 ∷ 0 ∷ 0 ∷ 0x80 ∷ replicate 9 9;
    }
    -- memulc.mx at SEW 64 by the whole scalar, -3: acc0 holds 2^32 + 5
    ∷ record {
      got = accumulated 3 0 1 (word 0b0011010 10 0 6 0) (wide_rows [] [] [] (5 ∷ 0 ∷ 0 ∷ 0 ∷ 1 ∷ 0 ∷ 0 ∷ 0 ∷ []));
      want = 0xF1 ∷ 0xFF ∷ 0xFF ∷ 0xFF ∷ 0xFC ∷ 0xFF ∷ 0xFF ∷ 0xFF ∷ replicate 9 9;
    }
    -- mqemulc.mi at SEW 16 by -16, into its own source: 4 x 16 bits
    ∷ record {
      got = accumulated 9 0 2 (word 0b0100100 16 0 6 0) (wide_rows [] [] [] (5 ∷ 0 ∷ 0xFF ∷ 0xFF ∷ []));
      want = 0xB0 ∷ replicate 7 0xFF ++ 16 ∷ replicate 7 0 ++ 9 ∷ [];
    }
    ∷ []

pub sums64-right : map (λ l. l.got) sums64 ≡ map (λ l. l.want) sums64
unfolding sums64 accumulated wide_rows larger word scalars permitted sew new_type legal_type width_ok marked listing others decode sound seals_fit step_by outcome put_tile put_row put_le mark_tile mark_row reduce
sums64-right = refl

-- mlce64.m and msce64.m of two rows and one column: eight bytes of each row of memory, and of acc0
pub moved64 : List Line
moved64 =
    (let o = step (word 0b0000000 11 10 3 0) (scalars 1 16) (record { machine = (larger 64 3 2 2 1).machine; seals = []; registers = replicate 512 5; marks = replicate 512 0; memory = counting 32 0 }) in
    record {
      got = take 9 (drop 256 o.bench.registers) ++ take 9 (drop 320 o.bench.registers) ++ take 9 (drop 320 o.bench.marks);
      want = 1 ∷ 2 ∷ 3 ∷ 4 ∷ 5 ∷ 6 ∷ 7 ∷ 8 ∷ 5 ∷ 17 ∷ 18 ∷ 19 ∷ 20 ∷ 21 ∷ 22 ∷ 23 ∷ 24 ∷ 5 ∷ replicate 8 1 ++ 0 ∷ [];
    })
    ∷ (let o = step (word 0b0000001 11 10 3 0) (scalars 1 9) (record { machine = (larger 64 3 2 2 1).machine; seals = []; registers = replicate 256 0 ++ counting 256 0; marks = replicate 512 1; memory = replicate 20 99 }) in
    record { got = o.bench.memory; want = 99 ∷ 0 ∷ 1 ∷ 2 ∷ 3 ∷ 4 ∷ 5 ∷ 6 ∷ 7 ∷ 99 ∷ 64 ∷ 65 ∷ 66 ∷ 67 ∷ 68 ∷ 69 ∷ 70 ∷ 71 ∷ 99 ∷ 99 ∷ [] })
    ∷ []

pub moved64-right : map (λ l. l.got) moved64 ≡ map (λ l. l.want) moved64
unfolding moved64 larger counting word scalars permitted sew new_type legal_type width_of inside misses rows_miss distinct stored marked listing others decode sound seals_fit step_by outcome put_tile put_row put_le mark_tile mark_row
moved64-right = refl
