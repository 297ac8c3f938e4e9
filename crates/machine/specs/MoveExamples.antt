-- 02, Eleven: moves of slices, computed: a machine of RLEN 64 and MLEN 128, whose accumulators have two rows of 32 bytes, from bytes 128 and
-- 192 on.
use Rattle.std.specs.Prelude.{◌≡◌, ◌∷◌, ◌++◌, ◌-◌, ◌^◌}
use Rattle.numbers.specs.Kit.{refl, List, [], map, ℕ, replicate, set, take, drop}
use Rattle.numbers.specs.Tile.{put_tile, put_row, put_le, mark_tile, mark_row}
use Rattle.machine.specs.Geometry.{permitted, Bench}
use Rattle.machine.specs.Setting.{sew, new_type, legal_type}
use Rattle.machine.specs.Refusals.{marked}
use Rattle.machine.specs.Listing.{decode, listing, others}
use Rattle.machine.specs.Faults.{sound, seals_fit}
use Rattle.machine.specs.Vectors.{vectors_of, vectors_fit}
use Rattle.machine.specs.Step.{VectorOutcome, vector_step, step_with}
use Rattle.machine.specs.Examples.{Line, word, bench, scalars, shown, counting}

-- mtype, tile_m and tile_n, with registers that count their bytes, and a vector file that counts its bytes twice
pub lent : (t m n : ℕ) → List ℕ → Bench
lent t m n marks =
    let B = bench t m 0 n 0 0 1 in record { machine = B.machine; seals = B.seals; registers = counting 256 0; marks = marks; memory = B.memory }

pub all : List ℕ
all = replicate 256 1

pub file : List ℕ
file = counting 256 0 ++ counting 256 0

pub told : VectorOutcome → ℕ → ℕ → ℕ → Line
told o n row column = record { got = shown o.answer; want = n ∷ row ∷ column ∷ [] }

-- mmvcr.v.m, mmvcr.m.v, mmvcc.v.m and mmvcc.m.v: rs2, ms1 or vs1, vd or md
pub rows_out : (rs2 ms1 vd : ℕ) → ℕ
rows_out rs2 ms1 vd = word 0b0000000 rs2 ms1 0b101 vd

pub rows_in : (rs2 vs1 md : ℕ) → ℕ
rows_in rs2 vs1 md = word 0b0000001 rs2 vs1 0b101 md

pub columns_out : (rs2 ms1 vd : ℕ) → ℕ
columns_out rs2 ms1 vd = word 0b0001000 rs2 ms1 0b101 vd

pub columns_in : (rs2 vs1 md : ℕ) → ℕ
columns_in rs2 vs1 md = word 0b0001001 rs2 vs1 0b101 md

pub answers : List Line
answers =
    -- 8: a bad vector file or group size, for any word
    told (vector_step 0 (scalars 0 0) (vectors_of (replicate 511 0) 1) (lent 0 2 3 all)) 8 0 0
    ∷ told (vector_step 0 (scalars 0 0) (vectors_of file 0) (lent 0 2 3 all)) 8 0 0
    ∷ told (vector_step 0 (scalars 0 0) (vectors_of file 3) (lent 0 2 3 all)) 8 0 0
    ∷ told (vector_step 0 (scalars 0 0) (vectors_of file 1) (lent 0 2 3 all)) 10 0 0
    -- 1: the other moves of section 6.1.7: mmvar.v.m, mwmvcr.v.m
    ∷ told (vector_step (word 0b0000010 10 0 0b101 0) (scalars 0 0) (vectors_of file 1) (lent 0 2 3 all)) 1 0 0
    ∷ told (vector_step (word 0b0100000 10 0 0b101 0) (scalars 0 0) (vectors_of file 1) (lent 0 2 3 all)) 1 0 0
    -- 12, before 2 and 4: no accumulator; a group of two from v3 on; from v31 on a group of one
    ∷ told (vector_step (rows_out 10 2 0) (scalars 0 0) (vectors_of file 1) (lent (2 ^ 63) 2 3 all)) 12 0 0
    ∷ told (vector_step (columns_in 10 0 2) (scalars 0 0) (vectors_of file 1) (lent (2 ^ 63) 2 3 all)) 12 0 0
    ∷ told (vector_step (rows_out 10 0 3) (scalars 0 0) (vectors_of file 2) (lent (2 ^ 63) 2 3 all)) 12 0 0
    ∷ told (vector_step (rows_in 10 3 0) (scalars 0 0) (vectors_of file 2) (lent 0 2 3 all)) 12 0 0
    ∷ told (vector_step (rows_out 10 0 3) (scalars 1 0) (vectors_of file 2) (lent 0 2 3 all)) 12 0 0
    ∷ told (vector_step (rows_out 10 0 2) (scalars 0 0) (vectors_of file 2) (lent (2 ^ 63) 2 3 all)) 2 0 0
    ∷ told (vector_step (rows_out 10 0 31) (scalars 0 0) (vectors_of file 1) (lent 0 2 3 all)) 0 0 0
    -- 4: a size above its maximum; a slice past the tile
    ∷ told (vector_step (rows_out 10 0 0) (scalars 0 0) (vectors_of file 1) (lent 2 2 3 all)) 4 0 0
    ∷ told (vector_step (rows_out 10 0 0) (scalars 0 0) (vectors_of file 1) (lent 2 2 2 all)) 0 0 0
    ∷ told (vector_step (rows_out 10 0 0) (scalars 1 0) (vectors_of file 2) (lent 0 2 3 all)) 4 0 0
    ∷ told (vector_step (columns_out 10 0 0) (scalars 1 0) (vectors_of file 2) (lent 0 2 3 all)) 0 0 0
    ∷ told (vector_step (columns_out 10 0 0) (scalars 2 0) (vectors_of file 2) (lent 0 2 3 all)) 4 0 0
    ∷ told (vector_step (rows_in 10 0 0) (scalars (2 ^ 64 - 1) 0) (vectors_of file 1) (lent 0 2 3 all)) 4 0 0
    ∷ told (vector_step (rows_in 0 0 0) (9 ∷ replicate 31 9) (vectors_of file 1) (lent 0 2 3 all)) 0 0 0
    ∷ told (vector_step (rows_out 10 0 0) (scalars 0 0) (vectors_of file 1) (lent 0 0 3 all)) 4 0 0
    ∷ told (vector_step (rows_out 10 0 0) (scalars 0 0) (vectors_of file 1) (lent 0 2 0 (replicate 256 0))) 0 0 0
    -- 5: element (1, 1) of acc0 has no mark
    ∷ told (vector_step (rows_out 10 0 0) (scalars 0 0) (vectors_of file 2) (lent 0 2 3 (set all 161 0))) 5 1 1
    ∷ told (vector_step (rows_out 10 0 0) (scalars 1 0) (vectors_of file 1) (lent 0 2 3 (set all 161 0))) 5 1 1
    ∷ told (vector_step (rows_out 10 0 0) (scalars 0 0) (vectors_of file 1) (lent 0 2 3 (set all 161 0))) 0 0 0
    ∷ told (vector_step (columns_out 10 0 0) (scalars 1 0) (vectors_of file 2) (lent 0 2 3 (set all 161 0))) 5 1 1
    ∷ told (vector_step (columns_out 10 0 0) (scalars 2 0) (vectors_of file 1) (lent 0 2 3 (set all 161 0))) 0 0 0
    ∷ told (vector_step (columns_in 10 0 0) (scalars 1 0) (vectors_of file 2) (lent 0 2 3 (set all 161 0))) 0 0 0
    ∷ []

pub answers-right : map (λ l. l.got) answers ≡ map (λ l. l.want) answers
unfolding answers lent all file told rows_out rows_in columns_out columns_in word bench scalars shown counting permitted sew new_type legal_type marked listing others decode sound seals_fit step_with vectors_fit
answers-right = refl

pub moved : List Line
moved =
    -- two rows of acc0 to v2 and v3
    (let o = vector_step (rows_out 10 0 2) (scalars 0 0) (vectors_of file 2) (lent 0 2 3 all) in
    record { got = take 22 (drop 31 o.vectors); want = 31 ∷ 128 ∷ 129 ∷ 130 ∷ 35 ∷ 36 ∷ 37 ∷ 38 ∷ 39 ∷ 40 ∷ 41 ∷ 42 ∷ 43 ∷ 44 ∷ 45 ∷ 46 ∷ 47 ∷ 160 ∷ 161 ∷ 162 ∷ 51 ∷ 52 ∷ [] })
    -- columns 1 and 2 of acc1 to v4 and v5
    ∷ (let o = vector_step (columns_out 10 1 4) (scalars 1 0) (vectors_of file 2) (lent 0 2 3 all) in
    record { got = take 20 (drop 63 o.vectors); want = 63 ∷ 193 ∷ 225 ∷ 66 ∷ 67 ∷ 68 ∷ 69 ∷ 70 ∷ 71 ∷ 72 ∷ 73 ∷ 74 ∷ 75 ∷ 76 ∷ 77 ∷ 78 ∷ 79 ∷ 194 ∷ 226 ∷ 82 ∷ [] })
    -- v1 to row 1 of acc0, which gains its marks
    ∷ (let o = vector_step (rows_in 10 1 0) (scalars 1 0) (vectors_of file 1) (lent 0 2 3 (replicate 256 0)) in
    record { got = take 5 (drop 159 o.bench.registers) ++ take 5 (drop 159 o.bench.marks); want = 159 ∷ 16 ∷ 17 ∷ 18 ∷ 163 ∷ 0 ∷ 1 ∷ 1 ∷ 1 ∷ 0 ∷ [] })
    -- at SEW 16: v2 to column 2 of acc0
    ∷ (let o = vector_step (columns_in 10 2 0) (scalars 2 0) (vectors_of file 1) (lent 1 2 3 (replicate 256 0)) in
    record { got = take 4 (drop 131 o.bench.registers) ++ take 4 (drop 163 o.bench.registers) ++ take 4 (drop 163 o.bench.marks); want = 131 ∷ 32 ∷ 33 ∷ 134 ∷ 163 ∷ 34 ∷ 35 ∷ 166 ∷ 0 ∷ 1 ∷ 1 ∷ 0 ∷ [] })
    ∷ []

pub moved-right : map (λ l. l.got) moved ≡ map (λ l. l.want) moved
unfolding moved lent all file told rows_out rows_in columns_out columns_in word bench scalars shown counting permitted sew new_type legal_type marked listing others decode sound seals_fit step_with vectors_fit put_tile put_row put_le mark_tile mark_row
moved-right = refl

-- "one row or column that exceeds 128 bits, gets 4": RLEN 256 and MLEN 512, rows of 16 and of 17 elements of 8 bits;
-- and at ELEN 64 of 2 and of 3 elements of 64 bits
pub wide : (elen t n : ℕ) → Bench
wide elen t n = record {
  machine = record { rlen = 256; mlen = 512; mtype = t; tile_m = 2; tile_k = 0; tile_n = n; rule = 0; elen = elen };
  seals = [];
  registers = replicate 1024 5;
  marks = replicate 1024 1;
  memory = [];
}

pub wide-right : map (λ n. (vector_step (rows_out 10 0 0) (scalars 0 0) (vectors_of file 1) (wide 32 0 n)).answer.number) (16 ∷ 17 ∷ []) ≡ 0 ∷ 4 ∷ []
unfolding wide file rows_out word scalars counting permitted sew new_type legal_type marked listing others decode sound seals_fit step_with vectors_fit
wide-right = refl

pub widest-right : map (λ n. (vector_step (rows_out 10 0 0) (scalars 0 0) (vectors_of file 1) (wide 64 3 n)).answer.number) (2 ∷ 3 ∷ []) ≡ 0 ∷ 4 ∷ []
unfolding wide file rows_out word scalars counting permitted sew new_type legal_type marked listing others decode sound seals_fit step_with vectors_fit
widest-right = refl
