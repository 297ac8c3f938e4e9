-- Starts that are refused and places that hand out nothing, with their neighbours, a run that keeps A transposed and a float run,
-- computed: MLEN 128, RLEN 64, ELEN 32, a memory of 64 bytes; at the end MLEN 256, RLEN 128, ELEN 64.
use Rattle.std.specs.Prelude.{◌≡◌, ◌∷◌, ◌++◌, ◌-◌, ◌*◌, ◌^◌}
use Rattle.numbers.specs.Kit.{refl, List, [], map, ℕ, length, drop, replicate, pos, negsuc}
use Rattle.std.specs.Float.Ieee as Ieee
use Rattle.numbers.specs.Reduce.{reduce}
use Rattle.numbers.specs.Tile.{put_tile, put_row, put_le, mark_tile, mark_row}
use Rattle.numbers.specs.Blocks.{chunks}
use Rattle.numbers.specs.Binary32.{value_of, settled, multiply_add, float_sum, float_product}
use Rattle.machine.specs.Geometry.{permitted}
use Rattle.machine.specs.Setting.{halving, chosen, new_type, legal_type, sew}
use Rattle.machine.specs.Memory.{inside, misses, rows_miss, distinct, stored}
use Rattle.machine.specs.Operation.{element}
use Rattle.machine.specs.Refusals.{marked}
use Rattle.machine.specs.TransferWords.{width_of}
use Rattle.machine.specs.ArithmeticWords.{width_ok}
use Rattle.machine.specs.Listing.{decode, listing}
use Rattle.machine.specs.Step.{step_by, outcome}
use Rattle.machine.specs.Geometry.{Range, range, Bench, bench_of}
use Rattle.machine.specs.Faults.{sound, seals_fit}
use Rattle.run.specs.declared.Layout.{Layout}
use Rattle.run.specs.declared.Plan.{Plan}
use Rattle.run.specs.declared.Place.{Place}
use Rattle.run.specs.declared.Place.TheVariants.{AtType, AtM, AtN, AtMultiply, AtStore, AtEnd}
use Rattle.run.specs.declared.Handed.{Handed}
use Rattle.run.specs.Words.{set_type, load_a, load_b, multiply, store, Shape, words, steps}
use Rattle.run.specs.Plan.{narrow, msew, type_of, c_at}
use Rattle.run.specs.Encoding.{handed_for}
use Rattle.run.specs.Start.{start_run, format, kind_fit, planned, lying, apart, separate}
use Rattle.run.specs.Turn.{sound_run, ask, Running, after_turns, answered_done}

-- a sound machine with a seal, or one at fault for its mtype or its rule
pub ruled : (rule mtype sealStart sealLength : ℕ) → Bench
ruled r t s l = record {
  machine = record { rlen = 64; mlen = 128; mtype = t; tile_m = 0; tile_k = 0; tile_n = 0; rule = r; elen = 32 };
  seals = range s l ∷ [];
  registers = replicate 256 0;
  marks = replicate 256 0;
  memory = replicate 64 1;
}

pub bench : (mtype sealStart sealLength : ℕ) → Bench
bench = ruled 0

pub layout : ℕ → ℕ → Layout
layout address stride = record { address = address; stride = stride }

pub plan : (s f m k n : ℕ) → Layout → Layout → Layout → Plan
plan s f m k n a b c = record { kind = 0; sew = s; factor = f; m = m; k = k; n = n; a = a; b = b; c = c }

pub of_kind : ℕ → Plan → Plan
of_kind kind P = record { kind = kind; sew = P.sew; factor = P.factor; m = P.m; k = P.k; n = P.n; a = P.a; b = P.b; c = P.c }

pub record Line : Type 0 where
  pub got : ℕ
  pub want : ℕ

pub gives : Bench → Plan → ℕ → Line
gives B P want = record { got = (start_run chosen P B).answer.number; want = want }

pub free : Bench
free = bench 0 0 0

-- with several ranges
pub sealing : List Range → Bench
sealing seals = bench_of free.machine seals free.registers free.marks free.memory

-- 1 x 3 x 1 at SEW 8, f = 1, with A's rows 2 bytes apart
pub dot : (a c : ℕ) → Plan
dot a c = plan 8 1 1 3 1 (layout a 2) (layout 8 1) (layout c 1)

-- 2 x 2 x 2 at SEW 8, f = 1
pub small : Layout → Layout → Layout → Plan
small a b c = plan 8 1 2 2 2 a b c

pub examples : List Line
examples =
    gives free (small (layout 0 2) (layout 8 2) (layout 16 2)) 0
    -- 8: the state, SEW, f, f x SEW, a size, even beside a size 0
    ∷ gives (bench 3 0 0) (small (layout 0 2) (layout 8 2) (layout 16 2)) 8
    ∷ gives (ruled 1 0 0 0) (small (layout 0 2) (layout 8 2) (layout 16 2)) 0
    ∷ gives (ruled 2 0 0 0) (small (layout 0 2) (layout 8 2) (layout 16 2)) 8
    ∷ gives free (plan 64 1 2 2 2 (layout 0 2) (layout 8 2) (layout 16 2)) 8
    ∷ gives free (plan 0 1 2 2 2 (layout 0 2) (layout 8 2) (layout 16 2)) 8
    ∷ gives free (plan 8 3 2 2 2 (layout 0 2) (layout 8 2) (layout 16 2)) 8
    ∷ gives free (plan 16 4 2 2 2 (layout 0 4) (layout 8 4) (layout 16 16)) 8
    ∷ gives free (plan 32 2 1 1 1 (layout 0 4) (layout 8 4) (layout 16 16)) 8
    ∷ gives free (plan 8 1 0 0 1025 (layout 0 2) (layout 8 2) (layout 16 2)) 8
    ∷ gives free (plan 8 1 0 0 1024 (layout 0 2) (layout 8 2) (layout 16 2)) 0
    -- 6: the last byte of memory, one further, a row below 0; a matrix with no element has nothing to test
    ∷ gives free (small (layout 0 2) (layout 8 2) (layout 60 2)) 0
    ∷ gives free (small (layout 0 2) (layout 8 2) (layout 61 2)) 6
    ∷ gives free (small (layout 2 (2 ^ 64 - 2)) (layout 8 2) (layout 16 2)) 0
    ∷ gives free (small (layout 1 (2 ^ 64 - 2)) (layout 8 2) (layout 16 2)) 6
    ∷ gives free (plan 8 1 2 0 2 (layout 100 2) (layout 100 2) (layout 16 2)) 0
    -- 6 before 9
    ∷ gives free (small (layout 0 2) (layout 63 2) (layout 0 2)) 6
    -- 9: two rows of C, A, B, the seal
    ∷ gives free (small (layout 0 2) (layout 8 2) (layout 16 1)) 9
    ∷ gives free (small (layout 0 2) (layout 8 2) (layout 16 (2 ^ 64 - 1))) 9
    ∷ gives free (small (layout 0 2) (layout 8 2) (layout 3 2)) 9
    ∷ gives free (small (layout 0 2) (layout 8 2) (layout 5 2)) 9
    ∷ gives (bench 0 19 1) (small (layout 0 2) (layout 8 2) (layout 16 2)) 9
    ∷ gives (bench 0 20 100) (small (layout 0 2) (layout 8 2) (layout 16 2)) 0
    ∷ gives (bench 0 17 0) (small (layout 0 2) (layout 8 2) (layout 16 2)) 0
    -- of three ranges the last one has a byte of C; the first one; none
    ∷ gives (sealing (range 0 8 ∷ range 20 30 ∷ range 19 1 ∷ [])) (small (layout 0 2) (layout 8 2) (layout 16 2)) 9
    ∷ gives (sealing (range 14 3 ∷ range 20 30 ∷ range 0 8 ∷ [])) (small (layout 0 2) (layout 8 2) (layout 16 2)) 9
    ∷ gives (sealing (range 0 8 ∷ range 20 30 ∷ range 8 8 ∷ [])) (small (layout 0 2) (layout 8 2) (layout 16 2)) 0
    -- C's rows may lie in the gaps of A; A and B may share bytes; sealed bytes may be read
    ∷ gives (bench 0 0 10) (small (layout 0 8) (layout 0 8) (layout 10 4)) 0
    -- of kind 1, A is 3 rows of 1 element, not 1 row of 3: 6 and 9
    ∷ gives free (dot 61 16) 0
    ∷ gives free (of_kind 1 (dot 61 16)) 6
    ∷ gives free (of_kind 1 (dot 59 16)) 0
    ∷ gives free (dot 12 13) 9
    ∷ gives free (of_kind 1 (dot 12 13)) 0
    ∷ gives free (dot 12 16) 0
    ∷ gives free (of_kind 1 (dot 12 16)) 9
    -- of kind 2, SEW is 32 and f is 1; there is no kind 3
    ∷ gives free (of_kind 2 (plan 32 1 1 1 1 (layout 0 4) (layout 8 4) (layout 16 4))) 0
    ∷ gives free (of_kind 2 (plan 16 1 1 1 1 (layout 0 4) (layout 8 4) (layout 16 4))) 8
    ∷ gives free (of_kind 2 (plan 16 2 1 1 1 (layout 0 4) (layout 8 4) (layout 16 4))) 8
    ∷ gives free (of_kind 3 (plan 32 1 1 1 1 (layout 0 4) (layout 8 4) (layout 16 4))) 8
    ∷ []

pub starts : map (λ l. l.got) examples ≡ map (λ l. l.want) examples
unfolding examples bench ruled layout plan of_kind dot gives free sealing small permitted new_type legal_type sew inside misses rows_miss distinct sound seals_fit narrow msew type_of start_run format kind_fit planned lying apart separate
starts = refl

-- ---- asking

-- 4 x 4 x 12 at SEW 8, in blocks of 2 rows and 2 terms, and of 8 and 4 columns, or by halving of 6 and 6
pub asks : (rule : ℕ) → Place → ℕ → Line
asks r p want = record {
  got = (ask chosen (record { plan = plan 8 1 4 4 12 (layout 0 4) (layout 0 12) (layout 0 12); rlen = 64; mlen = 128; rule = r; elen = 32; place = p })).answer.number;
  want = want;
}

pub places : List Line
places =
    -- 8: between the starts of blocks, outside the matrices, past the last step
    asks 0 AtType 0
    ∷ asks 0 (AtM 2) 0
    ∷ asks 0 (AtM 1) 8
    ∷ asks 0 (AtM 4) 8
    ∷ asks 0 (AtN 2 8) 0
    ∷ asks 0 (AtN 2 4) 8
    ∷ asks 0 (AtStore 0 8) 0
    ∷ asks 0 (AtStore 3 8) 8
    ∷ asks 0 (AtMultiply 2 8 2) 0
    ∷ asks 0 (AtMultiply 2 8 3) 8
    ∷ asks 0 (AtMultiply 2 8 4) 8
    ∷ asks 0 AtEnd 8
    -- 02, Eight: blocks start elsewhere by the other rule, and there is no third
    ∷ asks 0 (AtN 2 6) 8
    ∷ asks 1 (AtN 2 6) 0
    ∷ asks 1 (AtN 2 8) 8
    ∷ asks 2 AtType 8
    ∷ []

pub asked-at : map (λ l. l.got) places ≡ map (λ l. l.want) places
unfolding places asks layout plan chosen halving permitted sew msew type_of format kind_fit planned sound_run chunks
asked-at = refl

-- ---- both rules

-- 7 by 8 by 14 at SEW 16 on a machine of MLEN 256 and RLEN 64: where blocks of 7 rows and of 14 columns start, and the number of steps, by the
-- formula and by the list of words
pub blocks : (rule : ℕ) → List ℕ
blocks r =
    let S : Shape = record { grant = chosen r; tm = 4; tk = 4; tn = 4; m = 7; k = 8; n = 14 } in
    chunks S.grant S.tm S.m 0 ++ chunks S.grant S.tn S.n 0 ++ steps S ∷ length (words S) ∷ []

pub same_count : blocks 0 ++ blocks 1 ≡ 0 ∷ 4 ∷ 0 ∷ 4 ∷ 8 ∷ 12 ∷ 91 ∷ 91 ∷ 0 ∷ 4 ∷ 0 ∷ 4 ∷ 8 ∷ 11 ∷ 91 ∷ 91 ∷ []
unfolding blocks chosen halving chunks
same_count = refl

-- 1 by 1 by 10 at SEW 8, where at most 8 columns fit: blocks of 8 and 2, or by halving of 5 and 5
pub row : Plan
row = plan 8 1 1 1 10 (layout 0 1) (layout 1 10) (layout 11 10)

pub row_on : (rule : ℕ) → Running
row_on r =
    let B : Bench = record {
      machine = (ruled r 0 0 0).machine;
      seals = [];
      registers = free.registers;
      marks = free.marks;
      memory = 2 ∷ replicate 10 7 ++ replicate 10 99;
    } in
    record { run = (start_run chosen row B).run; bench = B }

-- C after t turns
pub row_after : (rule t : ℕ) → List ℕ
row_after r t = drop 11 (after_turns chosen (row_on r) t).bench.memory

-- after the first store, and by halving after the last
pub row_is : row_after 0 9 ++ row_after 1 9 ++ row_after 1 16
    ≡ replicate 8 14 ++ replicate 2 99 ++ replicate 5 14 ++ replicate 5 99 ++ replicate 10 14
unfolding row row_on row_after ruled plan layout free bench chosen halving permitted sew new_type legal_type width_ok width_of inside misses rows_miss stored marked listing decode sound seals_fit step_by outcome narrow msew type_of start_run sound_run format kind_fit planned lying distinct apart separate chunks put_tile put_row put_le mark_tile mark_row reduce
row_is = refl

-- ---- A kept transposed

-- the load of A for the block at row 2 and term 4, at SEW 16: mlae16 from row 2 and 4 elements, mlate16 from row 4 and 2 elements
pub load : ℕ → List ℕ
load kind =
    let h : Handed = handed_for (of_kind kind (plan 16 1 8 8 8 (layout 100 32) (layout 0 16) (layout 0 16))) (load_a 2 4) in h.word ∷ h.address ∷ h.stride ∷ []

pub loads : load 0 ++ load 1 ≡ 0x04B51077 ∷ 172 ∷ 32 ∷ 0x14B51077 ∷ 232 ∷ 32 ∷ []
unfolding load of_kind plan layout narrow msew reduce
loads = refl

-- 01's product example with A's rows, 1 2 3 and -4 5 -6, kept as columns; its terms go in two blocks
pub columns : Plan
columns = of_kind 1 (plan 8 4 2 3 2 (layout 0 2) (layout 6 2) (layout 12 8))

pub counted : Running
counted =
    let B : Bench = record {
      machine = free.machine;
      seals = [];
      registers = free.registers;
      marks = free.marks;
      memory = 1 ∷ 252 ∷ 2 ∷ 5 ∷ 3 ∷ 250 ∷ 7 ∷ 8 ∷ 9 ∷ 10 ∷ 11 ∷ 12 ∷ replicate 16 99;
    } in
    record { run = (start_run chosen columns B).run; bench = B }

pub after : ℕ → ℕ → ℕ → ℕ
after t i j = element (after_turns chosen counted t).bench.memory (c_at columns) 4 i j

pub product_is : answered_done chosen counted 15 ∷ after 13 0 0 ∷ after 13 0 1 ∷ after 13 1 0 ∷ after 13 1 1 ∷ []
    ≡ 13 ∷ reduce (256 ^ 4) (pos 58) ∷ reduce (256 ^ 4) (pos 64) ∷ reduce (256 ^ 4) (negsuc 48) ∷ reduce (256 ^ 4) (negsuc 53) ∷ []
unfolding columns counted after of_kind plan layout free bench ruled chosen permitted sew new_type legal_type width_ok width_of inside misses rows_miss distinct stored marked listing decode sound seals_fit step_by outcome narrow msew type_of start_run sound_run format kind_fit planned lying apart separate chunks put_tile put_row put_le mark_tile mark_row reduce
product_is = refl

-- ---- a float run

-- the multiply: mma.mm and mfma.mm of tr0 and tr1 to acc0
pub multiplied : ℕ → ℕ
multiplied kind = (handed_for (of_kind kind (plan 32 1 2 3 2 (layout 0 12) (layout 24 8) (layout 48 8))) multiply).word

pub multiplies : multiplied 0 ∷ multiplied 2 ∷ [] ≡ 0x00106077 ∷ 0x02106077 ∷ []
unfolding multiplied of_kind plan layout
multiplies = refl

-- A is 1.5, 2, -3 and 0.1, 2^24, 1; B is 2, -0 and 4, 1 and 0.5, a NaN; its terms go in two blocks. 0.1 x 2 + 2^24 x 4 is 2^26, the 0.5
-- after it is lost
pub numbers : Plan
numbers = of_kind 2 (plan 32 1 2 3 2 (layout 0 12) (layout 24 8) (layout 48 8))

pub entered : Running
entered =
    let B : Bench = record {
      machine = free.machine;
      seals = [];
      registers = free.registers;
      marks = free.marks;
      memory = 0 ∷ 0 ∷ 192 ∷ 63 ∷ 0 ∷ 0 ∷ 0 ∷ 64 ∷ 0 ∷ 0 ∷ 64 ∷ 192 ∷ 205 ∷ 204 ∷ 204 ∷ 61 ∷ 0 ∷ 0 ∷ 128 ∷ 75 ∷ 0 ∷ 0 ∷ 128 ∷ 63
          ∷ 0 ∷ 0 ∷ 0 ∷ 64 ∷ 0 ∷ 0 ∷ 0 ∷ 128 ∷ 0 ∷ 0 ∷ 128 ∷ 64 ∷ 0 ∷ 0 ∷ 128 ∷ 63 ∷ 0 ∷ 0 ∷ 0 ∷ 63 ∷ 52 ∷ 18 ∷ 192 ∷ 255 ∷ replicate 16 99;
    } in
    record { run = (start_run chosen numbers B).run; bench = B }

pub float-after : ℕ → ℕ → ℕ → ℕ
float-after t i j = element (after_turns chosen entered t).bench.memory (c_at numbers) 4 i j

pub floats-are : answered_done chosen entered 15 ∷ float-after 13 0 0 ∷ float-after 13 0 1 ∷ float-after 13 1 0 ∷ float-after 13 1 1 ∷ []
    ≡ 13 ∷ 0x41180000 ∷ 0x7FC00000 ∷ 0x4C800000 ∷ 0x7FC00000 ∷ []
unfolding numbers entered float-after of_kind plan layout free bench ruled permitted sew new_type legal_type chosen width_ok width_of inside misses rows_miss marked listing decode sound seals_fit step_by outcome narrow msew type_of start_run sound_run format kind_fit planned lying distinct stored apart separate chunks put_tile put_row put_le mark_tile mark_row reduce value_of settled multiply_add float_sum float_product Ieee.add Ieee.mul Ieee.of_bits Ieee.to_bits
floats-are = refl

-- ---- 02, Ten

-- RLEN 128 and MLEN 256, with this ELEN and a memory: blocks of at most 2 rows and 2 terms
pub larger : (elen : ℕ) → List ℕ → Bench
larger e memory = record {
  machine = record { rlen = 128; mlen = 256; mtype = 0; tile_m = 0; tile_k = 0; tile_n = 0; rule = 0; elen = e };
  seals = [];
  registers = replicate 512 0;
  marks = replicate 512 0;
  memory = memory;
}

pub shaped : (elen s f : ℕ) → ℕ → Line
shaped e s f want = gives (larger e (replicate 64 1)) (plan s f 1 1 1 (layout 0 8) (layout 8 8) (layout 16 8)) want

-- "The product run takes SEW 64 there": SEW and f by either ELEN, f x SEW at most ELEN
pub widths : List Line
widths =
    shaped 32 64 1 8
    ∷ shaped 32 32 2 8
    ∷ shaped 32 16 4 8
    ∷ shaped 64 64 1 0
    ∷ shaped 64 32 2 0
    ∷ shaped 64 16 4 0
    ∷ shaped 64 64 2 8
    ∷ shaped 64 32 4 8
    ∷ shaped 64 128 1 8
    -- a state at fault for its ELEN
    ∷ shaped 48 8 1 8
    -- of kind 2, SEW is 32 where ELEN is 64 too; the last byte of an element of 64 bits
    ∷ gives (larger 64 (replicate 64 1)) (of_kind 2 (plan 64 1 1 1 1 (layout 0 8) (layout 8 8) (layout 16 8))) 8
    ∷ gives (larger 64 (replicate 64 1)) (plan 64 1 1 1 1 (layout 0 8) (layout 8 8) (layout 56 8)) 0
    ∷ gives (larger 64 (replicate 64 1)) (plan 64 1 1 1 1 (layout 0 8) (layout 8 8) (layout 57 8)) 6
    ∷ []

pub widths-right : map (λ l. l.got) widths ≡ map (λ l. l.want) widths
unfolding widths shaped larger layout plan of_kind gives permitted new_type legal_type sew inside misses rows_miss distinct sound seals_fit narrow msew type_of start_run format kind_fit planned lying apart separate
widths-right = refl

-- msettypei and the loads of A and B at SEW 64, and the store of C at 4 x 16 bits: mtype 3 and 9, mlae64, mlbe64 and msce64
pub wide_words : (handed_for (plan 64 1 1 3 1 (layout 0 24) (layout 24 8) (layout 48 8)) set_type).word
    ∷ (handed_for (plan 64 1 1 3 1 (layout 0 24) (layout 24 8) (layout 48 8)) (load_a 0 2)).word
    ∷ (handed_for (plan 64 1 1 3 1 (layout 0 24) (layout 24 8) (layout 48 8)) (load_a 0 2)).address
    ∷ (handed_for (plan 64 1 1 3 1 (layout 0 24) (layout 24 8) (layout 48 8)) (load_b 2 0)).word
    ∷ (handed_for (plan 16 4 1 3 1 (layout 0 6) (layout 6 2) (layout 12 8)) set_type).word
    ∷ (handed_for (plan 16 4 1 3 1 (layout 0 6) (layout 6 2) (layout 12 8)) (store 0 0)).word ∷ []
    ≡ 0x0001F077 ∷ 0x04B53077 ∷ 16 ∷ 0x08B530F7 ∷ 0x0004F077 ∷ 0x02B53077 ∷ []
unfolding plan layout narrow msew type_of reduce
wide_words = refl

-- 1 by 3 by 1, its terms in two blocks, and what 15 turns leave of it: how many were done, and C
pub ran_to : Plan → List ℕ → List ℕ
ran_to P memory =
    let B : Bench = larger 64 memory in
    let r : Running = record { run = (start_run chosen P B).run; bench = B } in
    answered_done chosen r 15 ∷ element (after_turns chosen r 15).bench.memory (c_at P) 8 0 0 ∷ []

-- at SEW 64, -2^63, 2^32 + 1 and 3 by 3, 2^32 - 1 and -1: 2^63 - 4 modulo 2^64
pub wide-product-is : ran_to (plan 64 1 1 3 1 (layout 0 24) (layout 24 8) (layout 48 8))
    (replicate 7 0 ++ 0x80 ∷ 1 ∷ 0 ∷ 0 ∷ 0 ∷ 1 ∷ 0 ∷ 0 ∷ 0 ∷ 3 ∷ replicate 7 0
    ++ 3 ∷ replicate 7 0 ++ replicate 4 0xFF ++ replicate 4 0 ++ replicate 8 0xFF ++ replicate 8 99)
    ≡ 13 ∷ reduce (256 ^ 8) (pos (2 ^ 63 - 4)) ∷ []
unfolding ran_to larger plan layout chosen permitted sew new_type legal_type width_ok width_of inside misses rows_miss distinct stored marked listing decode sound seals_fit step_by outcome narrow msew type_of start_run sound_run format kind_fit planned lying apart separate chunks put_tile put_row put_le mark_tile mark_row reduce
wide-product-is = refl

-- at SEW 16 and f = 4, three products of -2^15 and -2^15: 3 x 2^30, more than 32 bits hold, signed
pub quadruple-is : ran_to (plan 16 4 1 3 1 (layout 0 6) (layout 6 2) (layout 12 8))
    (0 ∷ 0x80 ∷ 0 ∷ 0x80 ∷ 0 ∷ 0x80 ∷ 0 ∷ 0x80 ∷ 0 ∷ 0x80 ∷ 0 ∷ 0x80 ∷ replicate 8 99)
    ≡ 13 ∷ reduce (256 ^ 8) (pos (3 * 2 ^ 30)) ∷ []
unfolding ran_to larger plan layout chosen permitted sew new_type legal_type width_ok width_of inside misses rows_miss distinct stored marked listing decode sound seals_fit step_by outcome narrow msew type_of start_run sound_run format kind_fit planned lying apart separate chunks put_tile put_row put_le mark_tile mark_row reduce
quadruple-is = refl
