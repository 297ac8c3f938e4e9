-- Computed examples of images.
use Rattle.std.specs.Prelude.{Ok, Err, ◌≡◌, ◌∷◌, ◌++◌}
use Rattle.numbers.specs.Kit.{refl, true, false, List, [], ℕ, take}
use Rattle.numbers_format.specs.Numbers.{groups, encode}
use Rattle.numbers_format.specs.Parser.{is_among, nonempty, read_number, parse}
use Rattle.image.specs.Cells.{cells_of, runs}
use Rattle.image.specs.Cells.Run.{run}
use Rattle.image.specs.Images.{beyond, log2, header_of, spelled}
use Rattle.image.specs.Answers.{image_reply}
use Rattle.image.specs.declared.ImageError.TheVariants.{Damaged}
use Rattle.image.specs.ImageFormat.{top_rlen, top_mlen, least_mlen, mtypes, ranges_format, runs_format, image_format}
use Rattle.image.specs.Reading.{Verdict, check_image, read_image}
use Rattle.machine.specs.Geometry.{range}
use Rattle.machine.specs.Starting.{fresh_machine}

-- an input that is an image, and one that is damaged at a place
abbrev accepted : Verdict
accepted = Ok tt

abbrev damaged_at : ℕ → Verdict
damaged_at p = Err (Damaged p)

-- runs of seven bytes: the second starts behind a gap of two
seven_runs : runs (cells_of (10 ∷ 11 ∷ 12 ∷ 13 ∷ 14 ∷ 15 ∷ 16 ∷ []) (0 ∷ 1 ∷ 1 ∷ 0 ∷ 0 ∷ 1 ∷ 0 ∷ []))
    ≡ run 1 (11 ∷ 12 ∷ []) ∷ run 2 (15 ∷ []) ∷ []
unfolding runs
seven_runs = refl

-- a fresh machine of RLEN 64 and MLEN 256 with 300 bytes sealed from address 5 on, and two runs: version, exponents, mtype, three tile sizes,
-- seal, number of runs, and the runs
image : spelled (header_of (fresh_machine 64 256 32 0) (range 5 300 ∷ [])) (run 1 (11 ∷ 12 ∷ []) ∷ run 2 (15 ∷ []) ∷ [])
    ≡ 1 ∷ 6 ∷ 8 ∷ 0 ∷ 0 ∷ 0 ∷ 0 ∷ 5 ∷ 172 ∷ 2 ∷ 2 ∷ 1 ∷ 2 ∷ 11 ∷ 12 ∷ 2 ∷ 1 ∷ 15 ∷ []
unfolding groups encode log2 beyond
image = refl

-- of a halving machine: version 2 and the rule, then the same
halving_image : spelled (header_of (fresh_machine 64 256 32 1) (range 5 300 ∷ [])) [] ≡ 2 ∷ 1 ∷ 6 ∷ 8 ∷ 0 ∷ 0 ∷ 0 ∷ 0 ∷ 5 ∷ 172 ∷ 2 ∷ 0 ∷ []
unfolding groups encode log2 beyond
halving_image = refl

-- with ELEN 64, or beyond the old bounds: version 3, the rule and the exponent of ELEN, then the same
large_images : spelled (header_of (fresh_machine 128 256 64 0) (range 0 0 ∷ [])) [] ∷ spelled (header_of (fresh_machine 4096 65536 32 1) (range 0 0 ∷ [])) [] ∷ []
    ≡ (3 ∷ 0 ∷ 6 ∷ 7 ∷ 8 ∷ 0 ∷ 0 ∷ 0 ∷ 0 ∷ 0 ∷ 0 ∷ 0 ∷ []) ∷ (3 ∷ 1 ∷ 5 ∷ 12 ∷ 16 ∷ 0 ∷ 0 ∷ 0 ∷ 0 ∷ 0 ∷ 0 ∷ 0 ∷ []) ∷ []
unfolding groups encode log2 beyond
large_images = refl

-- of a machine with three different tile sizes and maxima that differ (tile_m and tile_k up to 4, tile_n up to 8): m, k, n in this order
small_sized : spelled
    (header_of (record { rlen = 64; mlen = 256; mtype = 1; tile_m = 3; tile_k = 2; tile_n = 7; rule = 0; elen = 32 }) (range 0 0 ∷ []))
    [] ≡ 1 ∷ 6 ∷ 8 ∷ 1 ∷ 3 ∷ 2 ∷ 7 ∷ 0 ∷ 0 ∷ 0 ∷ []
unfolding groups encode log2 beyond
small_sized = refl

-- the numbers of a fresh machine of RLEN 64 and MLEN 128, 256 register bytes, before what follows
abbrev smallest : List ℕ → List ℕ
smallest t = 1 ∷ 6 ∷ 7 ∷ 0 ∷ 0 ∷ 0 ∷ 0 ∷ 0 ∷ 0 ∷ t

-- no run; one at each end of the registers; two runs; the same cut short after each of its parts; and with a byte behind it
abbrev two_runs : List ℕ
two_runs = smallest (2 ∷ 0 ∷ 1 ∷ 9 ∷ 1 ∷ 1 ∷ 9 ∷ [])

checked : check_image (smallest (0 ∷ [])) ∷ check_image (smallest (1 ∷ 0 ∷ 1 ∷ 9 ∷ [])) ∷ check_image (smallest (1 ∷ 255 ∷ 1 ∷ 1 ∷ 9 ∷ []))
    ∷ check_image two_runs ∷ check_image (take 9 two_runs) ∷ check_image (take 10 two_runs) ∷ check_image (take 11 two_runs) ∷ check_image (take 15 two_runs)
    ∷ check_image (smallest (2 ∷ 0 ∷ 1 ∷ 9 ∷ 1 ∷ 1 ∷ 9 ∷ 0 ∷ [])) ∷ []
    ≡ accepted ∷ accepted ∷ accepted ∷ accepted ∷ damaged_at 9 ∷ damaged_at 10 ∷ damaged_at 11 ∷ damaged_at 15 ∷ damaged_at 16 ∷ []
unfolding check_image parse read_number is_among nonempty image_format top_rlen top_mlen least_mlen mtypes ranges_format runs_format
checked = refl

-- of version 2, a rule that is 1; one that is not, seen at once; no rule
versions : check_image (2 ∷ 1 ∷ 6 ∷ 7 ∷ 0 ∷ 0 ∷ 0 ∷ 0 ∷ 0 ∷ 0 ∷ 0 ∷ []) ∷ check_image (2 ∷ 0 ∷ []) ∷ check_image (2 ∷ 2 ∷ []) ∷ check_image (2 ∷ 129 ∷ []) ∷ check_image (2 ∷ []) ∷ []
    ≡ accepted ∷ damaged_at 1 ∷ damaged_at 1 ∷ damaged_at 1 ∷ damaged_at 1 ∷ []
unfolding check_image parse read_number is_among nonempty image_format top_rlen top_mlen least_mlen mtypes ranges_format runs_format
versions = refl

-- of version 3: with ELEN 32, an MLEN above 4,096; one that version 1 can hold, seen at the exponent of MLEN; an RLEN above 512; with ELEN 64
-- mtype 3 and 9, but not 10; an RLEN that is not above ELEN; an ELEN of 128; a rule of 2; and an RLEN above 512 in version 1
large : check_image (3 ∷ 0 ∷ 5 ∷ 6 ∷ 13 ∷ 0 ∷ 0 ∷ 0 ∷ 0 ∷ 0 ∷ 0 ∷ 0 ∷ []) ∷ check_image (3 ∷ 0 ∷ 5 ∷ 6 ∷ 12 ∷ []) ∷ check_image (3 ∷ 0 ∷ 5 ∷ 10 ∷ 11 ∷ 0 ∷ 0 ∷ 0 ∷ 0 ∷ 0 ∷ 0 ∷ 0 ∷ [])
    ∷ check_image (3 ∷ 1 ∷ 6 ∷ 7 ∷ 8 ∷ 3 ∷ 0 ∷ 0 ∷ 0 ∷ 0 ∷ 0 ∷ 0 ∷ []) ∷ check_image (3 ∷ 1 ∷ 6 ∷ 7 ∷ 8 ∷ 9 ∷ 0 ∷ 0 ∷ 0 ∷ 0 ∷ 0 ∷ 0 ∷ []) ∷ check_image (3 ∷ 1 ∷ 6 ∷ 7 ∷ 8 ∷ 10 ∷ [])
    ∷ check_image (3 ∷ 0 ∷ 6 ∷ 6 ∷ []) ∷ check_image (3 ∷ 0 ∷ 7 ∷ []) ∷ check_image (3 ∷ 2 ∷ []) ∷ check_image (1 ∷ 10 ∷ []) ∷ []
    ≡ accepted ∷ damaged_at 4 ∷ accepted ∷ accepted ∷ accepted ∷ damaged_at 5 ∷ damaged_at 3 ∷ damaged_at 2 ∷ damaged_at 1 ∷ damaged_at 1 ∷ []
unfolding check_image parse read_number is_among nonempty image_format top_rlen top_mlen least_mlen mtypes ranges_format runs_format
large = refl

-- the shortest inputs that are refused. Only cut short, the place is the length (02, Six): nothing; version 1 alone. The version 0, where images
-- have 1 (Six), 2 (Eight), 3 (Ten) or 4 (Twelve). A first group of 1 to 4, behind which another has to follow: in the shortest form (Six) they have no second
-- group, and a larger number is no version, so that no image goes on at the first byte
shortest : check_image [] ∷ check_image (1 ∷ []) ∷ check_image (0 ∷ []) ∷ check_image (129 ∷ 0 ∷ []) ∷ check_image (130 ∷ 0 ∷ []) ∷ check_image (131 ∷ 0 ∷ []) ∷ check_image (132 ∷ 0 ∷ []) ∷ []
    ≡ damaged_at 0 ∷ damaged_at 1 ∷ damaged_at 0 ∷ damaged_at 0 ∷ damaged_at 0 ∷ damaged_at 0 ∷ damaged_at 0 ∷ []
unfolding check_image parse read_number is_among nonempty image_format top_rlen top_mlen least_mlen mtypes ranges_format runs_format
shortest = refl

-- another version; MLEN not above RLEN; an mtype that cannot arise; a tile size above its maximum; a run that touches the one before it; a run
-- without a byte; a gap that ends past the registers, seen in its second byte; one that leaves no room for the second run, seen in its first
damaged : check_image (5 ∷ []) ∷ check_image (1 ∷ 7 ∷ 7 ∷ []) ∷ check_image (1 ∷ 6 ∷ 7 ∷ 3 ∷ []) ∷ check_image (1 ∷ 6 ∷ 7 ∷ 0 ∷ 3 ∷ [])
    ∷ check_image (smallest (2 ∷ 0 ∷ 1 ∷ 9 ∷ 0 ∷ 1 ∷ 9 ∷ [])) ∷ check_image (smallest (1 ∷ 0 ∷ 0 ∷ []))
    ∷ check_image (smallest (1 ∷ 128 ∷ 2 ∷ 1 ∷ 9 ∷ [])) ∷ check_image (smallest (2 ∷ 254 ∷ 1 ∷ 1 ∷ 9 ∷ [])) ∷ []
    ≡ damaged_at 0 ∷ damaged_at 2 ∷ damaged_at 3 ∷ damaged_at 4 ∷ damaged_at 13 ∷ damaged_at 11 ∷ damaged_at 11 ∷ damaged_at 10 ∷ []
unfolding check_image parse read_number is_among nonempty image_format top_rlen top_mlen least_mlen mtypes ranges_format runs_format
damaged = refl

-- three tile sizes; a tile_k of 7, which only tile_n can be
small_sized_read : check_image (1 ∷ 6 ∷ 8 ∷ 1 ∷ 3 ∷ 2 ∷ 7 ∷ 0 ∷ 0 ∷ 0 ∷ []) ∷ check_image (1 ∷ 6 ∷ 8 ∷ 1 ∷ 3 ∷ 7 ∷ 2 ∷ 0 ∷ 0 ∷ 0 ∷ []) ∷ []
    ≡ accepted ∷ damaged_at 5 ∷ []
unfolding check_image parse read_number is_among nonempty image_format top_rlen top_mlen least_mlen mtypes ranges_format runs_format
small_sized_read = refl

-- 15 names its place
place : image_reply (Damaged 7) ≡ record { number = 15; place = 7 }
place = refl

-- buffers that aren't of the machine's size stay as they are
unfit : (read_image two_runs (5 ∷ []) (1 ∷ 0 ∷ [])).marks ≡ 1 ∷ 0 ∷ []
unfolding read_image parse read_number is_among nonempty image_format top_rlen top_mlen least_mlen mtypes ranges_format runs_format
unfit = refl

-- a halving machine of RLEN 256, MLEN 1,024 and ELEN 64 (four rows of 32 bytes) with mtype 9 and three different sizes, and two runs
sized_image : spelled
    (header_of (record { rlen = 256; mlen = 1024; mtype = 9; tile_m = 3; tile_k = 2; tile_n = 20; rule = 1; elen = 64 }) (range 5 300 ∷ []))
    (run 1 (11 ∷ 12 ∷ []) ∷ run 130 (15 ∷ []) ∷ [])
    ≡ 3 ∷ 1 ∷ 6 ∷ 8 ∷ 10 ∷ 9 ∷ 3 ∷ 2 ∷ 20 ∷ 5 ∷ 172 ∷ 2 ∷ 2 ∷ 1 ∷ 2 ∷ 11 ∷ 12 ∷ 130 ∷ 1 ∷ 1 ∷ 15 ∷ []
unfolding groups encode log2 beyond
sized_image = refl

-- it is read; so are the largest sizes; one more of each, seen at its place
sized_read : check_image (3 ∷ 1 ∷ 6 ∷ 8 ∷ 10 ∷ 9 ∷ 3 ∷ 2 ∷ 20 ∷ 5 ∷ 172 ∷ 2 ∷ 2 ∷ 1 ∷ 2 ∷ 11 ∷ 12 ∷ 130 ∷ 1 ∷ 1 ∷ 15 ∷ [])
    ∷ check_image (3 ∷ 1 ∷ 6 ∷ 8 ∷ 10 ∷ 9 ∷ 4 ∷ 4 ∷ 32 ∷ 0 ∷ 0 ∷ 0 ∷ []) ∷ check_image (3 ∷ 1 ∷ 6 ∷ 8 ∷ 10 ∷ 9 ∷ 5 ∷ [])
    ∷ check_image (3 ∷ 1 ∷ 6 ∷ 8 ∷ 10 ∷ 9 ∷ 4 ∷ 5 ∷ []) ∷ check_image (3 ∷ 1 ∷ 6 ∷ 8 ∷ 10 ∷ 9 ∷ 4 ∷ 4 ∷ 33 ∷ []) ∷ []
    ≡ accepted ∷ accepted ∷ damaged_at 6 ∷ damaged_at 7 ∷ damaged_at 8 ∷ []
unfolding check_image parse read_number is_among nonempty image_format top_rlen top_mlen least_mlen mtypes ranges_format runs_format
sized_read = refl

-- 02, Twelve: with no range version 4, the rule, the exponent of ELEN, then 0 for the ranges; with two their number, then each in order of entry
none_and_two : spelled (header_of (fresh_machine 64 128 32 0) []) []
    ∷ spelled (header_of (fresh_machine 64 256 32 1) (range 5 300 ∷ range 3 0 ∷ [])) (run 1 (11 ∷ []) ∷ []) ∷ []
    ≡ (4 ∷ 0 ∷ 5 ∷ 6 ∷ 7 ∷ 0 ∷ 0 ∷ 0 ∷ 0 ∷ 0 ∷ 0 ∷ []) ∷ (4 ∷ 1 ∷ 5 ∷ 6 ∷ 8 ∷ 0 ∷ 0 ∷ 0 ∷ 0 ∷ 2 ∷ 5 ∷ 172 ∷ 2 ∷ 3 ∷ 0 ∷ 1 ∷ 1 ∷ 1 ∷ 11 ∷ []) ∷ []
unfolding groups encode log2 beyond
none_and_two = refl

-- version 4 for RLEN 64 and MLEN 128, up to the ranges
abbrev fourth : List ℕ → List ℕ
fourth t = 4 ∷ 0 ∷ 5 ∷ 6 ∷ 7 ∷ 0 ∷ 0 ∷ 0 ∷ 0 ∷ t

-- a range that ends at 2^64 - 1
abbrev last_byte : List ℕ
last_byte = 254 ∷ 255 ∷ 255 ∷ 255 ∷ 255 ∷ 255 ∷ 255 ∷ 255 ∷ 255 ∷ 1 ∷ 1 ∷ []

-- eight ranges, two of them equal and one of length 0
eight : spelled
    (header_of (fresh_machine 64 128 32 0)
    (range 1 2 ∷ range 3 4 ∷ range 5 6 ∷ range 1 2 ∷ range 0 0 ∷ range 7 8 ∷ range 9 1 ∷ range 300 5 ∷ []))
    [] ≡ fourth (8 ∷ 1 ∷ 2 ∷ 3 ∷ 4 ∷ 5 ∷ 6 ∷ 1 ∷ 2 ∷ 0 ∷ 0 ∷ 7 ∷ 8 ∷ 9 ∷ 1 ∷ 172 ∷ 2 ∷ 5 ∷ 0 ∷ [])
unfolding groups encode log2 beyond
eight = refl

-- of version 4: none, two and eight ranges are read; a number of 1, of 9, and one that a second group would make too large are at fault at their
-- first byte; so is a length that ends past 2^64 - 1; and cut short before the number, behind it, within a range and behind the ranges
several : check_image (fourth (0 ∷ 0 ∷ [])) ∷ check_image (fourth (2 ∷ 5 ∷ 172 ∷ 2 ∷ 3 ∷ 0 ∷ 0 ∷ []))
    ∷ check_image (fourth (8 ∷ 1 ∷ 2 ∷ 3 ∷ 4 ∷ 5 ∷ 6 ∷ 1 ∷ 2 ∷ 0 ∷ 0 ∷ 7 ∷ 8 ∷ 9 ∷ 1 ∷ (last_byte ++ (0 ∷ []))))
    ∷ check_image (fourth (1 ∷ 5 ∷ 6 ∷ 0 ∷ [])) ∷ check_image (fourth (9 ∷ [])) ∷ check_image (fourth (130 ∷ 0 ∷ []))
    ∷ check_image (fourth (2 ∷ 254 ∷ 255 ∷ 255 ∷ 255 ∷ 255 ∷ 255 ∷ 255 ∷ 255 ∷ 255 ∷ 1 ∷ 2 ∷ []))
    ∷ check_image (fourth []) ∷ check_image (fourth (2 ∷ [])) ∷ check_image (fourth (2 ∷ 5 ∷ 6 ∷ 7 ∷ [])) ∷ check_image (fourth (2 ∷ 5 ∷ 6 ∷ 7 ∷ 8 ∷ [])) ∷ []
    ≡ accepted ∷ accepted ∷ accepted ∷ damaged_at 9 ∷ damaged_at 9 ∷ damaged_at 9 ∷ damaged_at 20 ∷ damaged_at 9 ∷ damaged_at 10 ∷ damaged_at 13 ∷ damaged_at 14 ∷ []
unfolding check_image parse read_number is_among nonempty image_format top_rlen top_mlen least_mlen mtypes ranges_format runs_format
several = refl

-- version 4 holds any bounds: ELEN 64, MLEN 8,192, and a halving machine of the old ones
fourth_bounds : check_image (4 ∷ 0 ∷ 6 ∷ 7 ∷ 8 ∷ 3 ∷ 0 ∷ 0 ∷ 0 ∷ 0 ∷ 0 ∷ []) ∷ check_image (4 ∷ 0 ∷ 5 ∷ 6 ∷ 13 ∷ 0 ∷ 0 ∷ 0 ∷ 0 ∷ 0 ∷ 0 ∷ [])
    ∷ check_image (4 ∷ 1 ∷ 5 ∷ 9 ∷ 12 ∷ 0 ∷ 0 ∷ 0 ∷ 0 ∷ 0 ∷ 0 ∷ []) ∷ check_image (4 ∷ 2 ∷ []) ∷ check_image (4 ∷ 0 ∷ 5 ∷ 13 ∷ []) ∷ check_image (4 ∷ 0 ∷ 5 ∷ 9 ∷ 9 ∷ []) ∷ []
    ≡ accepted ∷ accepted ∷ accepted ∷ damaged_at 1 ∷ damaged_at 3 ∷ damaged_at 4 ∷ []
unfolding check_image parse read_number is_among nonempty image_format top_rlen top_mlen least_mlen mtypes ranges_format runs_format
fourth_bounds = refl

-- bounds, one after the other: a machine is beyond by its ELEN, by RLEN 1,024, by MLEN 8,192, and by none of these
bounds : beyond 6 7 8 ∷ beyond 5 10 11 ∷ beyond 5 6 13 ∷ beyond 5 9 12 ∷ [] ≡ true ∷ true ∷ true ∷ false ∷ []
unfolding beyond
bounds = refl

-- what no version holds: MLEN 8,192 in version 1 and 2; in version 3 an exponent of ELEN below 5, of RLEN above 12, of MLEN above 16 or not above
-- RLEN's, mtype 3 and 9 where ELEN is 32, 4 and 11 where it is 64; and cut short
none : check_image (1 ∷ 6 ∷ 13 ∷ []) ∷ check_image (2 ∷ 1 ∷ 9 ∷ 13 ∷ []) ∷ check_image (3 ∷ 0 ∷ 4 ∷ []) ∷ check_image (3 ∷ 0 ∷ 6 ∷ 13 ∷ [])
    ∷ check_image (3 ∷ 0 ∷ 5 ∷ 6 ∷ 17 ∷ []) ∷ check_image (3 ∷ 0 ∷ 5 ∷ 10 ∷ 10 ∷ []) ∷ check_image (3 ∷ 0 ∷ 6 ∷ 12 ∷ 12 ∷ [])
    ∷ check_image (3 ∷ 0 ∷ 5 ∷ 6 ∷ 13 ∷ 3 ∷ []) ∷ check_image (3 ∷ 0 ∷ 5 ∷ 6 ∷ 13 ∷ 9 ∷ []) ∷ check_image (3 ∷ 0 ∷ 6 ∷ 7 ∷ 8 ∷ 4 ∷ []) ∷ check_image (3 ∷ 0 ∷ 6 ∷ 7 ∷ 8 ∷ 11 ∷ [])
    ∷ check_image (3 ∷ []) ∷ check_image (3 ∷ 0 ∷ []) ∷ check_image (3 ∷ 0 ∷ 5 ∷ []) ∷ check_image (3 ∷ 0 ∷ 5 ∷ 9 ∷ []) ∷ []
    ≡ damaged_at 2 ∷ damaged_at 3 ∷ damaged_at 2 ∷ damaged_at 3 ∷ damaged_at 4 ∷ damaged_at 4 ∷ damaged_at 4 ∷ damaged_at 5 ∷ damaged_at 5 ∷ damaged_at 5 ∷ damaged_at 5
    ∷ damaged_at 1 ∷ damaged_at 2 ∷ damaged_at 3 ∷ damaged_at 4 ∷ []
unfolding check_image parse read_number is_among nonempty image_format top_rlen top_mlen least_mlen mtypes ranges_format runs_format
none = refl
