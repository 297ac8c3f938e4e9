-- The format of all images: each number has the range that the numbers before it leave. specs/Theorems.antt says that it accepts exactly
-- the images of machines that are not at fault.
use Rattle.std.specs.Prelude.{◌&&◌, ◌∷◌, ◌+◌, ◌-◌, ◌*◌, ◌^◌}
use Rattle.numbers.specs.Kit.{cond, List, [], ℕ, zero, suc, min, eqb, ltb}
use Rattle.numbers_format.specs.Numbers.{Interval, span}
use Rattle.numbers_format.specs.Formats.{Format}
use Rattle.numbers_format.specs.Formats.Format.{done, number, bytes}
use Rattle.image.specs.Cells.{Run}
use Rattle.image.specs.Cells.Run.{run}
use Rattle.machine.specs.Geometry.{range}
use Rattle.image.specs.Images.{Seals, Header}

-- what an image is read as
pub record Described : Type 0 where
  pub header : Header
  pub body : List Run

-- the version, and what it says of the machine: its rule, and the exponent of ELEN. Of version 1 the rule is 0 and ELEN is 32; of version 2 the
-- rule follows and is 1, and ELEN is 32; of versions 3 and 4 both follow
abbrev pub version_format : {X : Type 0} → ((version rule elen : ℕ) → Format X) → Format X
version_format K =
    number (span 1 4) λ version.
    cond (eqb version 1)
    (K version 0 5)
    (cond (eqb version 2) (number (span 1 1) λ rule. K version rule 5) (number (span 0 1) λ rule. number (span 5 6) λ elen. K version rule elen))

-- the exponents of RLEN and MLEN: RLEN above ELEN and up to 512, from version 3 on up to 4,096; MLEN above RLEN and up to 4,096, from version 3
-- on up to 65,536
unfoldable pub top_rlen : (version : ℕ) → ℕ
top_rlen version = cond (ltb version 3) 9 12

unfoldable pub top_mlen : (version : ℕ) → ℕ
top_mlen version = cond (ltb version 3) 12 16

-- "Writers use the lowest version that can hold the machine, and readers accept no other": of version 3, with ELEN 32 and an RLEN of the old
-- bounds, only an MLEN above 4,096 is beyond them
unfoldable pub least_mlen : (version elen rlen : ℕ) → ℕ
least_mlen version elen rlen = cond (eqb version 3 && (eqb elen 5 && ltb rlen 10)) 13 (suc rlen)

abbrev pub shape_format : {X : Type 0} → ((version rule elen rlen mlen : ℕ) → Format X) → Format X
shape_format K =
    version_format λ version rule elen.
    number (span (suc elen) (top_rlen version)) λ rlen.
    number (span (least_mlen version elen rlen) (top_mlen version)) λ mlen.
    K version rule elen rlen mlen

-- the mtypes that can arise, by the exponent of ELEN: msew, the exponent of SEW less 3, alone, while SEW is at most ELEN; with maccq (8), while
-- 4 x SEW is at most ELEN; and 2^63
unfoldable pub mtypes : (elen : ℕ) → List Interval
mtypes elen =
    record { low = 0; high = elen - 3 } ∷ record { low = 8; high = 8 + (elen - 5) } ∷ record { low = 2 ^ 63; high = 2 ^ 63 } ∷ []

-- mtype, and tile sizes up to their maxima at SEW 8, of a machine with registers of so many rows, each of so many bytes
abbrev pub tiles_format : {X : Type 0} → (elen rows columns : ℕ) → (ℕ → ℕ → ℕ → ℕ → Format X) → Format X
tiles_format elen rows columns K =
    number (mtypes elen) λ mtype.
    number (span 0 rows) λ tile_m.
    number (span 0 (min rows columns)) λ tile_k.
    number (span 0 columns) λ tile_n.
    K mtype tile_m tile_k tile_n

-- so many ranges, each with an end that doesn't exceed 2^64 - 1
unfoldable pub ranges_format : {X : Type 0} → (count : ℕ) → (Seals → Format X) → Format X
ranges_format zero K = K []
ranges_format (suc n) K =
    number (span 0 (2 ^ 64 - 1)) λ start.
    number (span 0 (2 ^ 64 - 1 - start)) λ size.
    ranges_format n λ rs. K (range start size ∷ rs)

-- none, or two to eight: one range has a lower version
abbrev pub counts : List Interval
counts = record { low = 0; high = 0 } ∷ record { low = 2; high = 8 } ∷ []

-- the sealed ranges: one, and of version 4 their number before them
abbrev pub seals_format : {X : Type 0} → (version : ℕ) → (Seals → Format X) → Format X
seals_format version K = cond (eqb version 4) (number counts λ count. ranges_format count K) (ranges_format 1 K)

-- The next run, behind which so many more are announced, in the room that is left, its gap at least least. Each run after it takes a byte of gap
-- and one of its own.
abbrev pub run_format : {X : Type 0} → (more least room : ℕ) → (ℕ → ℕ → List ℕ → Format X) → Format X
run_format more least room K =
    number (span least (room - (1 + 2 * more))) λ gap.
    number (span 1 (room - (gap + 2 * more))) λ size.
    bytes size λ b.
    K gap size b

-- so many runs in the room that is left
unfoldable pub runs_format : (List Run → Described) → (count least room : ℕ) → Format Described
runs_format f zero least room = done (f [])
runs_format f (suc l) least room =
    run_format l least room λ gap size b.
    runs_format (λ rs. f (run gap b ∷ rs)) l 1 (room - (gap + size))

-- how many bytes the registers have, by the exponent of MLEN
abbrev pub all_register_bytes : ℕ → ℕ
all_register_bytes mlen = 2 * 2 ^ mlen

-- a machine's numbers and the number of runs: at most every second byte starts a run
abbrev pub head_format : {X : Type 0} → (Header → ℕ → Format X) → Format X
head_format K =
    shape_format λ version rule elen rlen mlen.
    tiles_format elen (2 ^ (mlen - rlen)) (2 ^ (rlen - 3)) λ mtype tile_m tile_k tile_n.
    seals_format version λ seals.
    number (span 0 (2 ^ mlen)) λ count.
    K (record {
      rlen = rlen;
      mlen = mlen;
      mtype = mtype;
      tile_m = tile_m;
      tile_k = tile_k;
      tile_n = tile_n;
      seals = seals;
      rule = rule;
      elen = elen;
    }) count

-- and the runs
unfoldable pub image_format : Format Described
image_format = head_format λ header count. runs_format (λ rs. record { header = header; body = rs }) count 0 (all_register_bytes header.mlen)
