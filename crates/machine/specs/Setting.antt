-- 01, "Setting mtype and tile sizes".
use Rattle.std.specs.Prelude.{◌&&◌, ◌||◌, ◌∷◌, ◌+◌, ◌*◌, ◌/◌, ◌%◌, ◌^◌}
use Rattle.numbers.specs.Kit.{Bool, cond, not, [], ℕ, min, leb, ltb, eqb}
use Rattle.numbers.specs.Blocks.{Choice}
use Rattle.machine.specs.declared.Dimension.{Dimension}
use Rattle.machine.specs.declared.Dimension.TheVariants.{DimensionM, DimensionK, DimensionN}
use Rattle.machine.specs.Tests.{every}
use Rattle.machine.specs.Geometry.{Parameters, State}

-- ---- mtype

-- "bits 2..0 are msew (0, 1, 2 for 8, 16, 32 bits), bit 3 is maccq, bit 63 is mill. Of the other msew values 3 stands for 64 bits":
-- SEW in bytes
unfoldable pub sew : ℕ → ℕ
sew t = 2 ^ (t % 8)

abbrev pub maccq : ℕ → Bool
maccq t = eqb (t / 8 % 2) 1

abbrev pub mill : ℕ → Bool
mill t = eqb (t / 2 ^ 63 % 2) 1

-- ".. and 4 to 7 are illegal. A new value is also illegal if any of bits 63..4 is set, if SEW exceeds ELEN, or if maccq is set and
-- 4 x SEW exceeds ELEN." 02, Ten: "msew 3 means 64 bits where ELEN is 64, and 4 x 16 bits is then allowed for C."
unfoldable pub legal_type : ℕ → ℕ → Bool
legal_type elen v = every (
    ltb v 16
    ∷ ltb (v % 8) 4
    ∷ leb (8 * sew v) elen
    ∷ (not (maccq v) || leb (4 * (8 * sew v)) elen) ∷ [])

-- "An illegal value is no refusal: mtype becomes 2^63."
unfoldable pub new_type : ℕ → ℕ → ℕ
new_type elen v = cond (legal_type elen v) v (2 ^ 63)

-- ---- tile sizes

-- "TMMAX = MLEN/RLEN; TNMAX = RLEN/SEW; TKMAX = the smaller of the two."
abbrev pub max_m : Parameters → ℕ → ℕ
max_m M t = M.rows

abbrev pub max_n : Parameters → ℕ → ℕ
max_n M t = M.pitch / sew t

abbrev pub max_k : Parameters → ℕ → ℕ
max_k M t = min (max_m M t) (max_n M t)

abbrev pub maximum : Parameters → ℕ → Dimension → ℕ
maximum M t DimensionM = max_m M t
maximum M t DimensionK = max_k M t
maximum M t DimensionN = max_n M t

abbrev pub size_in : Dimension → State → ℕ
size_in DimensionM st = st.tile_m
size_in DimensionK st = st.tile_k
size_in DimensionN st = st.tile_n

-- "The new tile size is the smaller of the asked size and the maximum"
abbrev pub smaller : ℕ → ℕ → ℕ
smaller max asked = min asked max

-- 02, Eight: "when the asked size lies strictly between the maximum and twice it. Our second chip takes half the asked size, rounded up."
unfoldable pub halving : ℕ → ℕ → ℕ
halving max asked = cond (ltb max asked && ltb asked (2 * max)) ((asked + 1) / 2) (smaller max asked)

-- "one of two rules, 0 as before or 1 halving": our choice of sizes
unfoldable pub chosen : Choice
chosen rule = cond (eqb rule 1) halving smaller
