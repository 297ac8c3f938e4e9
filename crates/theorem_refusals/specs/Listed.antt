-- What a reviewer looks for in the definitions: no code is given twice, the values that mtype can take, and each byte of the registers in one of them.
-- The proofs stand in proofs/.
use Rattle.std.specs.Prelude.{◌≡◌, ◌∷◌, ◌+◌, ◌*◌, ◌/◌, ◌^◌, ◌<◌}
use Rattle.numbers.specs.Kit.{true, cond, List, [], ℕ, eqb, length, get_or}
use Rattle.machine.specs.Tests.{is_in}
use Rattle.machine.specs.Geometry.{elens, permitted, register_bytes, Parameters, parameters_of, tile_at, acc_at}
use Rattle.machine.specs.Setting.{new_type}
use Rattle.machine.specs.Listing.{Code, Row, listing, others}
use Rattle.machine.specs.WordTheorems.{EveryBit}

-- the entries of the listing: ours, and behind them the others
abbrev pub entries : List Row → List Code
entries [] = others
entries (r ∷ rs) = r.code ∷ entries rs

-- 01: "If it gives one code to two of our instructions, .."; it does not: no word has the bits of two entries
abbrev pub NoCodeTwice : Type 0
NoCodeTwice = (word j k : ℕ) (c : Code) → j < k → k < length (entries listing)
    → EveryBit word (get_or (entries listing) j c) → EveryBit word (get_or (entries listing) k c) → ⊥

-- the legal values of mtype: 8, 16 and 32 bits, 8 bits with maccq; with ELEN 64 also 64 bits, and 16 bits with maccq
abbrev pub legal_values : (elen : ℕ) → List ℕ
legal_values elen = 0 ∷ 1 ∷ 2 ∷ 8 ∷ cond (eqb elen 64) (3 ∷ 9 ∷ []) []

-- "An illegal value is no refusal: mtype becomes 2^63."
abbrev pub TypesAreThese : Type 0
TypesAreThese = (elen : ℕ) → is_in elen elens ≡ true → (v : ℕ) → new_type elen v ≡ cond (is_in v (legal_values elen)) v (2 ^ 63)

-- a byte of the registers: byte b of row i of tile register r, or of accumulator r
pub data Spot : Type 0 where
  in_tile : (r i b : ℕ) → Spot
  in_accumulator : (r i b : ℕ) → Spot

-- one that a machine has: "Eight tile registers of MLEN bits have MLEN/RLEN rows of RLEN/8 bytes. Two accumulators of 4 x MLEN bits have as many rows,
-- each 4 x RLEN/8 bytes."
abbrev pub IsThere : (rlen mlen : ℕ) → Spot → Type 0
IsThere rlen mlen (Spot.in_tile r i b) = (r < 8) × (i < mlen / rlen) × (b < rlen / 8)
IsThere rlen mlen (Spot.in_accumulator r i b) = (r < 2) × (i < mlen / rlen) × (b < 4 * (rlen / 8))

-- where it lies in the lent register bytes
abbrev pub spot_at : Parameters → Spot → ℕ
spot_at M (Spot.in_tile r i b) = tile_at M r i + b
spot_at M (Spot.in_accumulator r i b) = acc_at M r i + b

-- the registers fill the bytes that they are lent: each spot lies in them, each byte is one spot's, and no other's
pub record Fills (rlen mlen : ℕ) (M : Parameters) : Type 0 where
  pub within : (s : Spot) → IsThere rlen mlen s → spot_at M s < register_bytes mlen
  pub whole : (q : ℕ) → q < register_bytes mlen → (s : Spot) × IsThere rlen mlen s × (spot_at M s ≡ q)
  pub apart : (s t : Spot) → IsThere rlen mlen s → IsThere rlen mlen t → spot_at M s ≡ spot_at M t → s ≡ t

abbrev pub RegistersFill : Type 0
RegistersFill = (grant : ℕ → ℕ → ℕ) (rlen mlen elen : ℕ) → permitted rlen mlen elen ≡ true → Fills rlen mlen (parameters_of grant rlen mlen elen)
