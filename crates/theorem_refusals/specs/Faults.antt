-- 01, "Numbers of the answers": what gives 8, in its words, with 02, Eight, Ten and Twelve. The proofs stand in proofs/.
use Rattle.std.specs.Prelude.{◌≡◌, ◌↔◌, ◌⊎◌, ◌+◌, ◌-◌, ◌*◌, ◌/◌, ◌^◌, ◌≤◌, ◌<◌}
use Rattle.numbers.specs.Kit.{true, List, List-as-Memᴰ, ℕ, min, length, get_or}
use Rattle.machine.specs.Tests.{is_in}
use Rattle.machine.specs.Geometry.{Range, Bench}
use Rattle.machine.specs.Faults.{sound_bench}
use Rattle.theorem_refusals.specs.Listed.{legal_values}

-- "a power of two from .. to .."
abbrev pub PowerOfTwo : (least most n : ℕ) → Type 0
PowerOfTwo least most n = (least ≤ n) × (n ≤ most) × ((e : ℕ) × (n ≡ 2 ^ e))

-- "RLEN is a power of two from 64 to 512, MLEN a power of two from 128 to 4,096, RLEN below MLEN." 02, Ten: "MLEN up to 65,536, RLEN up to
-- 4,096 and ELEN 64 as a choice beside 32; ELEN must be below RLEN."
pub record Permitted (rlen mlen elen : ℕ) : Type 0 where
  pub rlen-power : PowerOfTwo 64 4096 rlen
  pub mlen-power : PowerOfTwo 128 65536 mlen
  pub rlen-below : rlen < mlen
  pub elen-choice : (elen ≡ 32) ⊎ (elen ≡ 64)
  pub elen-below : elen < rlen

-- no "buffer not of the size they demand": "Eight tile registers of MLEN bits", "Two accumulators of 4 x MLEN bits", and "Each register byte has
-- a mark byte"
pub record OfTheirSize (mlen : ℕ) (registers marks : List ℕ) : Type 0 where
  pub bits : 8 * length registers ≡ 8 * mlen + 2 * (4 * mlen)
  pub mark-bytes : length marks ≡ length registers

-- 02, Eight: "one of two rules, 0 as before or 1 halving"
abbrev pub KnownRule : ℕ → Type 0
KnownRule rule = (rule ≡ 0) ⊎ (rule ≡ 1)

-- no "range whose end exceeds 2^64 - 1"
abbrev pub RangeEnds : Range → Type 0
RangeEnds r = r.start + r.size ≤ 2 ^ 64 - 1

abbrev pub EachEnds : List Range → Type 0
EachEnds seals = (r : Range) → List-as-Memᴰ r seals → RangeEnds r

-- "For a step, 8 means: RLEN or MLEN not permitted, a buffer not of the size they demand, .. an mtype that can't arise, a tile size above its
-- maximum at SEW 8, a seal whose end exceeds 2^64 - 1, or a mark that is neither value."; 02, Eight: "an unknown rule"; Ten: "an ELEN other than
-- 32 or 64, or not below RLEN"; Twelve: "a state that holds more than eight": none of these
pub record NotAtFault (B : Bench) : Type 0 where
  pub lengths : Permitted B.machine.rlen B.machine.mlen B.machine.elen
  pub buffers : OfTheirSize B.machine.mlen B.registers B.marks
  -- a legal value, or that of an illegal one
  pub mtype : (is_in B.machine.mtype (legal_values B.machine.elen) ≡ true) ⊎ (B.machine.mtype ≡ 2 ^ 63)
  -- "TMMAX = MLEN/RLEN; TNMAX = RLEN/SEW; TKMAX = the smaller of the two."
  pub tile-m : B.machine.tile_m ≤ B.machine.mlen / B.machine.rlen
  pub tile-k : B.machine.tile_k ≤ min (B.machine.mlen / B.machine.rlen) (B.machine.rlen / 8)
  pub tile-n : B.machine.tile_n ≤ B.machine.rlen / 8
  pub rule : KnownRule B.machine.rule
  pub each-mark : (q : ℕ) → q < length B.marks → (get_or B.marks q 0 ≡ 0) ⊎ (get_or B.marks q 0 ≡ 1)
  pub at-most-eight : length B.seals ≤ 8
  pub each-ends : EachEnds B.seals

-- the states that the definitions take for faultless are these
abbrev pub FaultsAreThese : Type 0
FaultsAreThese = (B : Bench) → (sound_bench B ≡ true) ↔ NotAtFault B

-- ---- 8, then another answer, else 0

-- "Given exactly when": 8 unless the arguments are good; then k, if a further sentence holds; else 0; no other
pub record Exactly (answer k : ℕ) (Good Refused : Type 0) : Type 0 where
  pub eight : (answer ≡ 8) ↔ ¬ Good
  pub next : (answer ≡ k) ↔ Good × Refused
  pub nought : (answer ≡ 0) ↔ Good × ¬ Refused
