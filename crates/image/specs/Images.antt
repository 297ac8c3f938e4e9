-- 02, Six: the image of a machine.
use Rattle.std.specs.Prelude.{◌≡◌, ◌||◌, ◌&&◌, ◌∷◌, ◌++◌, ◌/◌, ◌^◌}
use Rattle.numbers.specs.Kit.{Bool, true, cond, List, [], ℕ, zero, suc, ltb, eqb, length}
use Rattle.numbers_format.specs.Numbers.{encode, encode_all, ByteString}
use Rattle.machine.specs.declared.Machine.{Machine}
use Rattle.machine.specs.Geometry.{Range}
use Rattle.machine.specs.Faults.{sound, seals_fit}
use Rattle.image.specs.Cells.{Run, runs, cells_of}
use Rattle.image.specs.Cells.Run.{run}

-- ---- the numbers

-- how often n can be halved before it is 1: the exponent of a power of two
unfoldable pub log2 : (most n : ℕ) → ℕ
log2 zero n = 0
log2 (suc f) n = cond (ltb n 2) 0 (suc (log2 f (n / 2)))

abbrev pub exponent : ℕ → ℕ
exponent n = log2 64 n

-- a machine's sealed ranges, "in order of entry"
abbrev pub Seals : Type 0
Seals = List Range

-- a machine's numbers as an image has them: "the exponents of RLEN and MLEN, mtype, tile_m, tile_k, tile_n, seal start and length", and, 02,
-- Eight, the rule, and, 02, Ten, "the exponent of ELEN", and, 02, Twelve, any number of ranges
pub record Header : Type 0 where
  pub rlen : ℕ
  pub mlen : ℕ
  pub mtype : ℕ
  pub tile_m : ℕ
  pub tile_k : ℕ
  pub tile_n : ℕ
  pub seals : Seals
  pub rule : ℕ
  pub elen : ℕ

abbrev pub header_of : Machine → Seals → Header
header_of m seals = record {
  rlen = exponent m.rlen;
  mlen = exponent m.mlen;
  mtype = m.mtype;
  tile_m = m.tile_m;
  tile_k = m.tile_k;
  tile_n = m.tile_n;
  seals = seals;
  rule = m.rule;
  elen = exponent m.elen;
}

-- the machine with these numbers; it holds the header's ranges
abbrev pub machine_from : Header → Machine
machine_from h = record {
  rlen = 2 ^ h.rlen;
  mlen = 2 ^ h.mlen;
  mtype = h.mtype;
  tile_m = h.tile_m;
  tile_k = h.tile_k;
  tile_n = h.tile_n;
  rule = h.rule;
  elen = 2 ^ h.elen;
}

-- ---- the bytes

-- 02, Ten: "a machine beyond the old bounds, or with ELEN 64": RLEN above 512 or MLEN above 4,096, by their exponents
unfoldable pub beyond : (elen rlen mlen : ℕ) → Bool
beyond elen rlen mlen = eqb elen 6 || (ltb 9 rlen || ltb 12 mlen)

-- exactly one range, as versions 1 to 3 have it
abbrev pub single : Seals → Bool
single seals = eqb (length seals) 1

-- 02, Eight: "An image of a halving machine has version 2, with the rule (1) after the version; version 1 stays the form of the others."
-- 02, Ten: "An image of a machine beyond the old bounds, or with ELEN 64, has version 3: the version, the rule (0 or 1), the exponent of
-- ELEN, then the rest. Writers use the lowest version that can hold the machine". 02, Twelve: "Images with other than one range have
-- version 4: as version 3"
abbrev pub version : Header → List ℕ
version h =
    cond (single h.seals)
    (cond (beyond h.elen h.rlen h.mlen) (3 ∷ h.rule ∷ h.elen ∷ []) (cond (eqb h.rule 1) (2 ∷ 1 ∷ []) (1 ∷ [])))
    (4 ∷ h.rule ∷ h.elen ∷ [])

-- "seal start and length" of each range
abbrev pub bounds : Seals → List ℕ
bounds [] = []
bounds (r ∷ rs) = r.start ∷ r.size ∷ bounds rs

-- 02, Twelve: of version 4 "with the number of ranges before them, in order of entry"
abbrev pub seal_fields : Seals → List ℕ
seal_fields seals = cond (single seals) (bounds seals) (length seals ∷ bounds seals)

-- "The fields are version 1, the exponents of RLEN and MLEN, mtype, tile_m, tile_k, tile_n, seal start and length": those behind the version
abbrev pub fields : Header → List ℕ
fields h = h.rlen ∷ h.mlen ∷ h.mtype ∷ h.tile_m ∷ h.tile_k ∷ h.tile_n ∷ seal_fields h.seals

-- "A run is ..: its gap .., its length, then its bytes as they are."
abbrev pub runs_bytes : List Run → List ℕ
runs_bytes [] = []
runs_bytes (run g b ∷ rs) = encode g ++ (encode (length b) ++ (b ++ runs_bytes rs))

-- the version, the fields, "then the number of runs", then the runs
abbrev pub spelled : Header → List Run → List ℕ
spelled h rs = encode_all (version h) (encode_all (fields h) (encode (length rs) ++ runs_bytes rs))

-- the image of a machine with its ranges
unfoldable pub image_of : Machine → Seals → (registers marks : List ℕ) → List ℕ
image_of m seals registers marks = spelled (header_of m seals) (runs (cells_of registers marks))

-- ---- accepted images

-- a machine with its ranges that is not at fault
abbrev pub sound_with : Machine → Seals → (registers marks : List ℕ) → Bool
sound_with m seals registers marks = sound m registers marks && seals_fit seals

-- "Numbers must be ones a machine can hold": an image is accepted if it is that of a machine that is not at fault
pub record IsImage (s : List ℕ) : Type 0 where
  pub machine : Machine
  pub seals : Seals
  pub registers : List ℕ
  pub marks : List ℕ
  pub not-at-fault : sound_with machine seals registers marks ≡ true
  pub are-bytes : ByteString registers
  pub is-its-image : s ≡ image_of machine seals registers marks
