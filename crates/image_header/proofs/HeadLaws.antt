-- The header of an image, part by part: from what was read at each place to what the parser finds from there on.
use Rattle.std.specs.Prelude.{Ok, Err}
use Rattle.numbers.proofs.Kit.{◌≡◌, refl, sym, ap, ◌∙◌, ◌⊎◌, inl, inr, Bool, true, false, cond, ◌&&◌, List, [], ◌∷◌, ℕ, zero, suc, ◌+◌, ◌-◌, ◌*◌, ◌/◌, ◌^◌}
use Rattle.numbers.proofs.Kit.{◌≤◌, ◌<◌, max, arith, leb, ltb, eqb, length, drop, get_or, drop_of_length-le, drop-cons, pow_mono, lt-ltb, le-ltb, le-leb}
use Rattle.numbers.proofs.Kit.{lt-leb, eq-eqb, ne_eqb}
use Rattle.numbers.proofs.BlockLaws.{le-or-lt}
use Rattle.numbers_format.specs.Numbers.{span, Among}
use Rattle.numbers_format.specs.Formats.{Format}
use Rattle.numbers_format.specs.Formats.Format.{number}
use Rattle.numbers_format.specs.Parser.{is_among, nonempty, grow, read_number, parse, from}
use Rattle.numbers_format.specs.Parser.Parsed.{stopped}
use Rattle.numbers_format.proofs.NumberLaws.{reads-last, reads_more, read-empty}
use Rattle.machine.specs.declared.Machine.{Machine}
use Rattle.numbers_coded.specs.declared.Damage.{Damage}
use Rattle.numbers_coded.specs.At.{Number, found, number_at}
use Rattle.numbers_coded.specs.At.Number.{Value, Fault}
use Rattle.numbers_coded.proofs.FromLaws.{from-number, from-fault, from_start, took}
use Rattle.machine.specs.Geometry.{range}
use Rattle.image.specs.Images.{Seals, Header, machine_from}
use Rattle.image.specs.ImageFormat.{Described, least_mlen, mtypes, tiles_format, ranges_format, counts, seals_format, runs_format, all_register_bytes, head_format, image_format}
use Rattle.image_header.specs.declared.RangeRead.{RangeRead}
use Rattle.image_header.specs.Fields.{Pair, plain_range, Place, onward, mtype_at, count_at, pair_at, range_at, past, ranges_end, ranges_found, numbers_of, describe, runs_from}
use Rattle.image_header.specs.Fields.Pair.{Both, PairBad}
use Rattle.image_header.specs.Fields.Place.{Behind, PlaceBad}
use Rattle.image_header.proofs.BodyLaws.{mapped, runs-with}

-- two numbers, the second up to what the first says
abbrev pair_format : (most : ℕ) (most_of : ℕ → ℕ) → (ℕ → ℕ → Format Described) → Format Described
pair_format most most_of K = number (span 0 most) λ x. number (span 0 (most_of x)) λ y. K x y

record BothOk (s : List ℕ) (at most : ℕ) (most_of : ℕ → ℕ) (x y a : ℕ) : Type 0 where
  goes_on : (K : ℕ → ℕ → Format Described) → from (pair_format most most_of K) s at ≡ from (K x y) s a
  there : at ≤ length s → a ≤ length s

abbrev PairOk : List ℕ → (at most : ℕ) (most_of : ℕ → ℕ) → Pair → Type 0
PairOk s at most most_of (Both x y a) = BothOk s at most most_of x y a
PairOk s at most most_of (PairBad p) = (K : ℕ → ℕ → Format Described) → from (pair_format most most_of K) s at ≡ stopped p

-- all numbers: whatever follows them, as the runs do, is read from a place on
pub record HeadedOk (s : List ℕ) (m : Machine) (seals first count at : ℕ) : Type 0 where
  pub header : Header
  pub machine-is : m ≡ machine_from header
  pub seals-are : header.seals ≡ ranges_found s seals first
  pub seals-few : seals ≤ 8
  pub seals-end : (b : ℕ) × (ranges_end s seals first ≡ Behind b)
  pub goes_on : (K : Header → ℕ → Format Described) → from (head_format K) s 0 ≡ from (K header count) s at
  pub mlen-ok : header.mlen ≤ 16
  pub count-ok : count ≤ 2 ^ header.mlen
  pub there : at ≤ length s

-- ---- the least MLEN

-- by the tests of the code
pub least_other : (v e r : ℕ) → ¬ (v ≡ 3) → r + 1 ≡ least_mlen v e r
unfolding least_mlen
least_other v e r d = rw (ne_eqb v 3 d) (omega arith)

pub least-wide : (v e r : ℕ) → v ≡ 3 → ¬ (e ≡ 5) → r + 1 ≡ least_mlen v e r
unfolding least_mlen
least-wide v e r h d = rw (eq-eqb v 3 h, ne_eqb e 5 d) (omega arith)

pub least-far : (v e r : ℕ) → v ≡ 3 → 10 ≤ r → r + 1 ≡ least_mlen v e r
unfolding least_mlen
least-far v e r h l = rw (eq-eqb v 3 h, le-ltb r 10 l) (go (eqb e 5))
  where
    go : (t : Bool) → r + 1 ≡ cond (t && false) 13 (suc r)
    go true = omega arith
    go false = omega arith

pub least-near : (v e r : ℕ) → v ≡ 3 → e ≡ 5 → r < 10 → 13 ≡ least_mlen v e r
unfolding least_mlen
least-near v e r h f l = rw (eq-eqb v 3 h, eq-eqb e 5 f, lt-ltb r 10 l)

-- ---- mtype: the permitted values are three ranges, of which only 2^63 takes more than a byte

-- where a second group follows, only 2^63 is left
wide-same : (elen : ℕ) → elen ≤ 6 → (t : List ℕ) → read_number (mtypes elen) (128 ∷ t) ≡ read_number (span (2 ^ 63) (2 ^ 63)) (128 ∷ t)
unfolding mtypes
wide-same elen few t =
    reads_more (mtypes elen) 128 t (2 ^ 56) (omega arith) (inr (inr (inl (omega arith))))
    ∙ ap (grow 0) (read-empty _ _ t (omega arith) ∙ read-empty _ _ t (omega arith))
    ∙ sym (reads_more (span (2 ^ 63) (2 ^ 63)) 128 t (2 ^ 56) (omega arith) (inl (omega arith)))

module _ (s : List ℕ) (elen at : ℕ) (few : (5 ≤ elen) × (elen ≤ 6)) where
  pub mtype-end : length s ≤ at → Fault at ≡ mtype_at s elen at
  unfolding mtype_at read_number
  mtype-end h = rw (drop_of_length-le s h) (ap Fault (omega arith))

  module _ (b : ℕ) (h : at < length s) (is : b ≡ get_or s at 0) where
    start : drop at s ≡ b ∷ drop (suc at) s
    start = drop-cons s at 0 h ∙ ap (λ (x : ℕ). x ∷ drop (suc at) s) (sym is)

    pub mtype-value : b < 128 → Among b (mtypes elen) → Value b (at + 1) ≡ mtype_at s elen at
    unfolding mtype_at
    mtype-value k i = sym (ap (λ (l : List ℕ). found at (read_number (mtypes elen) l)) start ∙ ap (found at) (reads-last (mtypes elen) b (drop (suc at) s) k i))

    pub mtype-small : b ≤ elen - 3 → Value b (at + 1) ≡ mtype_at s elen at
    unfolding mtypes
    mtype-small h = mtype-value (omega (arith, few)) (inl (omega arith, h))

    pub mtype-eight : 8 ≤ b → b ≤ 8 + (elen - 5) → Value b (at + 1) ≡ mtype_at s elen at
    unfolding mtypes
    mtype-eight l h = mtype-value (omega (arith, few)) (inr (inl (l, h)))

    pub mtype-none : b < 128 → elen - 3 < b → (b < 8) ⊎ (8 + (elen - 5) < b) → Fault at ≡ mtype_at s elen at
    unfolding mtype_at read_number is_among mtypes
    mtype-none k a o = rw (start, lt-ltb b 128 k, le-leb 0 b (omega arith), lt-leb b (elen - 3) a, apart o, lt-leb (2 ^ 63) b (omega arith)) (ap Fault (omega arith))
      where
        apart : (b < 8) ⊎ (8 + (elen - 5) < b) → cond (leb 8 b) (leb b (8 + (elen - 5))) false ≡ false
        apart (inl l) = rw (lt-leb 8 b l)
        apart (inr l) = rw (le-leb 8 b (omega (arith, few)), lt-leb b (8 + (elen - 5)) l)

    pub mtype-odd : 128 < b → b < 256 → Fault at ≡ mtype_at s elen at
    unfolding mtype_at read_number nonempty mtypes
    mtype-odd k l =
        let none_left : (low high : ℕ) → (high - (b - 128)) / 128 < max 1 ((low + 127 - (b - 128)) / 128) → leb (max 1 ((low + 127 - (b - 128)) / 128)) ((high - (b - 128)) / 128) ≡ false = λ low high q. lt-leb _ _ q in
        rw (start, le-ltb b 128 (omega arith), none_left 0 (elen - 3) (omega (arith, few)), none_left 8 (8 + (elen - 5)) (omega (arith, few)), none_left (2 ^ 63) (2 ^ 63) (omega arith)) (ap Fault (omega arith))

    pub mtype-wide : b ≡ 128 → number_at s at (2 ^ 63) (2 ^ 63) ≡ mtype_at s elen at
    unfolding mtype_at number_at
    mtype-wide e =
        let st : drop at s ≡ 128 ∷ drop (suc at) s = start ∙ ap (λ (x : ℕ). x ∷ drop (suc at) s) e in
        ap (λ (l : List ℕ). found at (read_number (span (2 ^ 63) (2 ^ 63)) l)) st ∙ ap (found at) (sym (wide-same elen few.1 (drop (suc at) s))) ∙ ap (λ (l : List ℕ). found at (read_number (mtypes elen) l)) (sym st)

-- ---- two numbers

module _ (s : List ℕ) (at most : ℕ) (most_of : ℕ → ℕ) where
  pair-rest : (x a : ℕ) → number_at s at 0 most ≡ Value x a → (n : Number) → number_at s a 0 (most_of x) ≡ n → PairOk s at most most_of (onward n PairBad λ y b. Both x y b)
  pair-rest x a e (Value y b) e₁ = record {
    goes_on = λ K. from-number s at 0 most x a _ e ∙ from-number s a 0 (most_of x) y b _ e₁;
    there = λ h. (took s a 0 (most_of x) y b e₁).behind ((took s at 0 most x a e).behind h);
  }
  pair-rest x a e (Fault p) e₁ = λ K. from-number s at 0 most x a _ e ∙ from-fault s a 0 (most_of x) p _ e₁

  pair-right : PairOk s at most most_of (pair_at s at most most_of)
  pair-right = go (number_at s at 0 most) refl
    where
      go : (n : Number) → number_at s at 0 most ≡ n → PairOk s at most most_of (onward n PairBad λ x a. onward (number_at s a 0 (most_of x)) PairBad λ y b. Both x y b)
      go (Value x a) e = pair-rest x a e (number_at s a 0 (most_of x)) refl
      go (Fault p) e = λ K. from-fault s at 0 most p _ e

-- ---- the ranges

-- a number of ranges other than 1 is at fault where a number up to 8 is
counts_same : (b : ℕ) (t : List ℕ) → ¬ (b ≡ 1) → read_number counts (b ∷ t) ≡ read_number (span 0 8) (b ∷ t)
unfolding read_number is_among nonempty
counts_same b t d = go (ltb b 128) refl
  where
    none_left : (low high : ℕ) → high ≤ 8 → leb (max 1 ((low + 127 - (b - 128)) / 128)) ((high - (b - 128)) / 128) ≡ false
    none_left low high h = lt-leb (max 1 ((low + 127 - (b - 128)) / 128)) ((high - (b - 128)) / 128) (omega arith)

    same : is_among b counts ≡ is_among b (span 0 8)
    same = elim (le-or-lt 2 b) [
      | inl l ↦ rw (le-leb 0 b (omega arith), lt-leb b 0 (omega arith), le-leb 2 b l)
      | inr l ↦ elim (le-or-lt 1 b) [ inl g ↦ absurd (d (omega arith)) | inr g ↦ rw (le-leb 0 b (omega arith), le-leb b 0 (omega arith), le-leb b 8 (omega arith)) ]
    ]

    go : (u : Bool) → ltb b 128 ≡ u → read_number counts (b ∷ t) ≡ read_number (span 0 8) (b ∷ t)
    go true e = rw (e, same)
    go false e = rw (e, none_left 0 0 (omega arith), none_left 2 8 (omega arith), none_left 0 8 (omega arith))

module _ (s : List ℕ) (at : ℕ) where
  pub count-end : length s ≤ at → Fault at ≡ count_at s at
  unfolding count_at read_number
  count-end h = rw (drop_of_length-le s h) (ap Fault (omega arith))

  module _ (b : ℕ) (h : at < length s) (is : b ≡ get_or s at 0) where
    begins : drop at s ≡ b ∷ drop (suc at) s
    begins = drop-cons s at 0 h ∙ ap (λ (x : ℕ). x ∷ drop (suc at) s) (sym is)

    pub count-bad : b ≡ 1 → Fault at ≡ count_at s at
    unfolding count_at read_number is_among
    count-bad one = rw (begins, one) (ap Fault (omega arith))

    pub count-some : ¬ (b ≡ 1) → number_at s at 0 8 ≡ count_at s at
    unfolding count_at number_at
    count-some d = rw begins (ap (found at) (sym (counts_same b (drop (suc at) s) d)))

-- what the code has of a range
pub range-good : (q : Pair) {r : RangeRead} → Ok r ≡ plain_range q → q ≡ Both r.start r.size r.at
range-good (Both x y a) e = cc
range-good (PairBad p) e = let z : ◌≡◌ {A = ℕ} 0 1 = cc in absurd (omega arith)

pub range-bad : (q : Pair) {d : Damage} → Err d ≡ plain_range q → q ≡ PairBad d.at
range-bad (Both x y a) e = let z : ◌≡◌ {A = ℕ} 0 1 = cc in absurd (omega arith)
range-bad (PairBad p) e = cc

-- so many ranges, one after the other
pub ranges-none : (s : List ℕ) (n at : ℕ) → n ≤ 0 → Behind at ≡ ranges_end s n at
unfolding ranges_end
ranges-none s zero at h = refl
ranges-none s (suc n) at h = absurd (omega arith)

module _ (s : List ℕ) where
  pub ranges-bad : (n at p : ℕ) → 0 < n → range_at s at ≡ PairBad p → PlaceBad p ≡ ranges_end s n at
  unfolding ranges_end
  ranges-bad zero at p h e = absurd (omega arith)
  ranges-bad (suc n) at p h e = ap (λ (x : Pair). past x PlaceBad λ start size a. ranges_end s n a) (sym e)

  pub ranges-next : (n at st ln a : ℕ) → 0 < n → range_at s at ≡ Both st ln a → ranges_end s (n - 1) a ≡ ranges_end s n at
  unfolding ranges_end
  ranges-next zero at st ln a h e = absurd (omega arith)
  ranges-next (suc n) at st ln a h e = ap (λ (x : ℕ). ranges_end s x a) {x = suc n - 1} {y = n} (omega arith) ∙ ap (λ (x : Pair). past x PlaceBad λ start size a. ranges_end s n a) (sym e)

  pub found-next : (n at st ln a : ℕ) → 0 < n → range_at s at ≡ Both st ln a → ranges_found s n at ≡ range st ln ∷ ranges_found s (n - 1) a
  unfolding ranges_found
  found-next zero at st ln a h e = absurd (omega arith)
  found-next (suc n) at st ln a h e =
      ap (λ (x : Pair). past x (λ p. []) λ start size a. range start size ∷ ranges_found s n a) e
      ∙ ap (λ (x : ℕ). range st ln ∷ ranges_found s x a) {x = n} {y = suc n - 1} (omega arith)

  -- what the format finds in them
  abbrev pub EndOk : (n at : ℕ) → Seals → Place → Type 0
  EndOk n at rs (Behind b) = ((K : Seals → Format Described) → from (ranges_format n K) s at ≡ from (K rs) s b) × (at ≤ length s → b ≤ length s)
  EndOk n at rs (PlaceBad p) = (K : Seals → Format Described) → from (ranges_format n K) s at ≡ stopped p

  abbrev bound : ℕ
  bound = 2 ^ 64 - 1

  abbrev left : ℕ → ℕ
  left start = 2 ^ 64 - 1 - start

  behind-one : (n at st ln a : ℕ) → BothOk s at bound left st ln a → (rs : Seals) (x : Place) → EndOk n a rs x → EndOk (suc n) at (range st ln ∷ rs) x
  unfolding ranges_format
  behind-one n at st ln a h rs (Behind b) k = (
    λ K. h.goes_on (λ start size. ranges_format n λ qs. K (range start size ∷ qs)) ∙ k.0 (λ qs. K (range st ln ∷ qs)),
    λ l. k.1 (h.there l),
  )
  behind-one n at st ln a h rs (PlaceBad p) k = λ K. h.goes_on (λ start size. ranges_format n λ qs. K (range start size ∷ qs)) ∙ k (λ qs. K (range st ln ∷ qs))

  pub ranges-right : (n at : ℕ) → EndOk n at (ranges_found s n at) (ranges_end s n at)
  unfolding ranges_format ranges_end ranges_found range_at
  ranges-right zero at = (λ K. refl, λ l. l)
  ranges-right (suc n) at = go (range_at s at) (pair-right s at bound left) (ranges-right n)
    where
      go : (x : Pair) → PairOk s at bound left x → ((a : ℕ) → EndOk n a (ranges_found s n a) (ranges_end s n a))
          → EndOk (suc n) at (past x (λ p. []) λ start size a. range start size ∷ ranges_found s n a) (past x PlaceBad λ start size a. ranges_end s n a)
      go (Both st ln a) h rest = behind-one n at st ln a h (ranges_found s n a) (ranges_end s n a) (rest a)
      go (PairBad p) h rest = λ K. h (λ start size. ranges_format n λ qs. K (range start size ∷ qs))

-- ---- all of them

-- the format from a part on, by what follows the number of runs
abbrev pub runs_part : {X : Type 0} → (Header → ℕ → Format X) → (rule elen r m t tm tk tn : ℕ) → Seals → ℕ → Format X
runs_part K rule elen r m t tm tk tn rs c = K (numbers_of rule elen r m t tm tk tn rs) c

abbrev pub count_part : {X : Type 0} → (Header → ℕ → Format X) → (rule elen r m t tm tk tn : ℕ) → Seals → Format X
count_part K rule elen r m t tm tk tn rs = number (span 0 (2 ^ m)) (runs_part K rule elen r m t tm tk tn rs)

abbrev pub seals_part : {X : Type 0} → (Header → ℕ → Format X) → (version rule elen r m t tm tk tn : ℕ) → Format X
seals_part K version rule elen r m t tm tk tn = seals_format version (count_part K rule elen r m t tm tk tn)

abbrev pub tiles_part : {X : Type 0} → (Header → ℕ → Format X) → (version rule elen r m : ℕ) → Format X
tiles_part K version rule elen r m = tiles_format elen (2 ^ (m - r)) (2 ^ (r - 3)) (seals_part K version rule elen r m)

-- the runs behind a machine's numbers
abbrev pub body_part : Header → ℕ → Format Described
body_part h count = runs_format (describe h) count 0 (all_register_bytes h.mlen)

module _ (s : List ℕ) where
  pub parts : parse image_format s ≡ from (head_format body_part) s 0
  unfolding image_format
  parts = sym (from_start s image_format)

-- ---- what the code uses of them

module _ (s : List ℕ) (m : Machine) (n f c a : ℕ) (h : HeadedOk s m n f c a) where
  mlen-is : m.mlen ≡ 2 ^ h.header.mlen
  mlen-is = ap (λ (x : Machine). x.mlen) h.machine-is

  pub head-sizes : (m.mlen ≤ 65536) × (c ≤ m.mlen) × (a ≤ length s)
  head-sizes =
      let small : 2 ^ h.header.mlen ≤ 2 ^ 16 = pow_mono {i = h.header.mlen} {j = 16} h.mlen-ok in
      (omega (arith, mlen-is), omega (arith, mlen-is, h.count-ok), h.there)

  -- the runs as the format has them behind these numbers
  pub head-parse : parse image_format s ≡ mapped (λ d. describe h.header d.body) (runs_from s a c 0 (2 * m.mlen))
  head-parse = parts s ∙ h.goes_on body_part ∙ runs-with h.header c 0 (all_register_bytes h.header.mlen) s a ∙ ap (λ (x : ℕ). mapped (λ d. describe h.header d.body) (runs_from s a c 0 (2 * x))) (sym mlen-is)
