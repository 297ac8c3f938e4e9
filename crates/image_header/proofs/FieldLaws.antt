-- The fields of a header, one after the other: from each on, what is read is what the format has.
use Rattle.numbers.proofs.Kit.{◌≡◌, refl, sym, ap, ◌∙◌, subst, inl, inr, Bool, true, false, cond, List, ℕ, zero, suc, ◌+◌, ◌-◌, ◌^◌, ◌≤◌, ◌<◌, min, arith}
use Rattle.numbers.proofs.Kit.{eqb, ltb, length, lt-ltb, le-ltb, ltb-true, eqb-true, ne_eqb}
use Rattle.numbers_format.specs.Numbers.{span, Among}
use Rattle.numbers_format.specs.Formats.{Format}
use Rattle.numbers_format.specs.Formats.Format.{number}
use Rattle.numbers_format.specs.Parser.{parse, from}
use Rattle.numbers_format.specs.Parser.Parsed.{stopped}
use Rattle.numbers_coded.specs.At.{Number, number_at}
use Rattle.numbers_coded.specs.At.Number.{Value, Fault}
use Rattle.numbers_coded.proofs.FromLaws.{from-number, from-fault, from-value, from-stuck, took, took_in}
use Rattle.image.specs.Images.{Header}
use Rattle.image.specs.ImageFormat.{Described, top_rlen, top_mlen, least_mlen, mtypes, ranges_format, counts, head_format, image_format}
use Rattle.image.proofs.ImageLaws.{top-mlen}
use Rattle.image_header.specs.declared.Fields.{Fields}
use Rattle.image_header.specs.declared.Row.TheVariants.{Span}
use Rattle.image_header.specs.Fields.{Place, onward, mtype_at, count_at, ranges_end, ranges_found, placed, ranges_at, fields_of, first_field, row_at, row_of, number_in, put_field, after, moved_to, field_read, with_row, field_from, fields_all, read_in, fields_in, machine_of, numbers_of}
use Rattle.image_header.specs.Fields.Place.{Behind, PlaceBad}
use Rattle.image_header.proofs.HeadLaws.{HeadedOk, runs_part, count_part, seals_part, tiles_part, body_part}
use Rattle.image_header.proofs.HeadLaws.{EndOk, ranges-right, parts}

-- ---- for the code

-- none of the first eleven
abbrev Last : ℕ → Type 0
Last n = ((((((((((Unit {0} × ¬ (n ≡ 0)) × ¬ (n ≡ 1)) × ¬ (n ≡ 2)) × ¬ (n ≡ 3)) × ¬ (n ≡ 4)) × ¬ (n ≡ 5)) × ¬ (n ≡ 6)) × ¬ (n ≡ 7)) × ¬ (n ≡ 8)) × ¬ (n ≡ 9)) × ¬ (n ≡ 10)

zero-le : (n : ℕ) → 0 ≤ n
zero-le n = omega arith

up : (n k : ℕ) → k ≤ n → ¬ (n ≡ k) → suc k ≤ n
up n k h d = omega arith

from-eleven : (n : ℕ) → 11 ≤ n → n < 12 → n ≡ 11
from-eleven n h l = omega arith

pub last-field : (n : ℕ) → n < 12 → Last n → n ≡ 11
last-field n l r = from-eleven n (up n 10 (up n 9 (up n 8 (up n 7 (up n 6 (up n 5 (up n 4 (up n 3 (up n 2 (up n 1 (up n 0 (zero-le n) r.0.0.0.0.0.0.0.0.0.0.1) r.0.0.0.0.0.0.0.0.0.1) r.0.0.0.0.0.0.0.0.1) r.0.0.0.0.0.0.0.1) r.0.0.0.0.0.0.1) r.0.0.0.0.0.1) r.0.0.0.0.1) r.0.0.0.1) r.0.0.1) r.0.1) r.1) l

pub row_last : (t : Fields) (x : ℕ) → x ≡ 2 ^ t.mlen → Last t.next → Span 0 x ≡ row_of t
unfolding row_at
row_last t x e r = rw (
  e,
  ne_eqb t.next 0 r.0.0.0.0.0.0.0.0.0.0.1,
  ne_eqb t.next 1 r.0.0.0.0.0.0.0.0.0.1,
  ne_eqb t.next 2 r.0.0.0.0.0.0.0.0.1,
  ne_eqb t.next 3 r.0.0.0.0.0.0.0.1,
  ne_eqb t.next 4 r.0.0.0.0.0.0.1,
  ne_eqb t.next 5 r.0.0.0.0.0.1,
  ne_eqb t.next 6 r.0.0.0.0.1,
  ne_eqb t.next 7 r.0.0.0.1,
  ne_eqb t.next 8 r.0.0.1,
  ne_eqb t.next 9 r.0.1,
  ne_eqb t.next 10 r.1,
)

-- ---- the loop

-- each field has a higher number than the one before it
pub after_more : (f v : ℕ) → f < after f v
unfolding after
after_more f v = go (eqb f 0) refl (eqb v 1) (eqb f 1) refl (eqb v 2) (eqb f 8) refl (eqb v 4)
  where
    go : (a : Bool) → eqb f 0 ≡ a → (x b : Bool) → eqb f 1 ≡ b → (y c : Bool) → eqb f 8 ≡ c → (z : Bool)
        → f < cond a (cond x 3 1) (cond b (cond y 3 2) (cond c (cond z 9 10) (f + 1)))
    go true e true b i y c j z = omega (arith, eqb-true f 0 e)
    go true e false b i y c j z = omega (arith, eqb-true f 0 e)
    go false e x true i true c j z = omega (arith, eqb-true f 1 i)
    go false e x true i false c j z = omega (arith, eqb-true f 1 i)
    go false e x false i y true j true = omega (arith, eqb-true f 8 j)
    go false e x false i y true j false = omega (arith, eqb-true f 8 j)
    go false e x false i y false j z = omega arith

module _ (s : List ℕ) where
  pub field-more : (at : ℕ) (t : Fields) → t.next < 12 → t.next < (field_from s at t).next
  unfolding field_from
  field-more at t h = go (number_in s at t.row)
    where
      go : (n : Number) → t.next < (onward n (λ p. moved_to 13 p t) (λ n a. with_row (field_read t n a))).next
      go (Value n a) = after_more t.next (put_field t n).version
      go (Fault p) = omega (arith, h)

  all-enough : (f g : ℕ) (t : Fields) → 12 - t.next ≤ f → 12 - t.next ≤ g → fields_all s f t ≡ fields_all s g t
  unfolding fields_all
  all-enough zero zero t h k = refl
  all-enough zero (suc g) t h k = rw (le-ltb t.next 12 (omega arith), fields_all)
  all-enough (suc f) zero t h k = rw (le-ltb t.next 12 (omega arith), fields_all)
  all-enough (suc f) (suc g) t h k = go (ltb t.next 12) refl (λ l. all-enough f g (field_from s t.at t) (omega (arith, field-more t.at t l)) (omega (arith, field-more t.at t l)))
    where
      go : (c : Bool) → ltb t.next 12 ≡ c → (t.next < 12 → fields_all s f (field_from s t.at t) ≡ fields_all s g (field_from s t.at t))
          → cond c (fields_all s f (field_from s t.at t)) t ≡ cond c (fields_all s g (field_from s t.at t)) t
      go true e ih = ih (ltb-true t.next 12 e)
      go false e ih = refl

  -- all that are left of the fields
  abbrev pub left : Fields → Fields
  left t = fields_all s (12 - t.next) t

  all-turn : (k : ℕ) (t : Fields) → 12 - t.next ≡ suc k → left (field_from s t.at t) ≡ fields_all s (suc k) t
  unfolding fields_all
  all-turn k t e =
      let low : t.next < 12 = omega (arith, e) in
      all-enough (12 - (field_from s t.at t).next) k (field_from s t.at t) (omega arith) (omega (arith, field-more t.at t low, e))
      ∙ ap (λ (c : Bool). cond c (fields_all s k (field_from s t.at t)) t) (sym (lt-ltb t.next 12 low))

  pub fields-step : (t : Fields) → t.next < 12 → left (field_from s t.at t) ≡ left t
  fields-step t h =
      let some : 12 - t.next ≡ suc (11 - t.next) = omega arith in
      all-turn (11 - t.next) t some ∙ ap (λ (n : ℕ). fields_all s n t) (sym some)

  pub fields-done : (t : Fields) → 12 ≤ t.next → t ≡ left t
  unfolding fields_all
  fields-done t h = let none : 12 - t.next ≡ 0 = omega arith in ap (λ (n : ℕ). fields_all s n t) (sym none)

-- ---- what a header that was read is known to be

abbrev pub HeadOk : List ℕ → Fields → Type 0
HeadOk s t = (t.next ≡ 12 → HeadedOk s (machine_of t) t.seals t.seals_at t.runs t.at)
    × (¬ (t.next ≡ 12) → (K : Header → ℕ → Format Described) → from (head_format K) s 0 ≡ stopped t.at)

module _ (s : List ℕ) where
  -- one field
  field : (t : Fields) → t.next < 12
      → ((n a : ℕ) → number_in s t.at t.row ≡ Value n a → HeadOk s (left s (with_row (field_read t n a))))
      → ((p : ℕ) → number_in s t.at t.row ≡ Fault p → (K : Header → ℕ → Format Described) → from (head_format K) s 0 ≡ stopped p) → HeadOk s (left s t)
  unfolding field_from fields_all
  field t h good bad = subst (HeadOk s) (fields-step s t h) (go (number_in s t.at t.row) refl)
    where
      go : (q : Number) → number_in s t.at t.row ≡ q
          → HeadOk s (left s (onward q (λ p. moved_to 13 p t) (λ n a. with_row (field_read t n a))))
      go (Value n a) e = good n a e
      go (Fault p) e = (λ x. absurd (omega (arith, x)), λ d K. bad p e K)

  -- whatever follows the number of runs, the format goes on so
  abbrev Known : ((Header → ℕ → Format Described) → Format Described) → ℕ → Type 0
  Known F a = (K : Header → ℕ → Format Described) → from (head_format K) s 0 ≡ from (F K) s a

  module _ (v rule elen r m : ℕ) (mlen-ok : m ≤ 16) where
    module _ (t tm tk tn : ℕ) where
      runs-field : (c d e : ℕ) → Known (λ K. count_part K rule elen r m t tm tk tn (ranges_found s c d)) e → c ≤ 8 → ranges_end s c d ≡ Behind e → e ≤ length s
          → HeadOk s (left s (fields_of 11 e v rule elen r m t tm tk tn c d 0))
      unfolding row_at number_in put_field after fields_all
      runs-field c d e known few ends there =
          field (fields_of 11 e v rule elen r m t tm tk tn c d 0) (omega arith)
          (λ n a q. (
            λ _. record {
              header = numbers_of rule elen r m t tm tk tn (ranges_found s c d);
              machine-is = refl;
              seals-are = refl;
              seals-few = few;
              seals-end = (e, ends);
              goes_on = λ K. known K ∙ from-number s e 0 (2 ^ m) n a (runs_part K rule elen r m t tm tk tn (ranges_found s c d)) q;
              mlen-ok = mlen-ok;
              count-ok = (took s e 0 (2 ^ m) n a q).most;
              there = (took s e 0 (2 ^ m) n a q).behind there;
            },
            λ d. absurd (d refl),
          ))
          (λ p q K. known K ∙ from-fault s e 0 (2 ^ m) p (runs_part K rule elen r m t tm tk tn (ranges_found s c d)) q)

      ranges-field : (c b : ℕ) → Known (λ K. ranges_format c (count_part K rule elen r m t tm tk tn)) b → c ≤ 8 → b ≤ length s
          → HeadOk s (left s (fields_of 10 b v rule elen r m t tm tk tn c 0 0))
      unfolding row_at number_in put_field after ranges_at
      ranges-field c b known few there =
          field (fields_of 10 b v rule elen r m t tm tk tn c 0 0) (omega arith)
          (λ n a q. at-end (ranges_end s c b) refl (ranges-right s c b) n a q)
          (λ p q K. at-fault (ranges_end s c b) (ranges-right s c b) p q K)
        where
          at-end : (x : Place) → ranges_end s c b ≡ x → EndOk s c b (ranges_found s c b) x → (n a : ℕ) → placed b x ≡ Value n a
              → HeadOk s (left s (fields_of 11 a v rule elen r m t tm tk tn c n 0))
          at-end (Behind e) i k n a q =
              let en : b ≡ n = cc in
              let ea : e ≡ a = cc in
              subst (λ (x : ℕ). HeadOk s (left s (fields_of 11 a v rule elen r m t tm tk tn c x 0))) en
              (subst (λ (x : ℕ). HeadOk s (left s (fields_of 11 x v rule elen r m t tm tk tn c b 0))) ea
              (runs-field c b e (λ K. known K ∙ k.0 (count_part K rule elen r m t tm tk tn)) few i (k.1 there)))
          at-end (PlaceBad p) i k n a q = let z : ◌≡◌ {A = ℕ} 0 1 = cc in absurd (omega arith)

          at-fault : (x : Place) → EndOk s c b (ranges_found s c b) x → (p : ℕ) → placed b x ≡ Fault p → (K : Header → ℕ → Format Described) → from (head_format K) s 0 ≡ stopped p
          at-fault (Behind e) k p q K = let z : ◌≡◌ {A = ℕ} 0 1 = cc in absurd (omega arith)
          at-fault (PlaceBad x) k p q K = let e : x ≡ p = cc in known K ∙ k (count_part K rule elen r m t tm tk tn) ∙ ap stopped e

      count-field : (b : ℕ) → Known (λ K. number counts (λ c. ranges_format c (count_part K rule elen r m t tm tk tn))) b → b ≤ length s
          → HeadOk s (left s (fields_of 9 b v rule elen r m t tm tk tn 1 0 0))
      unfolding row_at number_in put_field after count_at
      count-field b known there =
          field (fields_of 9 b v rule elen r m t tm tk tn 1 0 0) (omega arith)
          (λ n a q. let w = took_in counts s b n a q in ranges-field n a (λ K. known K ∙ from-value counts s b n a (λ c. ranges_format c (count_part K rule elen r m t tm tk tn)) q) (few n w.0) (w.1 there))
          (λ p q K. known K ∙ from-stuck counts s b p (λ c. ranges_format c (count_part K rule elen r m t tm tk tn)) q)
        where
          few : (n : ℕ) → Among n counts → n ≤ 8
          few n (inl h) = omega (arith, h)
          few n (inr (inl h)) = h.1
          few n (inr (inr h)) = absurd h

      -- behind the tile sizes: the number of ranges, or one range
      seals-field : (a : ℕ) → Known (λ K. seals_part K v rule elen r m t tm tk tn) a → a ≤ length s → HeadOk s (left s (fields_of (after 8 v) a v rule elen r m t tm tk tn 1 0 0))
      unfolding after
      seals-field a known there = go (eqb v 4) refl
        where
          go : (u : Bool) → eqb v 4 ≡ u → HeadOk s (left s (fields_of (cond u 9 10) a v rule elen r m t tm tk tn 1 0 0))
          go true e = count-field a (λ K. known K ∙ rw e) there
          go false e = ranges-field 1 a (λ K. known K ∙ rw e) (omega arith) there

    abbrev rows : ℕ
    rows = 2 ^ (m - r)

    abbrev columns : ℕ
    columns = 2 ^ (r - 3)

    n_field : (t tm tk a : ℕ) → Known (λ K. number (span 0 columns) (seals_part K v rule elen r m t tm tk)) a → a ≤ length s → HeadOk s (left s (fields_of 8 a v rule elen r m t tm tk 0 1 0 0))
    unfolding row_at number_in put_field
    n_field t tm tk a known there =
        field (fields_of 8 a v rule elen r m t tm tk 0 1 0 0) (omega arith)
        (λ n b q. seals-field t tm tk n b (λ K. known K ∙ from-number s a 0 columns n b (seals_part K v rule elen r m t tm tk) q) ((took s a 0 columns n b q).behind there))
        (λ p q K. known K ∙ from-fault s a 0 columns p (seals_part K v rule elen r m t tm tk) q)

    abbrev n_then : (Header → ℕ → Format Described) → ℕ → ℕ → ℕ → Format Described
    n_then K t tm tk = number (span 0 columns) (seals_part K v rule elen r m t tm tk)

    abbrev k_then : (Header → ℕ → Format Described) → ℕ → ℕ → Format Described
    k_then K t tm = number (span 0 (min rows columns)) (n_then K t tm)

    k-field : (t tm a : ℕ) → Known (λ K. k_then K t tm) a → a ≤ length s → HeadOk s (left s (fields_of 7 a v rule elen r m t tm 0 0 1 0 0))
    unfolding row_at number_in put_field after
    k-field t tm a known there =
        field (fields_of 7 a v rule elen r m t tm 0 0 1 0 0) (omega arith)
        (λ n b q. n_field t tm n b (λ K. known K ∙ from-number s a 0 (min rows columns) n b (n_then K t tm) q) ((took s a 0 (min rows columns) n b q).behind there))
        (λ p q K. known K ∙ from-fault s a 0 (min rows columns) p (n_then K t tm) q)

    m-field : (t a : ℕ) → Known (λ K. number (span 0 rows) (k_then K t)) a → a ≤ length s → HeadOk s (left s (fields_of 6 a v rule elen r m t 0 0 0 1 0 0))
    unfolding row_at number_in put_field after
    m-field t a known there =
        field (fields_of 6 a v rule elen r m t 0 0 0 1 0 0) (omega arith)
        (λ n b q. k-field t n b (λ K. known K ∙ from-number s a 0 rows n b (k_then K t) q) ((took s a 0 rows n b q).behind there))
        (λ p q K. known K ∙ from-fault s a 0 rows p (k_then K t) q)

    mtype-field : (a : ℕ) → Known (λ K. tiles_part K v rule elen r m) a → a ≤ length s → HeadOk s (left s (fields_of 5 a v rule elen r m 0 0 0 0 1 0 0))
    unfolding row_at number_in put_field after mtype_at
    mtype-field a known there =
        field (fields_of 5 a v rule elen r m 0 0 0 0 1 0 0) (omega arith)
        (λ n b q. m-field n b (λ K. known K ∙ from-value (mtypes elen) s a n b (λ t. number (span 0 rows) (k_then K t)) q) ((took_in (mtypes elen) s a n b q).1 there))
        (λ p q K. known K ∙ from-stuck (mtypes elen) s a p (λ t. number (span 0 rows) (k_then K t)) q)

  module _ (v rule elen : ℕ) where
    abbrev mlen_then : (Header → ℕ → Format Described) → ℕ → Format Described
    mlen_then K r = number (span (least_mlen v elen r) (top_mlen v)) (tiles_part K v rule elen r)

    mlen-field : (r a : ℕ) → Known (λ K. mlen_then K r) a → a ≤ length s → HeadOk s (left s (fields_of 4 a v rule elen r 16 0 0 0 0 1 0 0))
    unfolding row_at number_in put_field after
    mlen-field r a known there =
        field (fields_of 4 a v rule elen r 16 0 0 0 0 1 0 0) (omega arith)
        (λ n b q.
        let w = took s a (least_mlen v elen r) (top_mlen v) n b q in
        mtype-field v rule elen r n (omega (arith, w.most, top-mlen v)) b (λ K. known K ∙ from-number s a (least_mlen v elen r) (top_mlen v) n b (tiles_part K v rule elen r) q) (w.behind there))
        (λ p q K. known K ∙ from-fault s a (least_mlen v elen r) (top_mlen v) p (tiles_part K v rule elen r) q)

    rlen-field : (a : ℕ) → Known (λ K. number (span (suc elen) (top_rlen v)) (mlen_then K)) a → a ≤ length s → HeadOk s (left s (fields_of 3 a v rule elen 6 16 0 0 0 0 1 0 0))
    unfolding row_at number_in put_field after
    rlen-field a known there =
        field (fields_of 3 a v rule elen 6 16 0 0 0 0 1 0 0) (omega arith)
        (λ n b q. mlen-field n b (λ K. known K ∙ from-number s a (suc elen) (top_rlen v) n b (mlen_then K) q) ((took s a (suc elen) (top_rlen v) n b q).behind there))
        (λ p q K. known K ∙ from-fault s a (suc elen) (top_rlen v) p (mlen_then K) q)

  -- the exponents, then the others
  abbrev rlen_then : (Header → ℕ → Format Described) → (v rule elen : ℕ) → Format Described
  rlen_then K v rule elen = number (span (suc elen) (top_rlen v)) (mlen_then v rule elen K)

  elen-field : (v rule a : ℕ) → Known (λ K. number (span 5 6) (rlen_then K v rule)) a → a ≤ length s → HeadOk s (left s (fields_of 2 a v rule 5 6 16 0 0 0 0 1 0 0))
  unfolding row_at number_in put_field after
  elen-field v rule a known there =
      field (fields_of 2 a v rule 5 6 16 0 0 0 0 1 0 0) (omega arith)
      (λ n b q. rlen-field v rule n b (λ K. known K ∙ from-number s a 5 6 n b (rlen_then K v rule) q) ((took s a 5 6 n b q).behind there))
      (λ p q K. known K ∙ from-fault s a 5 6 p (rlen_then K v rule) q)

  -- behind a version other than 1
  abbrev rule_then : (Header → ℕ → Format Described) → ℕ → Bool → Format Described
  rule_then K v two = cond two (number (span 1 1) λ rule. rlen_then K v rule 5) (number (span 0 1) λ rule. number (span 5 6) (rlen_then K v rule))

  rule-field : (v a : ℕ) → Known (λ K. rule_then K v (eqb v 2)) a → a ≤ length s → HeadOk s (left s (fields_of 1 a v 0 5 6 16 0 0 0 0 1 0 0))
  unfolding row_at number_in put_field after
  rule-field v a known there =
      field (fields_of 1 a v 0 5 6 16 0 0 0 0 1 0 0) (omega arith)
      (λ n b q. good (eqb v 2) known n b q)
      (λ p q K. bad (eqb v 2) known p q K)
    where
      good : (u : Bool) → Known (λ K. rule_then K v u) a → (n b : ℕ) → number_at s a (cond u 1 0) 1 ≡ Value n b → HeadOk s (left s (fields_of (cond u 3 2) b v n 5 6 16 0 0 0 0 1 0 0))
      good true known n b q = rlen-field v n 5 b (λ K. known K ∙ from-number s a 1 1 n b (λ rule. rlen_then K v rule 5) q) ((took s a 1 1 n b q).behind there)
      good false known n b q = elen-field v n b (λ K. known K ∙ from-number s a 0 1 n b (λ rule. number (span 5 6) (rlen_then K v rule)) q) ((took s a 0 1 n b q).behind there)

      bad : (u : Bool) → Known (λ K. rule_then K v u) a → (p : ℕ) → number_at s a (cond u 1 0) 1 ≡ Fault p → (K : Header → ℕ → Format Described) → from (head_format K) s 0 ≡ stopped p
      bad true known p q K = known K ∙ from-fault s a 1 1 p (λ rule. rlen_then K v rule 5) q
      bad false known p q K = known K ∙ from-fault s a 0 1 p (λ rule. number (span 5 6) (rlen_then K v rule)) q

  abbrev version_then : (Header → ℕ → Format Described) → ℕ → Format Described
  version_then K v = cond (eqb v 1) (rlen_then K v 0 5) (rule_then K v (eqb v 2))

  -- what is read is what the format has
  pub fields-right : HeadOk s (fields_in s)
  unfolding fields_in read_in row_at number_in put_field after
  fields-right =
      field first_field (omega arith)
      (λ n a q. good (eqb n 1) n a (λ K. from-number s 0 1 4 n a (version_then K) q) ((took s 0 1 4 n a q).behind (omega arith)))
      (λ p q K. from-fault s 0 1 4 p (version_then K) q)
    where
      good : (u : Bool) (v : ℕ) (a : ℕ) → Known (λ K. cond u (rlen_then K v 0 5) (rule_then K v (eqb v 2))) a → a ≤ length s → HeadOk s (left s (fields_of (cond u 3 1) a v 0 5 6 16 0 0 0 0 1 0 0))
      good true v a known there = rlen-field v 0 5 a known there
      good false v a known there = rule-field v a known there

  module _ (t : Fields) (is : t ≡ fields_in s) where
    fields-are : HeadOk s t
    fields-are = subst (HeadOk s) (sym is) fields-right

    -- whatever follows the header
    pub head-stops : ¬ (t.next ≡ 12) → (K : Header → ℕ → Format Described) → from (head_format K) s 0 ≡ stopped t.at
    head-stops d = fields-are.1 d

    pub head-bad : ¬ (t.next ≡ 12) → parse image_format s ≡ stopped t.at
    head-bad d = parts s ∙ head-stops d body_part

    pub head-known : t.next ≡ 12 → HeadedOk s (machine_of t) t.seals t.seals_at t.runs t.at
    head-known e = fields-are.0 e
