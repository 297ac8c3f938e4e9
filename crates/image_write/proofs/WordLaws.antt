-- Eight marks as one number: its zeros from the lowest digit on count the marks of one value.
use Rattle.numbers.proofs.Kit.{◌≡◌, refl, sym, ap, ◌∙◌, subst, ◌⊎◌, inl, inr, List, ℕ, zero, suc, ◌+◌, ◌-◌, ◌*◌, ◌/◌, ◌%◌, ◌^◌, ◌≤◌, ◌<◌, arith, length, get_or, pow-suc, zero-add}
use Rattle.numbers.proofs.BlockLaws.{le-or-lt}
use lib.Count.{under, count_trailing_zeros}
use Rattle.numbers.specs.Tile.{get_le}
use Rattle.image_write.specs.Parts.{TwoValued, Stretch, from_bytes, differs}
use Rattle.image_write.proofs.StretchLaws.{AllSame}

-- ---- zeros of a number

-- an even number has one zero more than its half, an odd one has none
even : (k m : ℕ) → count_trailing_zeros (suc k) (2 * m) ≡ suc (count_trailing_zeros k m)
unfolding count_trailing_zeros
even k m =
    let low : 2 * m % 2 ≡ 0 = omega arith in
    let rest : 2 * m / 2 ≡ m = omega arith in
    ap (λ (d : ℕ). under d (count_trailing_zeros k (2 * m / 2))) low ∙ ap (λ (n : ℕ). suc (count_trailing_zeros k n)) rest

odd : (k m : ℕ) → m % 2 ≡ 1 → count_trailing_zeros (suc k) m ≡ 0
unfolding count_trailing_zeros
odd k m e = ap (λ (d : ℕ). under d (count_trailing_zeros k (m / 2))) e

-- a byte of zeros
zero-byte : (k m : ℕ) → count_trailing_zeros (suc (suc (suc (suc (suc (suc (suc (suc k)))))))) (256 * m) ≡ 8 + count_trailing_zeros k m
zero-byte k m =
    let a = even k m in
    let b = even (suc k) (2 * m) in
    let d = even (suc (suc k)) (2 * (2 * m)) in
    let e = even (suc (suc (suc k))) (2 * (2 * (2 * m))) in
    let f = even (suc (suc (suc (suc k)))) (2 * (2 * (2 * (2 * m)))) in
    let g = even (suc (suc (suc (suc (suc k))))) (2 * (2 * (2 * (2 * (2 * m))))) in
    let h = even (suc (suc (suc (suc (suc (suc k)))))) (2 * (2 * (2 * (2 * (2 * (2 * m)))))) in
    let i = even (suc (suc (suc (suc (suc (suc (suc k))))))) (2 * (2 * (2 * (2 * (2 * (2 * (2 * m))))))) in
    ap (count_trailing_zeros (suc (suc (suc (suc (suc (suc (suc (suc k))))))))) whole ∙ omega (arith, a, b, d, e, f, g, h, i)
  where
    whole : 256 * m ≡ 2 * (2 * (2 * (2 * (2 * (2 * (2 * (2 * m)))))))
    whole = omega arith

-- ---- bytes of 0 and 1

-- how many of n bytes are 0, up to the first other one
unfoldable lead : ℕ → (ℕ → ℕ) → ℕ
lead zero f = 0
lead (suc n) f = under (f 0) (lead n (λ i. f (suc i)))

-- they are 0
lead_zero : (n : ℕ) (f : ℕ → ℕ) (q : ℕ) → q < lead n f → f q ≡ 0
unfolding lead
lead_zero zero f q h = absurd (omega arith)
lead_zero (suc n) f zero h = go (f 0) refl h
  where
    go : (b : ℕ) → f 0 ≡ b → 0 < under b (lead n (λ i. f (suc i))) → f 0 ≡ 0
    go zero e k = e
    go (suc b) e k = absurd (omega arith)
lead_zero (suc n) f (suc q) h = go (f 0) (lead_zero n (λ i. f (suc i)) q) h
  where
    go : (b : ℕ) → (q < lead n (λ i. f (suc i)) → f (suc q) ≡ 0) → suc q < under b (lead n (λ i. f (suc i))) → f (suc q) ≡ 0
    go zero rest k = rest (omega arith)
    go (suc b) rest k = absurd (omega arith)

-- and the next one is not
lead-other : (n : ℕ) (f : ℕ → ℕ) → lead n f < n → ¬ (f (lead n f) ≡ 0)
unfolding lead
lead-other zero f h = absurd (omega arith)
lead-other (suc n) f h = go (f 0) refl (lead-other n (λ i. f (suc i))) h
  where
    go : (b : ℕ) → f 0 ≡ b → (lead n (λ i. f (suc i)) < n → ¬ (f (suc (lead n (λ i. f (suc i)))) ≡ 0))
        → under b (lead n (λ i. f (suc i))) < suc n → ¬ (f (under b (lead n (λ i. f (suc i)))) ≡ 0)
    go zero e rest k = rest (omega arith)
    go (suc b) e rest k = λ z. absurd (omega (arith, e, z))

-- a number is 0 exactly if its bytes are
bytes-zero : (n : ℕ) (f : ℕ → ℕ) → ((q : ℕ) → q < n → f q ≡ 0) → from_bytes n f ≡ 0
unfolding from_bytes
bytes-zero zero f h = refl
bytes-zero (suc n) f h = let ih = bytes-zero n (λ i. f (suc i)) (λ q k. h (suc q) (omega arith)) in omega (arith, ih, h 0 (omega arith))

zero-bytes : (n : ℕ) (f : ℕ → ℕ) → from_bytes n f ≡ 0 → (q : ℕ) → q < n → f q ≡ 0
unfolding from_bytes
zero-bytes zero f h q k = absurd (omega arith)
zero-bytes (suc n) f h zero k = omega arith
zero-bytes (suc n) f h (suc q) k = zero-bytes n (λ i. f (suc i)) (omega arith) q (omega arith)

-- one byte more, of 0 or of 1
more-zeros : (n b rest t : ℕ) → b < 2 → count_trailing_zeros (8 * n) rest ≡ 8 * t → count_trailing_zeros (8 * suc n) (b + 256 * rest) ≡ 8 * under b t
more-zeros n b rest t h e = ap (λ (k : ℕ). count_trailing_zeros k (b + 256 * rest)) longer ∙ go b h
  where
    longer : 8 * suc n ≡ suc (suc (suc (suc (suc (suc (suc (suc (8 * n))))))))
    longer = omega arith

    go : (x : ℕ) → x < 2 → count_trailing_zeros (suc (suc (suc (suc (suc (suc (suc (suc (8 * n))))))))) (x + 256 * rest) ≡ 8 * under x t
    go zero k = ap (count_trailing_zeros (suc (suc (suc (suc (suc (suc (suc (suc (8 * n)))))))))) (zero-add (256 * rest)) ∙ zero-byte (8 * n) rest ∙ omega (arith, e)
    go (suc zero) k = odd (suc (suc (suc (suc (suc (suc (suc (8 * n)))))))) (1 + 256 * rest) (omega arith)
    go (suc (suc x)) k = absurd (omega arith)

counted : (n : ℕ) (f : ℕ → ℕ) → ((i : ℕ) → f i < 2) → count_trailing_zeros (8 * n) (from_bytes n f) ≡ 8 * lead n f
unfolding count_trailing_zeros from_bytes lead
counted zero f two = refl
counted (suc n) f two =
    more-zeros n (f 0) (from_bytes n (λ i. f (suc i))) (lead n (λ i. f (suc i))) (two 0) (counted n (λ i. f (suc i)) (λ i. two (suc i)))

-- so they name the first byte that is not 0
first-other : (f : ℕ → ℕ) → ((i : ℕ) → f i < 2) → (n : ℕ) → n ≡ count_trailing_zeros 64 (from_bytes 8 f) / 8 → ¬ (from_bytes 8 f ≡ 0)
    → (n < 8) × ((q : ℕ) → q < n → f q ≡ 0) × ¬ (f n ≡ 0)
first-other f two n e some =
    let exact : count_trailing_zeros 64 (from_bytes 8 f) ≡ 8 * lead 8 f = counted 8 f two in
    let same : n ≡ lead 8 f = omega (arith, e, exact) in
    let less : lead 8 f < 8 = go (le-or-lt 8 (lead 8 f)) in
    (omega (arith, same, less), λ q k. lead_zero 8 f q (omega (arith, same, k)), λ z. lead-other 8 f less (ap f (sym same) ∙ z))
  where
    go : (8 ≤ lead 8 f) ⊎ (lead 8 f < 8) → lead 8 f < 8
    go (inl k) = absurd (some (bytes-zero 8 f (λ q l. lead_zero 8 f q (omega arith))))
    go (inr k) = k

-- ---- eight marks

-- the bytes from a place on
from-top : (n : ℕ) (f : ℕ → ℕ) → from_bytes (suc n) f ≡ from_bytes n f + f n * 256 ^ n
unfolding from_bytes
from-top zero f = omega arith
from-top (suc n) f = let ih = from-top n (λ i. f (suc i)) in omega (arith, ih, ap (λ (p : ℕ). f (suc n) * p) (pow-suc 256 n))

pub bytes-there : (xs : List ℕ) (p n : ℕ) → get_le xs p n ≡ from_bytes n (λ i. get_or xs (p + i) 0)
unfolding from_bytes
bytes-there xs p zero = refl
bytes-there xs p (suc n) = ap (λ (x : ℕ). x + get_or xs (p + n) 0 * 256 ^ n) (bytes-there xs p n) ∙ sym (from-top n (λ i. get_or xs (p + i) 0))

-- with each byte, of 0 or 1, turned into the other
turned : (n : ℕ) (f : ℕ → ℕ) → ((i : ℕ) → f i < 2) → from_bytes n (λ i. 1 - f i) + from_bytes n f ≡ from_bytes n (λ i. 1)
unfolding from_bytes
turned zero f two = refl
turned (suc n) f two = let ih = turned n (λ i. f (suc i)) (λ i. two (suc i)) in omega (arith, ih, two 0)

ones : from_bytes 8 (λ i. 1) ≡ 72340172838076673
unfolding from_bytes
ones = refl

pub turned_ones : (ms : List ℕ) → TwoValued ms → (at : ℕ) → from_bytes 8 (λ i. 1 - get_or ms (at + i) 0) + get_le ms at 8 ≡ 72340172838076673
turned_ones ms two at = ap (λ (x : ℕ). from_bytes 8 (λ i. 1 - get_or ms (at + i) 0) + x) (bytes-there ms at 8) ∙ turned 8 (λ i. get_or ms (at + i) 0) (λ i. two (at + i)) ∙ ones

-- what differs from a value of 0, and from one of 1
pub of_zero : (ms : List ℕ) (at value : ℕ) → value ≡ 0 → from_bytes 8 (λ i. get_or ms (at + i) 0) ≡ from_bytes 8 (λ i. differs value (get_or ms (at + i) 0))
unfolding differs
of_zero ms at value e = ap (λ (v : ℕ). from_bytes 8 (λ i. differs v (get_or ms (at + i) 0))) (sym e)

pub of_one : (ms : List ℕ) (at value : ℕ) → ¬ (value ≡ 0) → from_bytes 8 (λ i. 1 - get_or ms (at + i) 0) ≡ from_bytes 8 (λ i. differs value (get_or ms (at + i) 0))
unfolding differs
of_one ms at zero n = absurd (n refl)
of_one ms at (suc value) n = refl

differs-two : (value x : ℕ) → x < 2 → differs value x < 2
unfolding differs
differs-two zero x h = h
differs-two (suc value) x h = omega arith

differs-zero : (value x : ℕ) → value < 2 → x < 2 → differs value x ≡ 0 → x ≡ value
unfolding differs
differs-zero zero x v h e = e
differs-zero (suc value) x v h e = omega arith

zero-differs : (value x : ℕ) → value < 2 → x ≡ value → differs value x ≡ 0
unfolding differs
zero-differs zero x v e = e
zero-differs (suc value) x v e = omega arith

module _ (ms : List ℕ) (two : TwoValued ms) (at value : ℕ) (small : value < 2) where
  -- all have the value
  pub word_none : from_bytes 8 (λ i. differs value (get_or ms (at + i) 0)) ≡ 0 → AllSame ms at (at + 8) value
  word_none e q k l =
      let there : at + (q - at) ≡ q = omega arith in
      subst (λ (x : ℕ). get_or ms x 0 ≡ value) there
      (differs-zero value (get_or ms (at + (q - at)) 0) small (two (at + (q - at))) (zero-bytes 8 (λ i. differs value (get_or ms (at + i) 0)) e (q - at) (omega arith)))

  -- or the first that has not is found
  pub word_some : (n : ℕ) → at + 8 ≤ length ms → n ≡ count_trailing_zeros 64 (from_bytes 8 (λ i. differs value (get_or ms (at + i) 0))) / 8
      → ¬ (from_bytes 8 (λ i. differs value (get_or ms (at + i) 0)) ≡ 0) → (n < 8) × Stretch ms at (at + 8) value (at + n)
  word_some n room e some =
      let found = first-other (λ i. differs value (get_or ms (at + i) 0)) (λ i. differs-two value (get_or ms (at + i) 0) (two (at + i))) n e some in (
        found.0,
        record {
          to = record {
            from-there = omega arith;
            in-marks = omega (arith, found.0, room);
            all_same = λ q k l.
                let there : at + (q - at) ≡ q = omega arith in
                subst (λ (x : ℕ). get_or ms x 0 ≡ value) there
                (differs-zero value (get_or ms (at + (q - at)) 0) small (two (at + (q - at))) (found.1 (q - at) (omega arith)));
          };
          within = omega (arith, found.0);
          other = λ k same. found.2 (zero-differs value (get_or ms (at + n) 0) small same);
        },
      )
