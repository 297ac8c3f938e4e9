-- Sums and products of whole numbers within 2^24 are not rounded.
use Rattle.numbers.proofs.Kit.{◌≡◌, refl, sym, ap, ap₂, ◌∙◌, subst, Bool, true, false, ◌&&◌, cond, ℕ, zero, suc, ◌+◌, ◌-◌, ◌*◌, ◌^◌, ◌≤◌, ◌<◌, zero-le}
use Rattle.numbers.proofs.Kit.{mul-one, mul_comm, mul_assoc, mul-pos, mul-mul-mul_comm, zero-mul, mul-zero, lt_irrefl, zero-lt-suc, le_refl, mul-sub}
use Rattle.numbers.proofs.Kit.{mul-lt-mul_of_pos_right, mul-le-mul_right, arith, T, ltb, ℤ, pos, negsuc, neg_ℤ, nat_abs, sub_ℕ, ◌+ℤ◌, ◌*ℤ◌, zero-*ℤ}
use Rattle.numbers.proofs.Kit.{pos-ne-negsuc, ltb-true, ltb-false, lt-ltb, le-ltb}
use lib.Ieee.{Float, nan, inf, fin, Format, binary32, prec, up, down, unlike, round, sum, add, mul, of_int}
use lib.Ieee.Exact.{HasValue}
use lib.Ieee.Back.{round_whole}
use lib.Ieee.Scale.{round_same}
use lib.Ieee.Fits.{up_pos, down_pos, of_int-fits}
use lib.Ieee.Positive.{first_pos}
use Rattle.numbers.specs.Reduce.{sumℤ}
use Rattle.numbers.specs.Binary32.{value_of, settled, multiply_add, float_sum, plus_zero}
use Rattle.numbers.proofs.Binary32Laws.{value-stored}
use Rattle.theorem_exact.specs.Exact.{signed_by, Is, WholeNumbers, Exactly}

-- ---- signs and magnitudes

abs-signed : (s : Bool) (n : ℕ) → nat_abs (signed_by s n) ≡ n
abs-signed false n = refl
abs-signed true zero = refl
abs-signed true (suc n) = refl

signed_mul : (s t : Bool) (a b : ℕ) → signed_by s a *ℤ signed_by t b ≡ signed_by (unlike s t) (a * b)
signed_mul false false a b = refl
signed_mul false true a zero = rw mul-zero
signed_mul false true a (suc b) = refl
signed_mul true false zero b = rw zero-mul
signed_mul true false (suc a) b = refl
signed_mul true true zero b = zero-*ℤ (neg_ℤ (pos b)) ∙ ap pos (sym (zero-mul b))
signed_mul true true (suc a) zero = rw mul-zero
signed_mul true true (suc a) (suc b) = refl

times-pos : (s : Bool) (n d : ℕ) → signed_by s n *ℤ pos d ≡ signed_by s (n * d)
times-pos false n d = refl
times-pos true zero d = rw zero-mul
times-pos true (suc n) d = refl

-- ---- `Is`, as a sign and a magnitude

pub record Parts (s : Bool) (x d : ℕ) (z : ℤ) : Type 0 where
  pub size : ℕ
  pub is : signed_by s size ≡ z
  pub has : x ≡ size * d

zero_of : (n d : ℕ) → zero < d → n * d ≡ zero → n ≡ zero
zero_of zero d p h = refl
zero_of (suc n) d p h = absurd (lt_irrefl zero (subst (λ (k : ℕ). zero < k) h (mul-pos (zero-lt-suc n) p)))

pub parts : (s : Bool) (x d : ℕ) (z : ℤ) → zero < d → signed_by s x ≡ z *ℤ pos d → Parts s x d z
parts false x d (pos n) p h = record { size = n; is = refl; has = cc }
parts true zero d (pos n) p h =
    let e : n ≡ zero = zero_of n d p (cc) in
    record { size = zero; is = ap pos (sym e); has = sym (zero-mul d) }
parts true (suc x) d (pos n) p h = absurd (pos-ne-negsuc (n * d) x (sym h))
parts s x d (negsuc k) p h = go s x (suc k * d) (mul-pos (zero-lt-suc k) p) refl h
  where
    go : (s : Bool) (x y : ℕ) → zero < y → suc k * d ≡ y → signed_by s x ≡ neg_ℤ (pos y) → Parts s x d (negsuc k)
    go s x zero q e h = absurd (lt_irrefl zero q)
    go false x (suc y) q e h = absurd (pos-ne-negsuc x y h)
    go true zero (suc y) q e h = absurd (pos-ne-negsuc zero y h)
    go true (suc x) (suc y) q e h =
        let g : x ≡ y = cc in
        record { size = suc k; is = refl; has = ap suc g ∙ sym e }

-- ---- from a value of the library's

-- finite, and not -0
unfoldable pub NotMinusZero : Float → Type 0
NotMinusZero nan = ⊥
NotMinusZero (inf s) = ⊥
NotMinusZero (fin s m e) = T s → zero < m

has-is : (x : Float) (s : Bool) (n : ℕ) → HasValue x s n 1 → Is x (signed_by s n)
has-is nan s n h = absurd h
has-is (inf t) s n h = absurd h
has-is (fin t m e) s n h = ap₂ signed_by h.0 (sym (mul-one (m * up e)) ∙ h.1) ∙ sym (times-pos s n (down e))

-- not -0, where the magnitude is not 0
has-sign : (x : Float) (s : Bool) (n : ℕ) → HasValue x s n 1 → (T s → zero < n) → NotMinusZero x
unfolding NotMinusZero
has-sign nan s n h p = h
has-sign (inf t) s n h p = h
has-sign (fin t m e) s n h p = λ u.
    first_pos m (up e) (first_pos (m * up e) 1 (subst (λ (k : ℕ). zero < k) (sym h.1) (mul-pos (p (subst T h.0 u)) (down_pos e))))

-- ---- an integer as a float

module _ (f : Format) where
  pub of_int_is : (z : ℤ) → nat_abs z ≤ 2 ^ prec f → Is (of_int f z) z
  unfolding of_int
  of_int_is (pos n) h = has-is (round f false n 1) false n (round_whole f false n h)
  of_int_is (negsuc n) h = has-is (round f true (suc n) 1) true (suc n) (round_whole f true (suc n) h)

  of_int-sign : (z : ℤ) → nat_abs z ≤ 2 ^ prec f → NotMinusZero (of_int f z)
  unfolding of_int
  of_int-sign (pos n) h = has-sign (round f false n 1) false n (round_whole f false n h) (λ t. absurd t)
  of_int-sign (negsuc n) h = has-sign (round f true (suc n) 1) true (suc n) (round_whole f true (suc n) h) (λ t. zero-lt-suc n)

  -- ---- the product

  pub mul-whole : (x y : Float) (z w : ℤ) → Is x z → Is y w → nat_abs (z *ℤ w) ≤ 2 ^ prec f → Is (mul f x y) (z *ℤ w)
  unfolding mul
  mul-whole nan y z w p q h = absurd p
  mul-whole (inf s) y z w p q h = absurd p
  mul-whole (fin s m e) nan z w p q h = absurd q
  mul-whole (fin s m e) (inf t) z w p q h = absurd q
  mul-whole (fin s m e) (fin t n d) z w p q h =
      let a = parts s (m * up e) (down e) z (down_pos e) p in
      let b = parts t (n * up d) (down d) w (down_pos d) q in
      let i = a.size in
      let j = b.size in
      let u : signed_by (unlike s t) (i * j) ≡ z *ℤ w = sym (signed_mul s t i j) ∙ ap₂ ◌*ℤ◌ a.is b.is in
      let l : i * j ≤ 2 ^ prec f = subst (λ (k : ℕ). k ≤ 2 ^ prec f) (ap nat_abs (sym u) ∙ abs-signed (unlike s t) (i * j)) h in
      let r : round f (unlike s t) (m * up e * (n * up d)) (down e * down d) ≡ round f (unlike s t) (i * j) 1 =
      round_same f (unlike s t) (m * up e * (n * up d)) (down e * down d) (i * j) 1 (mul-pos (down_pos e) (down_pos d)) (zero-lt-suc 0)
      (mul-one (m * up e * (n * up d)) ∙ ap₂ ◌*◌ a.has b.has ∙ mul-mul-mul_comm i (down e) j (down d)) in
      subst (λ (v : Float). Is v (z *ℤ w)) (sym r)
      (subst (λ (k : ℤ). Is (round f (unlike s t) (i * j) 1) k) u
      (has-is (round f (unlike s t) (i * j) 1) (unlike s t) (i * j) (round_whole f (unlike s t) (i * j) l)))

  -- ---- the sum of two whole numbers is their sum's float, unless both are -0

  sub_is : (a b : ℕ) → pos a +ℤ neg_ℤ (pos b) ≡ sub_ℕ a b
  sub_is a zero = rw (le-ltb a zero zero-le) (ap pos (omega arith))
  sub_is a (suc b) = refl

  unlike-sum : (a b : ℕ) → cond (ltb a b) (round f true (b - a) 1) (round f false (a - b) 1) ≡ of_int f (sub_ℕ a b)
  unfolding of_int
  unlike-sum a b = go (ltb a b) refl
    where
      go : (t : Bool) → ltb a b ≡ t → cond t (round f true (b - a) 1) (round f false (a - b) 1) ≡ of_int f (cond t (negsuc (b - suc a)) (pos (a - b)))
      go true e =
          let h : a < b = ltb-true a b e in
          ap (λ (k : ℕ). round f true k 1) (omega arith)
      go false e = refl

  unlike-sum' : (a b : ℕ) → cond (ltb a b) (round f false (b - a) 1) (round f (ltb b a) (a - b) 1) ≡ of_int f (sub_ℕ b a)
  unfolding of_int
  unlike-sum' a b = go (ltb a b) (ltb b a) refl refl
    where
      go : (t u : Bool) → ltb a b ≡ t → ltb b a ≡ u
          → cond t (round f false (b - a) 1) (round f u (a - b) 1) ≡ of_int f (cond u (negsuc (a - suc b)) (pos (b - a)))
      go true true d e =
          let h : a < b = ltb-true a b d in
          let k : b < a = ltb-true b a e in
          absurd (omega arith)
      go true false d e = refl
      go false true d e =
          let k : b < a = ltb-true b a e in
          ap (λ (k : ℕ). round f true k 1) (omega arith)
      go false false d e =
          let h : b ≤ a = ltb-false a b d in
          let k : a ≤ b = ltb-false b a e in
          ap (λ (k : ℕ). round f false k 1) (omega arith)

  sum-ints : (s : Bool) (a : ℕ) (t : Bool) (b : ℕ) → (T s → zero < a) → sum f s a t b 1 ≡ of_int f (signed_by s a +ℤ signed_by t b)
  unfolding sum of_int
  sum-ints false a false b h = refl
  sum-ints false a true b h = unlike-sum a b ∙ ap (of_int f) (sym (sub_is a b))
  sum-ints true zero t b h = absurd (lt_irrefl zero (h tt))
  sum-ints true (suc a) false b h = unlike-sum' (suc a) b
  sum-ints true (suc a) true zero h = rw (lt-ltb zero (suc a) (zero-lt-suc a)) (ap (λ (k : ℕ). round f true k 1) (omega arith))
  sum-ints true (suc a) true (suc b) h = ap (λ (k : ℕ). round f true k 1) (omega arith)

  -- ---- over a common denominator

  ltb-scale : (a b c : ℕ) → zero < c → ltb (a * c) (b * c) ≡ ltb a b
  ltb-scale a b c p = go (ltb a b) refl
    where
      go : (t : Bool) → ltb a b ≡ t → ltb (a * c) (b * c) ≡ t
      go true e = lt-ltb (a * c) (b * c) (mul-lt-mul_of_pos_right (ltb-true a b e) p)
      go false e = le-ltb (a * c) (b * c) (mul-le-mul_right c (ltb-false a b e))

  less-scale : (a b c : ℕ) → (a * c - b * c) * 1 ≡ (a - b) * c
  less-scale a b c = mul-one (a * c - b * c) ∙ ap₂ ◌-◌ (mul_comm a c) (mul_comm b c) ∙ sym (mul-sub c a b) ∙ mul_comm c (a - b)

  sum-scale : (s : Bool) (a : ℕ) (t : Bool) (b c : ℕ) → zero < c → sum f s (a * c) t (b * c) c ≡ sum f s a t b 1
  unfolding sum
  sum-scale s a t b c p =
      rw (
        ltb-scale a b c p,
        ltb-scale b a c p,
        round_same f s (a * c + b * c) c (a + b) 1 p (zero-lt-suc 0) (omega arith),
        round_same f t (b * c - a * c) c (b - a) 1 p (zero-lt-suc 0) (less-scale b a c),
        round_same f (s && ltb b a) (a * c - b * c) c (a - b) 1 p (zero-lt-suc 0) (less-scale a b c),
      )

  pub add-whole : (x y : Float) (z w : ℤ) → Is x z → Is y w → NotMinusZero x → add f x y ≡ of_int f (z +ℤ w)
  unfolding add NotMinusZero
  add-whole nan y z w p q h = absurd p
  add-whole (inf s) y z w p q h = absurd p
  add-whole (fin s m e) nan z w p q h = absurd q
  add-whole (fin s m e) (inf t) z w p q h = absurd q
  add-whole (fin s m e) (fin t n d) z w p q h =
      let a = parts s (m * up e) (down e) z (down_pos e) p in
      let b = parts t (n * up d) (down d) w (down_pos d) q in
      let i = a.size in
      let j = b.size in
      let c = down e * down d in
      let g : T s → zero < i = λ t. first_pos i (down e) (subst (λ (k : ℕ). zero < k) a.has (mul-pos (h t) (up_pos e))) in
      ap₂ (λ (v u : ℕ). sum f s v t u c)
      (ap (λ (k : ℕ). k * down d) a.has ∙ mul_assoc i (down e) (down d))
      (ap (λ (k : ℕ). k * down e) b.has ∙ mul_assoc j (down d) (down e) ∙ ap (λ (k : ℕ). j * k) (mul_comm (down d) (down e)))
      ∙ sum-scale s i t j c (mul-pos (down_pos e) (down_pos d))
      ∙ sum-ints s i t j g
      ∙ ap₂ (λ (v u : ℤ). of_int f (v +ℤ u)) a.is b.is

-- ---- the sum of products from +0

module _ (k : ℕ) (a b : ℕ → ℕ) (x y : ℕ → ℤ) (w : WholeNumbers k a b x y) where
  abbrev sum_to : ℕ → ℤ
  sum_to s = sumℤ s (λ l. x l *ℤ y l)

  up_to : (s : ℕ) → s ≤ k → float_sum plus_zero s (λ l. value_of (a l)) (λ l. value_of (b l)) ≡ of_int binary32 (sum_to s)
  unfolding float_sum multiply_add
  up_to zero h = unfold of_int in refl
  up_to (suc s) h =
      let g : s ≤ k = omega arith in
      ap (λ (v : Float). multiply_add v (value_of (a s)) (value_of (b s))) (up_to s g)
      ∙ add-whole binary32 (of_int binary32 (sum_to s)) (mul binary32 (value_of (a s)) (value_of (b s))) (sum_to s) (x s *ℤ y s) (of_int_is binary32 (sum_to s) (w.sums s g))
      (mul-whole binary32 (value_of (a s)) (value_of (b s)) (x s) (y s) (w.a-whole s h) (w.b-whole s h) (w.products s h))
      (of_int-sign binary32 (sum_to s) (w.sums s g))

  -- the float of the whole-number sum, zero as +0
  pub whole-exact : Exactly (settled (float_sum plus_zero k (λ l. value_of (a l)) (λ l. value_of (b l)))) (sum_to k)
  whole-exact =
      let e : settled (float_sum plus_zero k (λ l. value_of (a l)) (λ l. value_of (b l))) ≡ settled (of_int binary32 (sum_to k)) = ap settled (up_to k (le_refl k)) in
      let v : value_of (settled (of_int binary32 (sum_to k))) ≡ of_int binary32 (sum_to k) = value-stored (of_int binary32 (sum_to k)) (of_int-fits binary32 (sum_to k)) in
      record {
        value-is = subst (λ (u : Float). Is u (sum_to k)) (sym (ap value_of e ∙ v)) (of_int_is binary32 (sum_to k) (w.sums k (le_refl k)));
        bits_are = e;
      }
