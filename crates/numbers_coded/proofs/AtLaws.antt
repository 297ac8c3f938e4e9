-- Reading a number group by group.
use mathlib.Core.Path.{◌≡◌, refl, sym, ap, ap₂, ◌∙◌, subst}
use mathlib.Core.List.{List}
use mathlib.Core.Logic.{inl}
use Prim.Native.Nat.{ℕ, suc, ◌+◌, ◌-◌, ◌*◌, ◌/◌, ◌≤◌, ◌<◌, max}
use native.Mathlib.Nat.{mul-le-mul_left}
use native.Mathlib.Omega.{arith}
use native.Mathlib.Numerals.{add-one}
use lib.ListN.{length, drop, get_or, drop_of_length-le}
use lib.Seq.{drop-cons}
use borrow.Author.Tests.{lt-ltb, le-ltb, le-leb, lt-leb}
use Rattle.numbers_format.specs.Numbers.{span}
use Rattle.numbers_format.specs.Parser.{Got, read_number, is_among, nonempty, afters, grow}
use Rattle.numbers_format.specs.Parser.Got.{value, fault}
use Rattle.numbers_format.proofs.NumberLaws.{reads_more}
use Rattle.numbers_coded.specs.At.{Number, found, number_at, found_after, rest}
use Rattle.numbers_coded.specs.At.Number.{Value, Fault}

found_first : (at : ℕ) (g : Got) → found at g ≡ found_after 0 1 at g
found_first at (value n k) = ap (λ (x : ℕ). Value x (at + k)) (omega arith)
found_first at (fault p) = refl

found-grow : (v u i g : ℕ) (r : Got) → found_after v u i (grow g r) ≡ found_after (v + g * u) (u * 128) (i + 1) r
found-grow v u i g (value n k) = ap₂ Value (omega arith) (omega arith)
found-grow v u i g (fault p) = ap Fault (omega arith)

pub rest-first : (s : List ℕ) (at low high : ℕ) → rest s at 0 1 low high ≡ number_at s at low high
unfolding rest number_at
rest-first s at low high = sym (found_first at (read_number (span low high) (drop at s)))

module _ (s : List ℕ) (i v u lo hi : ℕ) where
  pub rest_end : length s ≤ i → rest s i v u lo hi ≡ Fault i
  unfolding rest read_number
  rest_end h = rw (drop_of_length-le s h) (ap Fault (omega arith))

  module _ (h : i < length s) where
    pub rest-last : get_or s i 0 < 128 → lo ≤ get_or s i 0 → get_or s i 0 ≤ hi → rest s i v u lo hi ≡ Value (v + u * get_or s i 0) (i + 1)
    unfolding rest read_number is_among
    rest-last k a b = rw (drop-cons s i 0 h, lt-ltb _ _ k, le-leb _ _ a, le-leb _ _ b)

    pub rest-low : get_or s i 0 < 128 → get_or s i 0 < lo → rest s i v u lo hi ≡ Fault i
    unfolding rest read_number is_among
    rest-low k a = rw (drop-cons s i 0 h, lt-ltb _ _ k, lt-leb _ _ a) (ap Fault (omega arith))

    pub rest-high : get_or s i 0 < 128 → hi < get_or s i 0 → lo ≤ get_or s i 0 → rest s i v u lo hi ≡ Fault i
    unfolding rest read_number is_among
    rest-high k b a = rw (drop-cons s i 0 h, lt-ltb _ _ k, le-leb _ _ a, lt-leb _ _ b) (ap Fault (omega arith))

    pub rest-none : 128 ≤ get_or s i 0 → (hi - (get_or s i 0 - 128)) / 128 < max 1 ((lo + 127 - (get_or s i 0 - 128)) / 128) → rest s i v u lo hi ≡ Fault i
    unfolding rest read_number nonempty
    rest-none k a = rw (drop-cons s i 0 h, le-ltb _ _ k, lt-leb _ _ a) (ap Fault (omega arith))

    pub rest_more : 128 ≤ get_or s i 0 → max 1 ((lo + 127 - (get_or s i 0 - 128)) / 128) ≤ (hi - (get_or s i 0 - 128)) / 128
        → rest s i v u lo hi ≡ rest s (i + 1) (v + (get_or s i 0 - 128) * u) (u * 128) (max 1 ((lo + 127 - (get_or s i 0 - 128)) / 128)) ((hi - (get_or s i 0 - 128)) / 128)
    unfolding rest read_number nonempty
    rest_more k a =
        let g : ℕ = get_or s i 0 - 128 in
        ap (λ (l : List ℕ). found_after v u i (read_number (span lo hi) l)) (drop-cons s i 0 h)
        ∙ ap (found_after v u i) (reads_more (span lo hi) (get_or s i 0) (drop (suc i) s) ((hi - g) / 128) k (inl (a, omega arith)))
        ∙ found-grow v u i g (read_number (afters g (span lo hi)) (drop (suc i) s))
        ∙ ap (λ (x : ℕ). found_after (v + g * u) (u * 128) (i + 1) (read_number (afters g (span lo hi)) (drop x s))) (sym (add-one i))

-- ---- one turn of the code's loop, as its proof asks for it: b is the byte read, N what the whole finds
module _ (s : List ℕ) (i v u lo hi b : ℕ) (N : Number) (inv : rest s i v u lo hi ≡ N) (h : i < length s) (is : b ≡ get_or s i 0) where
  pub turn_low : b < 128 → b < lo → Fault i ≡ N
  turn_low k a = sym (rest-low s i v u lo hi h (omega arith) (omega arith)) ∙ inv

  pub turn-high : b < 128 → lo ≤ b → hi < b → Fault i ≡ N
  turn-high k a d = sym (rest-high s i v u lo hi h (omega arith) (omega arith) (omega arith)) ∙ inv

  pub turn_last : b < 128 → lo ≤ b → b ≤ hi → Value (v + u * b) (i + 1) ≡ N
  turn_last k a d = ap (λ (x : ℕ). Value (v + u * x) (i + 1)) is ∙ sym (rest-last s i v u lo hi h (omega arith) (omega arith) (omega arith)) ∙ inv

  module _ (k : 128 ≤ b) (lo' hi' : ℕ) (el : lo' ≡ max 1 ((lo + 127 - (b - 128)) / 128)) (eh : hi' ≡ (hi - (b - 128)) / 128) where
    pub turn-none : hi' < lo' → Fault i ≡ N
    turn-none a = sym (rest-none s i v u lo hi h (omega arith) (subst (λ (x : ℕ). (hi - (x - 128)) / 128 < max 1 ((lo + 127 - (x - 128)) / 128)) is (omega arith))) ∙ inv

    pub turn_more : lo' ≤ hi' → rest s (i + 1) (v + (b - 128) * u) (u * 128) lo' hi' ≡ N
    turn_more a =
        ap₂ (λ (x y : ℕ). rest s (i + 1) (v + (b - 128) * u) (u * 128) x y) el eh
        ∙ ap (λ (x : ℕ). rest s (i + 1) (v + (x - 128) * u) (u * 128) (max 1 ((lo + 127 - (x - 128)) / 128)) ((hi - (x - 128)) / 128)) is
        ∙ sym (rest_more s i v u lo hi h (omega arith) (subst (λ (x : ℕ). max 1 ((lo + 127 - (x - 128)) / 128) ≤ (hi - (x - 128)) / 128) is (omega arith)))
        ∙ inv

-- the bounds that the loop keeps
pub bound-more : (v u hi b hi' high : ℕ) → v + u * hi ≤ high → 128 ≤ b → hi' ≡ (hi - (b - 128)) / 128 → 0 < hi' → v + (b - 128) * u + u * 128 * hi' ≤ high
bound-more v u hi b hi' high h k e p =
    let w : u * ((b - 128) + 128 * hi') ≤ u * hi = mul-le-mul_left u (omega arith) in
    omega arith

-- ---- a number of one group
module _ (s : List ℕ) (at low high b : ℕ) (h : at < length s) (is : b ≡ get_or s at 0) (k : b < 128) where
  pub one-low : b < low → Fault at ≡ number_at s at low high
  one-low a = turn_low s at 0 1 low high b _ (rest-first s at low high) h is k a

  pub one-high : low ≤ b → high < b → Fault at ≡ number_at s at low high
  one-high a d = turn-high s at 0 1 low high b _ (rest-first s at low high) h is k a d

  pub one_last : low ≤ b → b ≤ high → Value b (at + 1) ≡ number_at s at low high
  one_last a d = ap (λ (x : ℕ). Value x (at + 1)) {x = b} {y = 0 + 1 * b} (omega arith) ∙ turn_last s at 0 1 low high b _ (rest-first s at low high) h is k a d

-- ---- a number of more
module _ (s : List ℕ) (at low high g lo hi : ℕ) (h : at < length s) (is : get_or s at 0 ≡ 128 + g) (el : lo ≡ max 1 ((low + 127 - g) / 128)) (eh : hi ≡ (high - g) / 128) where
  same : 128 + g - 128 ≡ g
  same = omega arith

  lo-is : lo ≡ max 1 ((low + 127 - (128 + g - 128)) / 128)
  lo-is = el ∙ ap (λ (x : ℕ). max 1 ((low + 127 - x) / 128)) (sym same)

  hi-is : hi ≡ (high - (128 + g - 128)) / 128
  hi-is = eh ∙ ap (λ (x : ℕ). (high - x) / 128) (sym same)

  pub long-none : hi < lo → Fault at ≡ number_at s at low high
  long-none a = turn-none s at 0 1 low high (128 + g) _ (rest-first s at low high) h (sym is) (omega arith) lo hi lo-is hi-is a

  pub long-more : lo ≤ hi → rest s (at + 1) g 128 lo hi ≡ number_at s at low high
  long-more a =
      ap (λ (x : ℕ). rest s (at + 1) x 128 lo hi) {x = g} {y = 0 + (128 + g - 128) * 1} (omega arith)
      ∙ turn_more s at 0 1 low high (128 + g) _ (rest-first s at low high) h (sym is) (omega arith) lo hi lo-is hi-is a

  -- what is left fits
  pub long-fits : 0 < lo → lo ≤ hi → g + 128 * hi ≤ high
  long-fits p a = omega arith

pub at-end : (s : List ℕ) (at low high : ℕ) → length s ≤ at → Fault at ≡ number_at s at low high
at-end s at low high h = sym (rest_end s at 0 1 low high h) ∙ rest-first s at low high
