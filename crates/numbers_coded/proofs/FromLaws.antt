-- A format from a place of the input on: the laws by which code follows the parser, number by number.
use Rattle.std.specs.Prelude.{Ok, Err}
use mathlib.Core.Path.{◌≡◌, refl, sym, ap, ap₂, ◌∙◌, subst}
use mathlib.Core.Bool.{Bool, true, false, cond}
use mathlib.Core.List.{List, [], ◌∷◌}
use mathlib.Core.Logic.{inl, inr}
use Prim.Native.Nat.{ℕ, ◌+◌, ◌-◌, ◌*◌, ◌≤◌, ◌<◌}
use native.Mathlib.Omega.{arith}
use lib.ListN.{length, take, drop, length-drop, drop_of_length-le}
use lib.Seq.{drop-drop, drop-cons}
use lib.Dec.{ltb}
use borrow.Author.Tests.{le-leb, lt-leb}
use Rattle.numbers_format.specs.Numbers.{Interval, span, Among}
use Rattle.numbers_format.specs.Formats.{Format}
use Rattle.numbers_format.specs.Formats.Format.{done, number, bytes}
use Rattle.numbers_format.specs.Parser.{is_among, nonempty, afters, Got, grow, read_number, Parsed, parse, later, from}
use Rattle.numbers_format.specs.Parser.Got.{value, fault}
use Rattle.numbers_format.specs.Parser.Parsed.{whole, stopped}
use Rattle.numbers_format.proofs.NumberLaws.{is_among-among}
use Rattle.numbers_coded.specs.declared.Coded.{Coded}
use Rattle.numbers_coded.specs.declared.Damage.{Damage}
use Rattle.numbers_coded.specs.At.{Number, plain, found, number_at}
use Rattle.numbers_coded.specs.At.Number.{Value, Fault}

-- ---- what the code has of it

pub good-is : (q : Number) {n : Coded} → Ok n ≡ plain q → q ≡ Value n.value n.at
good-is (Value n a) e = cc
good-is (Fault p) e = let z : ◌≡◌ {A = ℕ} 0 1 = cc in absurd (omega arith)

pub bad-is : (q : Number) {d : Damage} → Err d ≡ plain q → q ≡ Fault d.at
bad-is (Value n a) e = let z : ◌≡◌ {A = ℕ} 0 1 = cc in absurd (omega arith)
bad-is (Fault p) e = cc

-- ---- what a number that was read is known to be

abbrev Fine : List Interval → List ℕ → Got → Type 0
Fine rs s (value n k) = Among n rs × (k ≤ length s)
Fine rs s (fault p) = p ≤ length s

pub grow-in : (g n : ℕ) (rs : List Interval) → Among n (afters g rs) → Among (g + 128 * n) rs
grow-in g n [] h = absurd h
grow-in g n (r ∷ rs) (inl h) = inl (omega arith)
grow-in g n (r ∷ rs) (inr h) = inr (grow-in g n rs h)

fine-grow : (rs : List Interval) (b g : ℕ) (s : List ℕ) (r : Got) → Fine (afters g rs) s r → Fine rs (b ∷ s) (grow g r)
fine-grow rs b g s (value n k) h = (grow-in g n rs h.0, omega (arith, h.1))
fine-grow rs b g s (fault p) h = omega arith

fine : (rs : List Interval) (s : List ℕ) → Fine rs s (read_number rs s)
unfolding read_number
fine rs [] = omega arith
fine rs (b ∷ s) = go (ltb b 128) (is_among b rs) refl (nonempty (afters (b - 128) rs)) (fine (afters (b - 128) rs) s)
  where
    go : (c d : Bool) → is_among b rs ≡ d → (f : Bool) → Fine (afters (b - 128) rs) s (read_number (afters (b - 128) rs) s)
        → Fine rs (b ∷ s) (cond c (cond d (value b 1) (fault 0)) (cond f (grow (b - 128) (read_number (afters (b - 128) rs) s)) (fault 0)))
    go true true e f ih = (is_among-among b rs e, omega arith)
    go true false e f ih = omega arith
    go false d e true ih = fine-grow rs b (b - 128) s (read_number (afters (b - 128) rs) s) ih
    go false d e false ih = omega arith

found-value : (at : ℕ) (g : Got) (n a : ℕ) → found at g ≡ Value n a → (k : ℕ) × (g ≡ value n k) × (a ≡ at + k)
found-value at (value m k) n a e = (k, ap (λ (x : ℕ). value x k) (cc), (cc))
found-value at (fault p) n a e = let z : ◌≡◌ {A = ℕ} 0 1 = cc in absurd (omega arith)

found-fault : (at : ℕ) (g : Got) (p : ℕ) → found at g ≡ Fault p → (k : ℕ) × (g ≡ fault k) × (p ≡ at + k)
found-fault at (value m k) p e = let z : ◌≡◌ {A = ℕ} 0 1 = cc in absurd (omega arith)
found-fault at (fault k) p e = (k, refl, (cc))

-- a number that was read lies between its bounds, and the place behind it in the input
pub record Took (s : List ℕ) (at low high n a : ℕ) : Type 0 where
  pub least : low ≤ n
  pub most : n ≤ high
  pub behind : at ≤ length s → a ≤ length s

pub took_in : (rs : List Interval) (s : List ℕ) (at n a : ℕ) → found at (read_number rs (drop at s)) ≡ Value n a → Among n rs × (at ≤ length s → a ≤ length s)
took_in rs s at n a e =
    let w = found-value at (read_number rs (drop at s)) n a e in
    let f : Fine rs (drop at s) (value n w.0) = subst (Fine rs (drop at s)) w.1 (fine rs (drop at s)) in
    (f.0, λ h. omega (arith, f.1, w.2, length-drop at s))

pub took : (s : List ℕ) (at low high n a : ℕ) → number_at s at low high ≡ Value n a → Took s at low high n a
unfolding number_at
took s at low high n a e =
    let w = took_in (span low high) s at n a e in
    let i = in_one w.0 in
    record { least = i.0; most = i.1; behind = w.1 }
  where
    in_one : {x a b : ℕ} → Among x (span a b) → (a ≤ x) × (x ≤ b)
    in_one (inl h) = h
    in_one (inr h) = absurd h

-- ---- from a place on

module _ {X : Type 0} where
  later-later : (a b : ℕ) (q : Parsed X) → later a (later b q) ≡ later (a + b) q
  later-later a b (whole x) = refl
  later-later a b (stopped p) = ap stopped (omega arith)

  -- for any permitted numbers
  pub from-value : (rs : List Interval) (s : List ℕ) (at n a : ℕ) (k : ℕ → Format X) → found at (read_number rs (drop at s)) ≡ Value n a → from (number rs k) s at ≡ from (k n) s a
  unfolding from parse
  from-value rs s at n a k e =
      let w = found-value at (read_number rs (drop at s)) n a e in
      rw (w.1, parse) (later-later at w.0 (parse (k n) (drop w.0 (drop at s))) ∙ ap₂ (λ (x : ℕ) (l : List ℕ). later x (parse (k n) l)) (sym w.2) (drop-drop w.0 at s ∙ ap (λ (x : ℕ). drop x s) (sym w.2)))

  pub from-stuck : (rs : List Interval) (s : List ℕ) (at p : ℕ) (k : ℕ → Format X) → found at (read_number rs (drop at s)) ≡ Fault p → from (number rs k) s at ≡ stopped p
  unfolding from parse
  from-stuck rs s at p k e =
      let w = found-fault at (read_number rs (drop at s)) p e in
      rw (w.1, parse) (ap stopped (sym w.2))

  pub from-number : (s : List ℕ) (at low high n a : ℕ) (k : ℕ → Format X) → number_at s at low high ≡ Value n a → from (number (span low high) k) s at ≡ from (k n) s a
  unfolding number_at
  from-number s at low high n a k e = from-value (span low high) s at n a k e

  pub from-fault : (s : List ℕ) (at low high p : ℕ) (k : ℕ → Format X) → number_at s at low high ≡ Fault p → from (number (span low high) k) s at ≡ stopped p
  unfolding number_at
  from-fault s at low high p k e = from-stuck (span low high) s at p k e

  pub from_bytes : (s : List ℕ) (at m : ℕ) (k : List ℕ → Format X) → at + m ≤ length s → from (bytes m k) s at ≡ from (k (take m (drop at s))) s (at + m)
  unfolding from parse
  from_bytes s at m k h =
      rw (le-leb m (length (drop at s)) (omega (arith, length-drop at s)), parse)
      (later-later at m (parse (k (take m (drop at s))) (drop m (drop at s))) ∙ ap (λ (l : List ℕ). later (at + m) (parse (k (take m (drop at s))) l)) (drop-drop m at s))

  pub from-short : (s : List ℕ) (at m : ℕ) (k : List ℕ → Format X) → at ≤ length s → length s < at + m → from (bytes m k) s at ≡ stopped (length s)
  unfolding from parse
  from-short s at m k h l =
      rw (lt-leb m (length (drop at s)) (omega (arith, length-drop at s)), parse) (ap stopped (omega (arith, length-drop at s)))

  pub from_end : (s : List ℕ) (at : ℕ) (x : X) → length s ≤ at → from (done x) s at ≡ whole x
  unfolding from parse
  from_end s at x h = rw (drop_of_length-le s h)

  pub from_more : (s : List ℕ) (at : ℕ) (x : X) → at < length s → from (done x) s at ≡ stopped at
  unfolding from parse
  from_more s at x h = rw (drop-cons s at 0 h) (ap stopped (omega arith))

  pub from_start : (s : List ℕ) (f : Format X) → from f s 0 ≡ parse f s
  unfolding from parse
  from_start s f = go (parse f s)
    where
      go : (q : Parsed X) → later 0 q ≡ q
      go (whole x) = refl
      go (stopped p) = ap stopped (omega arith)
