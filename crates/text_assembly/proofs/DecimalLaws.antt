-- Decimal numbers: their digits, their value, and reading the longest one that is permitted.
use Rattle.numbers.proofs.Kit.{◌≡◌, refl, sym, ap, ap₂, ◌∙◌, subst, ⊎_elim, Bool, true, false, cond, ◌&&◌, List, [], ◌∷◌, ◌++◌, append_assoc}
use Rattle.numbers.proofs.Kit.{append-nil, ℕ, zero, suc, ◌+◌, ◌-◌, ◌*◌, ◌/◌, ◌%◌, ◌≤◌, ◌<◌, arith, ltb, leb, length, take, drop, take-append-drop}
use Rattle.numbers.proofs.Kit.{length-take-le, ltb-true, leb-true, lt-ltb, le-leb}
use Rattle.numbers.proofs.BlockLaws.{le-or-lt}
use Rattle.machine.proofs.TestLaws.{and_left, and_right, false-true}
use Rattle.text_lines.specs.Lines.{decimal}
use Rattle.text_lines.proofs.WriteLaws.{decimal-one, decimal-more}
use Rattle.numbers_format.specs.Parser.{Got}
use Rattle.numbers_format.specs.Parser.Got.{value, fault}
use Rattle.text_assembly.specs.Reading.{is_digit, goes_on, one_more, digits_on, read_decimal}

-- ---- digits

abbrev pub Digit : ℕ → Type 0
Digit b = (48 ≤ b) × (b ≤ 57)

abbrev pub Digits : List ℕ → Type 0
Digits [] = Unit {0}
Digits (b ∷ s) = Digit b × Digits s

-- what follows a number begins with no digit
abbrev pub Clean : List ℕ → Type 0
Clean [] = Unit {0}
Clean (b ∷ s) = ¬ Digit b

pub digit-true : (b : ℕ) → is_digit b ≡ true → Digit b
digit-true b h = (leb-true 48 b (and_left (leb 48 b) (leb b 57) h), leb-true b 57 (and_right (leb 48 b) (leb b 57) h))

pub true-digit : (b : ℕ) → Digit b → is_digit b ≡ true
true-digit b h = rw (le-leb 48 b h.0, le-leb b 57 h.1)

digits_append : (s t : List ℕ) → Digits s → Digits t → Digits (s ++ t)
digits_append [] t hs ht = ht
digits_append (b ∷ s) t hs ht = (hs.0, digits_append s t hs.1 ht)

-- the digits at the front of a list that goes on after a number with what is no digit
pub longer : (a u d t : List ℕ) → Digits a → Clean t → a ++ u ≡ d ++ t → (e : List ℕ) × (d ≡ a ++ e) × (u ≡ e ++ t)
longer [] u d t ha ht q = (d, refl, q)
longer (x ∷ a) u [] [] ha ht q = absurd (let z : ◌≡◌ {A = ℕ} 0 1 = cc in omega arith)
longer (x ∷ a) u [] (y ∷ t) ha ht q = absurd (ht (subst (λ (z : ℕ). Digit z) (let z : x ≡ y = cc in z) ha.0))
longer (x ∷ a) u (y ∷ d) t ha ht q =
    let r = longer a u d t ha.1 ht (let z : a ++ u ≡ d ++ t = cc in z) in
    let e : x ≡ y = cc in
    (r.0, ap₂ (λ (z : ℕ) (l : List ℕ). z ∷ l) (sym e) r.1, r.2)

empty : (a e : List ℕ) → a ≡ a ++ e → e ≡ []
empty [] e q = sym q
empty (x ∷ a) e q = empty a e (let z : a ≡ a ++ e = cc in z)

none_left : (e f : List ℕ) → [] ≡ e ++ f → e ≡ []
none_left [] f q = refl
none_left (x ∷ e) f q = let z : ◌≡◌ {A = ℕ} 0 1 = cc in absurd (omega arith)

pub digits-apart : (a u d t : List ℕ) → Digits a → Digits d → Clean u → Clean t → a ++ u ≡ d ++ t → (a ≡ d) × (u ≡ t)
digits-apart a u d t ha hd hu ht q =
    let r = longer a u d t ha ht q in
    let l = longer d t a u hd hu (sym q) in
    -- d = a ++ e and a = d ++ f, so e is empty
    let both : a ≡ a ++ (r.0 ++ l.0) = l.1 ∙ ap (λ (z : List ℕ). z ++ l.0) r.1 ∙ append_assoc a r.0 l.0 in
    let e : r.0 ≡ [] = none_left r.0 l.0 (sym (empty a (r.0 ++ l.0) both)) in
    (sym (append-nil a) ∙ ap (λ (z : List ℕ). a ++ z) (sym e) ∙ sym r.1, r.2 ∙ ap (λ (z : List ℕ). z ++ t) e)

-- ---- the value of digits

abbrev pub val : ℕ → List ℕ → ℕ
val v [] = v
val v (d ∷ s) = val (10 * v + (d - 48)) s

val-append : (v : ℕ) (s t : List ℕ) → val v (s ++ t) ≡ val (val v s) t
val-append v [] t = refl
val-append v (d ∷ s) t = val-append (10 * v + (d - 48)) s t

val-above : (v : ℕ) (s : List ℕ) → v ≤ val v s
val-above v [] = omega arith
val-above v (d ∷ s) = let h = val-above (10 * v + (d - 48)) s in omega arith

-- ---- decimal

-- its digits, its value and its first digit
pub record Decimal (n : ℕ) (s : List ℕ) : Type 0 where
  pub digits : Digits s
  pub worth : val 0 s ≡ n
  pub first : (d : ℕ) × (e : List ℕ) × (s ≡ (48 + d) ∷ e) × ((d < 10) × (d ≤ n)) × (1 ≤ n → 1 ≤ d) × (d ≡ 0 → e ≡ [])

short : (n : ℕ) → n < 10 → Decimal n (decimal n)
short n l = rw (decimal-one n l) (record { digits = ((omega arith, omega arith), tt); worth = omega arith; first = (n, [], refl, (l, omega arith), (λ k. k), (λ k. refl)) })

long : (n : ℕ) → 10 ≤ n → Decimal (n / 10) (decimal (n / 10)) → Decimal n (decimal n)
long n l r =
    let q : ℕ = n / 10 in
    let d : ℕ = 48 + n % 10 in
    rw (decimal-more n l) (record {
      digits = digits_append (decimal q) (d ∷ []) r.digits ((omega arith, omega arith), tt);
      worth = val-append 0 (decimal q) (d ∷ []) ∙ ap (λ (z : ℕ). 10 * z + (d - 48)) r.worth ∙ omega arith;
      first = (r.first.0, r.first.1 ++ (d ∷ []), ap (λ (z : List ℕ). z ++ (d ∷ [])) r.first.2, (r.first.3.0, omega (arith, r.first.3.1)), (λ k. r.first.4 (omega arith)), (λ k. absurd (omega (arith, r.first.4 (omega arith)))));
    })

up_to : (f n : ℕ) → n ≤ f → Decimal n (decimal n)
up_to zero n h = short n (omega arith)
up_to (suc f) n h = ⊎_elim (λ l. long n l (up_to f (n / 10) (omega arith))) (λ l. short n l) (le-or-lt 10 n)

pub is-decimal : (n : ℕ) → Decimal n (decimal n)
is-decimal n = up_to n n (omega arith)

-- one digit more
pub decimal-on : (v d : ℕ) → 0 < v → d < 10 → decimal (10 * v + d) ≡ decimal v ++ ((48 + d) ∷ [])
decimal-on v d hv hd = decimal-more (10 * v + d) (omega arith) ∙ ap₂ (λ (a b : ℕ). decimal a ++ ((48 + b) ∷ [])) (omega arith) (omega arith)

pub decimal-apart : (n m : ℕ) (t u : List ℕ) → Clean t → Clean u → decimal n ++ t ≡ decimal m ++ u → (n ≡ m) × (t ≡ u)
decimal-apart n m t u ht hu q =
    let r = digits-apart (decimal n) t (decimal m) u (is-decimal n).digits (is-decimal m).digits ht hu q in
    (sym (is-decimal n).worth ∙ ap (val 0) r.0 ∙ (is-decimal m).worth, r.1)

-- ---- reading a number

-- s begins with the number n, from least to most, in l bytes, and no permitted number begins with these bytes and the next one
pub record Read (least most : ℕ) (s : List ℕ) (n l : ℕ) : Type 0 where
  pub permitted : (least ≤ n) × (n ≤ most)
  pub starts : s ≡ decimal n ++ drop l s
  pub long : l ≡ length (decimal n)
  pub longest : (b : ℕ) (r : List ℕ) → drop l s ≡ b ∷ r → Digit b → (m : ℕ) (u t : List ℕ) → m ≤ most → Clean t → ¬ (decimal n ++ (b ∷ u) ≡ decimal m ++ t)

-- v cannot go on with the digit b
stuck-on : (most v b : ℕ) → Digit b → goes_on most v b ≡ false → (m : ℕ) (u t : List ℕ) → m ≤ most → Clean t → ¬ (decimal v ++ (b ∷ u) ≡ decimal m ++ t)
stuck-on most v b hb no_more m u t hm ht q =
    let a : List ℕ = decimal v ++ (b ∷ []) in
    let r = longer a u (decimal m) t (digits_append (decimal v) (b ∷ []) (is-decimal v).digits (hb, tt)) ht (append_assoc (decimal v) (b ∷ []) u ∙ q) in
    let w : m ≡ val (10 * v + (b - 48)) r.0 =
    sym (is-decimal m).worth ∙ ap (val 0) r.1 ∙ val-append 0 a r.0
    ∙ ap (λ (z : ℕ). val z r.0) (val-append 0 (decimal v) (b ∷ []) ∙ ap (λ (z : ℕ). 10 * z + (b - 48)) (is-decimal v).worth) in
    let big = val-above (10 * v + (b - 48)) r.0 in
    ⊎_elim
    (λ z. zero-first v r.0 m (omega arith) b r.1)
    (λ p. false-true (sym no_more ∙ rw (true-digit b hb, lt-ltb 0 v p, le-leb (10 * v + (b - 48)) most (omega arith))))
    (le-or-lt v 0)
  where
    -- no number of two digits begins with 0
    zero-first : (v : ℕ) (e : List ℕ) (m : ℕ) → v ≡ 0 → (b : ℕ) → decimal m ≡ (decimal v ++ (b ∷ [])) ++ e → ⊥
    zero-first v e m z b q =
        let f = (is-decimal m).first in
        let whole : (48 + f.0) ∷ f.1 ≡ 48 ∷ (b ∷ e) = sym f.2 ∙ q ∙ ap (λ (x : List ℕ). (x ++ (b ∷ [])) ++ e) (ap decimal z ∙ decimal-one 0 (omega arith)) in
        let d : 48 + f.0 ≡ 48 = cc in
        let rest : f.1 ≡ b ∷ e = cc in
        let none : f.1 ≡ [] = f.5 (omega arith) in
        let bad : ◌≡◌ {A = ℕ} 0 1 = cc in
        omega arith

pub record Grown (most v : ℕ) (s : List ℕ) (n l : ℕ) : Type 0 where
  pub at_most : (v ≤ n) × (n ≤ most)
  pub text : decimal n ≡ decimal v ++ take l s
  pub fits : l ≤ length s
  pub stops : (b : ℕ) (r : List ℕ) → drop l s ≡ b ∷ r → goes_on most n b ≡ false

abbrev GrownTo : ℕ → ℕ → List ℕ → Got → Type 0
GrownTo most v s (value n l) = Grown most v s n l
GrownTo most v s (fault p) = ⊥

grown : (most v : ℕ) (s : List ℕ) → v ≤ most → GrownTo most v s (digits_on most v s)
grown most v [] h = record { at_most = (omega arith, h); text = sym (append-nil (decimal v)); fits = omega arith; stops = λ b r q. absurd (let z : ◌≡◌ {A = ℕ} 0 1 = cc in omega arith) }
grown most v (b ∷ s) h = go (goes_on most v b) refl (λ k. grown most (10 * v + (b - 48)) s k)
  where
    on : goes_on most v b ≡ true → (g : Got) → GrownTo most (10 * v + (b - 48)) s g → GrownTo most v (b ∷ s) (one_more g)
    on e (fault p) r = r
    on e (value n l) r =
        let d = digit-true b (and_left (is_digit b) (ltb 0 v && leb (10 * v + (b - 48)) most) e) in
        let k = and_right (is_digit b) (ltb 0 v && leb (10 * v + (b - 48)) most) e in
        let p : 0 < v = ltb-true 0 v (and_left (ltb 0 v) (leb (10 * v + (b - 48)) most) k) in
        let same : 48 + (b - 48) ≡ b = omega arith in
        record {
          at_most = (omega (arith, r.at_most.0), r.at_most.1);
          text = r.text ∙ ap (λ (z : List ℕ). z ++ take l s) (decimal-on v (b - 48) p (omega arith) ∙ ap (λ (z : ℕ). decimal v ++ (z ∷ [])) same) ∙ append_assoc (decimal v) (b ∷ []) (take l s);
          fits = omega (arith, r.fits);
          stops = r.stops;
        }

    go : (t : Bool) → goes_on most v b ≡ t → (10 * v + (b - 48) ≤ most → GrownTo most (10 * v + (b - 48)) s (digits_on most (10 * v + (b - 48)) s))
        → GrownTo most v (b ∷ s) (cond t (one_more (digits_on most (10 * v + (b - 48)) s)) (value v 0))
    go true e ih =
        let k = and_right (is_digit b) (ltb 0 v && leb (10 * v + (b - 48)) most) e in
        on e (digits_on most (10 * v + (b - 48)) s) (ih (leb-true (10 * v + (b - 48)) most (and_right (ltb 0 v) (leb (10 * v + (b - 48)) most) k)))
    go false e ih = record { at_most = (omega arith, h); text = sym (append-nil (decimal v)); fits = omega arith; stops = λ c r q. subst (λ (z : ℕ). goes_on most v z ≡ false) (let z : b ≡ c = cc in z) e }

-- no permitted number begins as s does
abbrev pub NoneBegins : (least most : ℕ) → List ℕ → Type 0
NoneBegins least most s = (b : ℕ) (r : List ℕ) → s ≡ b ∷ r → (m : ℕ) (u t : List ℕ) → least ≤ m → m ≤ most → ¬ (b ∷ u ≡ decimal m ++ t)

abbrev pub ReadTo : (least most : ℕ) → List ℕ → Got → Type 0
ReadTo least most s (value n l) = Read least most s n l
ReadTo least most s (fault p) = (p ≡ 0) × NoneBegins least most s

pub read_right : (least most : ℕ) → least ≤ 1 → least ≤ most → (s : List ℕ) → ReadTo least most s (read_decimal least most s)
read_right least most h1 hm [] = (refl, λ b r q. absurd (let z : ◌≡◌ {A = ℕ} 0 1 = cc in omega arith))
read_right least most h1 hm (b ∷ s) = go (is_digit b && (leb least (b - 48) && leb (b - 48) most)) refl
  where
    on : Digit b → least ≤ b - 48 → (g : Got) → GrownTo most (b - 48) s g → ReadTo least most (b ∷ s) (one_more g)
    on d k (fault p) r = absurd r
    on d k (value n l) r =
        let one : decimal (b - 48) ≡ b ∷ [] = decimal-one (b - 48) (omega arith) ∙ ap (λ (z : ℕ). z ∷ []) (omega arith) in
        let text : decimal n ≡ b ∷ take l s = r.text ∙ ap (λ (z : List ℕ). z ++ take l s) one in
        record {
          permitted = (omega (arith, r.at_most.0), r.at_most.1);
          starts = sym (ap (λ (z : List ℕ). z ++ drop l s) text ∙ ap (λ (z : List ℕ). b ∷ z) (take-append-drop l s));
          long = sym (ap length text ∙ ap suc (length-take-le l s r.fits));
          longest = λ c u q dc m v t km ct. stuck-on most n c dc (r.stops c u q) m v t km ct;
        }

    go : (t : Bool) → is_digit b && (leb least (b - 48) && leb (b - 48) most) ≡ t
        → ReadTo least most (b ∷ s) (cond t (one_more (digits_on most (b - 48) s)) (fault 0))
    go true e =
        let d = digit-true b (and_left (is_digit b) (leb least (b - 48) && leb (b - 48) most) e) in
        let k = and_right (is_digit b) (leb least (b - 48) && leb (b - 48) most) e in
        on d (leb-true least (b - 48) (and_left (leb least (b - 48)) (leb (b - 48) most) k)) (digits_on most (b - 48) s)
        (grown most (b - 48) s (leb-true (b - 48) most (and_right (leb least (b - 48)) (leb (b - 48) most) k)))
    go false e = (
      refl,
      λ c r q m u t lm mm w.
          let f = (is-decimal m).first in
          let x : c ∷ u ≡ (48 + f.0) ∷ (f.1 ++ t) = w ∙ ap (λ (z : List ℕ). z ++ t) f.2 in
          let y : b ≡ 48 + f.0 = cc in
          let d10 = f.3.0 in
          let dn = f.3.1 in
          let least-d : least ≤ f.0 = ⊎_elim (λ z. omega arith) (λ p. omega (arith, f.4 p)) (le-or-lt m 0) in
          false-true (sym e ∙ rw (true-digit b (omega arith, omega arith), le-leb least (b - 48) (omega arith), le-leb (b - 48) most (omega arith))),
    )
