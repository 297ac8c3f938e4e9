-- Words in eight hexadecimal digits: each has one text, the reader gives it back, and the place of a fault.
use Rattle.numbers.proofs.Kit.{◌≡◌, refl, sym, ap, ap₂, ◌∙◌, subst, ⊎_elim, Bool, true, false, cond, ◌&&◌, ◌||◌, List, [], ◌∷◌, ℕ, zero, suc, ◌+◌, ◌-◌}
use Rattle.numbers.proofs.Kit.{◌*◌, ◌/◌, ◌%◌, ◌^◌, ◌≤◌, ◌<◌, mul-add-div_right, div-eq_of_lt, mul-le-mul_right, pow-succ', one-le-pow, arith, leb, length}
use Rattle.numbers.proofs.Kit.{mod-mul, leb-true, le-leb, lt-leb, lt-ltb, le-ltb}
use Rattle.numbers.proofs.BlockLaws.{le-or-lt}
use Rattle.machine.proofs.TestLaws.{and_left, and_right, false-true}
use Rattle.numbers_format.specs.Formats.{Ends}
use Rattle.numbers_format.specs.Parser.{Parsed, later}
use Rattle.numbers_format.specs.Parser.Parsed.{whole, stopped}
use Rattle.text_assembly.specs.Words.{hex_of, hex_digits, word_text, is_hex, hex_value, hex_from, read_word}
use Rattle.text_assembly.specs.Theorems.{IsWord, WordRight, WordsRight, WordsReadBack}
use Rattle.text_assembly.proofs.LineLaws.{ends_as}

-- n digits
abbrev pub Hexes : ℕ → List ℕ → Type 0
Hexes zero [] = Unit {0}
Hexes zero (b ∷ s) = ⊥
Hexes (suc n) [] = ⊥
Hexes (suc n) (b ∷ s) = (is_hex b ≡ true) × Hexes n s

abbrev pub hval : ℕ → List ℕ → ℕ
hval v [] = v
hval v (b ∷ s) = hval (16 * v + hex_value b) s

some-hexes : (n : ℕ) → (s : List ℕ) × Hexes n s
some-hexes zero = ([], tt)
some-hexes (suc n) = let r = some-hexes n in (48 ∷ r.0, (refl, r.1))

abbrev HexRight : (n v : ℕ) → List ℕ → Parsed ℕ → Type 0
HexRight n v s (whole w) = Hexes n s × (w ≡ hval v s)
HexRight n v s (stopped p) = Ends (Hexes n) s p × ¬ Hexes n s

hex-on : (n v b : ℕ) (s : List ℕ) → is_hex b ≡ true → (q : Parsed ℕ) → HexRight n (16 * v + hex_value b) s q → HexRight (suc n) v (b ∷ s) (later 1 q)
hex-on n v b s e (whole w) h = ((e, h.0), h.1)
hex-on n v b s e (stopped p) h =
    let one : 1 + p ≡ suc p = omega arith in (
      subst (λ (z : ℕ). Ends (Hexes (suc n)) (b ∷ s) z) (sym one) (record {
        there = omega (arith, h.0.there);
        goes_on = (h.0.goes_on.0, (e, h.0.goes_on.1));
        stops = λ k u a. h.0.stops (omega arith) u a.1;
      }),
      λ a. h.1 a.1,
    )

hex-right : (n v : ℕ) (s : List ℕ) → HexRight n v s (hex_from n v s)
hex-right zero v [] = (tt, refl)
hex-right zero v (b ∷ s) = (record { there = omega arith; goes_on = ([], tt); stops = λ k u h. h }, λ h. h)
hex-right (suc n) v [] = (record { there = omega arith; goes_on = some-hexes (suc n); stops = λ k. absurd (omega arith) }, λ h. h)
hex-right (suc n) v (b ∷ s) = go (is_hex b) refl (hex-right n (16 * v + hex_value b) s)
  where
    go : (t : Bool) → is_hex b ≡ t → HexRight n (16 * v + hex_value b) s (hex_from n (16 * v + hex_value b) s)
        → HexRight (suc n) v (b ∷ s) (cond t (later 1 (hex_from n (16 * v + hex_value b) s)) (stopped 0))
    go true e ih = hex-on n v b s e (hex_from n (16 * v + hex_value b) s) ih
    go false e ih = (record { there = omega arith; goes_on = some-hexes (suc n); stops = λ k u h. false-true (sym e ∙ h.0) }, λ h. false-true (sym e ∙ h.0))

-- ---- digits and values

either : {P : Type 0} (a b : Bool) → a || b ≡ true → (a ≡ true → P) → (b ≡ true → P) → P
either true b h f g = f refl
either false b h f g = g h

-- a digit and its value
pub value-of : (b : ℕ) → is_hex b ≡ true → (hex_value b < 16) × (hex_of (hex_value b) ≡ b)
value-of b h = either (leb 48 b && leb b 57) (leb 97 b && leb b 102) h
    (λ a.
    let l = leb-true 48 b (and_left (leb 48 b) (leb b 57) a) in
    let m = leb-true b 57 (and_right (leb 48 b) (leb b 57) a) in
    let v : hex_value b ≡ b - 48 = rw (le-leb b 57 m) in
    let o : hex_of (b - 48) ≡ 48 + (b - 48) = rw (lt-ltb (b - 48) 10 (omega arith)) in
    (omega arith, ap hex_of v ∙ o ∙ omega arith))
    (λ a.
    let l = leb-true 97 b (and_left (leb 97 b) (leb b 102) a) in
    let m = leb-true b 102 (and_right (leb 97 b) (leb b 102) a) in
    let v : hex_value b ≡ b - 87 = rw (lt-leb b 57 (omega arith)) in
    let o : hex_of (b - 87) ≡ 87 + (b - 87) = rw (le-ltb (b - 87) 10 (omega arith)) in
    (omega arith, ap hex_of v ∙ o ∙ omega arith))

digit-of : (d : ℕ) → d < 16 → (is_hex (hex_of d) ≡ true) × (hex_value (hex_of d) ≡ d)
digit-of d h = ⊎_elim
    (λ l.
    let o : hex_of d ≡ 87 + d = rw (le-ltb d 10 l) in (
      ap is_hex o ∙ rw (lt-leb (87 + d) 57 (omega arith), le-leb 97 (87 + d) (omega arith), le-leb (87 + d) 102 (omega arith)) (either-last (leb 48 (87 + d))),
      ap hex_value o ∙ rw (lt-leb (87 + d) 57 (omega arith)) (omega arith),
    ))
    (λ l.
    let o : hex_of d ≡ 48 + d = rw (lt-ltb d 10 l) in (
      ap is_hex o ∙ rw (le-leb 48 (48 + d) (omega arith), le-leb (48 + d) 57 (omega arith)),
      ap hex_value o ∙ rw (le-leb (48 + d) 57 (omega arith)) (omega arith),
    ))
    (le-or-lt 10 d)
  where
    either-last : (b : Bool) → b && false || true ≡ true
    either-last true = refl
    either-last false = refl

hval-split : (n v : ℕ) (s : List ℕ) → Hexes n s → (hval v s ≡ v * 16 ^ n + hval 0 s) × (hval 0 s < 16 ^ n)
hval-split zero v [] h = (omega arith, omega arith)
hval-split zero v (b ∷ s) h = absurd h
hval-split (suc n) v [] h = absurd h
hval-split (suc n) v (b ∷ s) h =
    let d : ℕ = hex_value b in
    let P : ℕ = 16 ^ n in
    let x = hval-split n (16 * v + d) s h.1 in
    let y = hval-split n (16 * 0 + d) s h.1 in
    let p : 16 ^ suc n ≡ 16 * P = pow-succ' 16 n in
    let d16 = (value-of b h.0).0 in
    let m : d * P ≤ 15 * P = mul-le-mul_right P (omega arith) in
    (x.0 ∙ rw p (omega (arith, y.0)), rw p (omega (arith, y.0, y.1)))

digits-back : (n v : ℕ) (s : List ℕ) → Hexes n s → hex_digits n (hval v s) ≡ s
digits-back zero v [] h = refl
digits-back zero v (b ∷ s) h = absurd h
digits-back (suc n) v [] h = absurd h
digits-back (suc n) v (b ∷ s) h =
    let d : ℕ = hex_value b in
    let u : ℕ = 16 * v + d in
    let x = hval-split n u s h.1 in
    let r = value-of b h.0 in
    let q : hval u s / 16 ^ n ≡ u = ap (λ (z : ℕ). z / 16 ^ n) x.0 ∙ mul-add-div_right (one-le-pow n 16 (omega arith)) u (hval 0 s) ∙ ap (λ (z : ℕ). u + z) (div-eq_of_lt x.1) ∙ omega arith in
    let e : hval u s / 16 ^ n % 16 ≡ d = ap (λ (z : ℕ). z % 16) q ∙ omega (arith, r.0) in
    ap₂ (λ (z : ℕ) (l : List ℕ). z ∷ l) (ap hex_of e ∙ r.1) (digits-back n u s h.1)

digits_are : (n w : ℕ) → Hexes n (hex_digits n w)
digits_are zero w = tt
digits_are (suc n) w = ((digit-of (w / 16 ^ n % 16) (omega arith)).0, digits_are n w)

digits-worth : (n v w : ℕ) → hval v (hex_digits n w) ≡ v * 16 ^ n + w % 16 ^ n
digits-worth zero v w = omega arith
digits-worth (suc n) v w =
    let d : ℕ = w / 16 ^ n % 16 in
    let P : ℕ = 16 ^ n in
    let p : 16 ^ suc n ≡ 16 * P = pow-succ' 16 n in
    let e : hex_value (hex_of d) ≡ d = (digit-of d (omega arith)).1 in
    let m : w % (16 * P) ≡ d * P + w % P = mod-mul w (omega arith) (one-le-pow n 16 (omega arith)) in
    ap (λ (z : ℕ). hval (16 * v + z) (hex_digits n w)) e ∙ digits-worth n (16 * v + d) w ∙ sum v d P (w % P) (w % (16 * P)) m ∙ ap (λ (z : ℕ). v * z + w % z) (sym p)
  where
    sum : (v d P r q : ℕ) → q ≡ d * P + r → (16 * v + d) * P + r ≡ v * (16 * P) + q
    sum v d P r q h = omega arith

-- ---- the theorems

word-hexes : (w : ℕ) → Hexes 8 (word_text w)
unfolding word_text
word-hexes w = digits_are 8 w

hexes-word : (s : List ℕ) → Hexes 8 s → (hval 0 s < 2 ^ 32) × (s ≡ word_text (hval 0 s))
unfolding word_text
hexes-word s h = ((hval-split 8 0 s h).1, sym (digits-back 8 0 s h))

pub words_right : WordsRight
unfolding read_word
words_right s = go (hex_from 8 0 s) (hex-right 8 0 s)
  where
    into : (x : List ℕ) → Hexes 8 x → IsWord x
    into x h = let r = hexes-word x h in (hval 0 x, r.0, r.1)

    out : (x : List ℕ) → IsWord x → Hexes 8 x
    out x (w, b, e) = subst (Hexes 8) (sym e) (word-hexes w)

    go : (q : Parsed ℕ) → HexRight 8 0 s q → WordRight s q
    go (whole w) h = subst (λ (z : ℕ). WordRight s (whole z)) (sym h.1) (hexes-word s h.0)
    go (stopped p) h = (ends_as (Hexes 8) IsWord s p p refl into out h.0, λ k. h.1 (out s k))

pub words-read-back : WordsReadBack
unfolding read_word word_text
words-read-back w b = go (hex_from 8 0 (hex_digits 8 w)) (hex-right 8 0 (hex_digits 8 w))
  where
    go : (q : Parsed ℕ) → HexRight 8 0 (hex_digits 8 w) q → q ≡ whole w
    go (whole v) h = ap whole (h.1 ∙ digits-worth 8 0 w ∙ omega arith)
    go (stopped p) h = absurd (h.1 (digits_are 8 w))

-- eight digits
pub word-length : (w : ℕ) → length (word_text w) ≡ 8
unfolding word_text
word-length w = refl
