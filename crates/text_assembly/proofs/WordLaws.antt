-- A row's word from the values of its operands, and back: rows whose fixed bits and operands together fill a word.
use Rattle.numbers.proofs.Kit.{◌≡◌, refl, sym, ap, ap₂, ◌∙◌, subst, Bool, true, false, ◌&&◌, List, [], ◌∷◌, ℕ, ◌+◌, ◌*◌, ◌/◌, ◌^◌, ◌≤◌, ◌<◌, arith}
use Rattle.numbers.proofs.Kit.{ltb, leb, eqb, eqb-true, eq-eqb, ltb-true, leb-true}
use Rattle.machine.proofs.TestLaws.{and_left, and_right, false-true}
use Rattle.machine.specs.Listing.{bits, field7, field15, field20, immediate13, Fixed, has}
use Rattle.text_assembly.specs.Lines.{Operand, below, wide, small, operand_count, field_at, fields_from, word_with}
use Rattle.text_assembly.proofs.PieceLaws.{Fits}

abbrev fix : ℕ → ℕ → ℕ → Fixed
fix high low value = record { high = high; low = low; value = value }

-- a row's fixed bits and its operands
pub record Whole (fs : List Fixed) (os : List Operand) : Type 0 where
  -- a word that has the bits is that of its fields
  pub only : (w : ℕ) → w < 2 ^ 32 → bits 6 0 w ≡ 119 → has w fs ≡ true → w ≡ word_with fs (fields_from 0 os w)
  -- the word of some values has the bits, and these fields
  pub made : (vs : List ℕ) → Fits os vs
      → (word_with fs vs < 2 ^ 32) × (bits 6 0 (word_with fs vs) ≡ 119) × (has (word_with fs vs) fs ≡ true) × (fields_from 0 os (word_with fs vs) ≡ vs)

-- ---- the three fields of a word

module _ (f g h x y z : ℕ) (hf : f < 8) (hg : g < 64) (hh : h < 2) (hx : x < 32) (hy : y < 32) (hz : z < 32) where
  abbrev three_word : ℕ
  three_word = 119 + (f * 2 ^ 12 + (g * 2 ^ 26 + (h * 2 ^ 25 + 0))) + x * 2 ^ 7 + y * 2 ^ 15 + z * 2 ^ 20

  three-bits : (three_word < 2 ^ 32) × (bits 6 0 three_word ≡ 119) × (bits 14 12 three_word ≡ f) × (bits 31 26 three_word ≡ g) × (bits 25 25 three_word ≡ h)
      × (field7 three_word ≡ x) × (field15 three_word ≡ y) × (field20 three_word ≡ z)
  three-bits =
      let a : three_word / 2 ^ 7 ≡ x + (f * 2 ^ 5 + y * 2 ^ 8 + z * 2 ^ 13 + h * 2 ^ 18 + g * 2 ^ 19) = omega arith in
      let b : three_word / 2 ^ 12 ≡ f + (y * 2 ^ 3 + z * 2 ^ 8 + h * 2 ^ 13 + g * 2 ^ 14) = omega arith in
      let c : three_word / 2 ^ 15 ≡ y + (z * 2 ^ 5 + h * 2 ^ 10 + g * 2 ^ 11) = omega arith in
      let d : three_word / 2 ^ 20 ≡ z + (h * 2 ^ 5 + g * 2 ^ 6) = omega arith in
      let e : three_word / 2 ^ 25 ≡ h + g * 2 = omega arith in
      let k : three_word / 2 ^ 26 ≡ g = omega arith in
      (omega arith, omega arith, rw b (omega arith), rw k (omega arith), rw e (omega arith), rw a (omega arith), rw c (omega arith), rw d (omega arith))

-- a word by its fields, from the lowest on
low-7 : (w : ℕ) → w ≡ bits 6 0 w + 128 * (w / 2 ^ 7)
low-7 w = omega arith

low-12 : (w : ℕ) → w / 2 ^ 7 ≡ field7 w + 32 * (w / 2 ^ 12)
low-12 w = omega arith

low-15 : (w : ℕ) → w / 2 ^ 12 ≡ bits 14 12 w + 8 * (w / 2 ^ 15)
low-15 w = omega arith

low-20 : (w : ℕ) → w / 2 ^ 15 ≡ field15 w + 32 * (w / 2 ^ 20)
low-20 w = omega arith

low-25 : (w : ℕ) → w / 2 ^ 20 ≡ field20 w + 32 * (w / 2 ^ 25)
low-25 w = omega arith

low-26 : (w : ℕ) → w / 2 ^ 25 ≡ bits 25 25 w + 2 * (w / 2 ^ 26)
low-26 w = omega arith

low-32 : (w : ℕ) → w < 2 ^ 32 → w / 2 ^ 26 ≡ bits 31 26 w
low-32 w h = omega arith

low-28 : (w : ℕ) → w / 2 ^ 15 ≡ immediate13 w + 8192 * (w / 2 ^ 28)
low-28 w = omega arith

mid-28 : (w : ℕ) → w / 2 ^ 20 ≡ bits 27 20 w + 256 * (w / 2 ^ 28)
mid-28 w = omega arith

high-32 : (w : ℕ) → w < 2 ^ 32 → w / 2 ^ 28 ≡ bits 31 28 w
high-32 w h = omega arith

-- the same, as one sum
sum-three : (w a b c d e f g q7 q12 q15 q20 q25 q26 : ℕ) → w ≡ a + 128 * q7 → q7 ≡ b + 32 * q12 → q12 ≡ c + 8 * q15 → q15 ≡ d + 32 * q20 → q20 ≡ e + 32 * q25 → q25 ≡ f + 2 * q26 → q26 ≡ g
    → w ≡ a + (c * 2 ^ 12 + (g * 2 ^ 26 + (f * 2 ^ 25 + 0))) + b * 2 ^ 7 + d * 2 ^ 15 + e * 2 ^ 20
sum-three w a b c d e f g q7 q12 q15 q20 q25 q26 h1 h2 h3 h4 h5 h6 h7 = omega arith

three-only : (w : ℕ) → w < 2 ^ 32
    → w ≡ bits 6 0 w + (bits 14 12 w * 2 ^ 12 + (bits 31 26 w * 2 ^ 26 + (bits 25 25 w * 2 ^ 25 + 0))) + field7 w * 2 ^ 7 + field15 w * 2 ^ 15 + field20 w * 2 ^ 20
three-only w h =
    sum-three w (bits 6 0 w) (field7 w) (bits 14 12 w) (field15 w) (field20 w) (bits 25 25 w) (bits 31 26 w) (w / 2 ^ 7) (w / 2 ^ 12) (w / 2 ^ 15) (w / 2 ^ 20) (w / 2 ^ 25) (w / 2 ^ 26)
    (low-7 w) (low-12 w) (low-15 w) (low-20 w) (low-25 w) (low-26 w) (low-32 w h)

sum-wide : (w a b c d g q7 q12 q15 q28 : ℕ) → w ≡ a + 128 * q7 → q7 ≡ b + 32 * q12 → q12 ≡ c + 8 * q15 → q15 ≡ d + 8192 * q28 → q28 ≡ g
    → w ≡ a + (c * 2 ^ 12 + (g * 2 ^ 28 + 0)) + b * 2 ^ 7 + d * 2 ^ 15 + 0 * 2 ^ 20
sum-wide w a b c d g q7 q12 q15 q28 h1 h2 h3 h4 h5 = omega arith

wide-only : (w : ℕ) → w < 2 ^ 32
    → w ≡ bits 6 0 w + (bits 14 12 w * 2 ^ 12 + (bits 31 28 w * 2 ^ 28 + 0)) + field7 w * 2 ^ 7 + immediate13 w * 2 ^ 15 + 0 * 2 ^ 20
wide-only w h =
    sum-wide w (bits 6 0 w) (field7 w) (bits 14 12 w) (immediate13 w) (bits 31 28 w) (w / 2 ^ 7) (w / 2 ^ 12) (w / 2 ^ 15) (w / 2 ^ 28)
    (low-7 w) (low-12 w) (low-15 w) (low-28 w) (high-32 w h)

sum-two : (w a b c d e g q7 q12 q15 q20 q28 : ℕ) → w ≡ a + 128 * q7 → q7 ≡ b + 32 * q12 → q12 ≡ c + 8 * q15 → q15 ≡ d + 32 * q20 → q20 ≡ e + 256 * q28 → q28 ≡ g
    → w ≡ a + (c * 2 ^ 12 + (g * 2 ^ 28 + (e * 2 ^ 20 + 0))) + b * 2 ^ 7 + d * 2 ^ 15 + 0 * 2 ^ 20
sum-two w a b c d e g q7 q12 q15 q20 q28 h1 h2 h3 h4 h5 h6 = omega arith

setting-only : (w : ℕ) → w < 2 ^ 32
    → w ≡ bits 6 0 w + (bits 14 12 w * 2 ^ 12 + (bits 31 28 w * 2 ^ 28 + (bits 27 20 w * 2 ^ 20 + 0))) + field7 w * 2 ^ 7 + field15 w * 2 ^ 15 + 0 * 2 ^ 20
setting-only w h =
    sum-two w (bits 6 0 w) (field7 w) (bits 14 12 w) (field15 w) (bits 27 20 w) (bits 31 28 w) (w / 2 ^ 7) (w / 2 ^ 12) (w / 2 ^ 15) (w / 2 ^ 20) (w / 2 ^ 28)
    (low-7 w) (low-12 w) (low-15 w) (low-20 w) (mid-28 w) (high-32 w h)

-- a setting with rs1
module _ (f g x y : ℕ) (hf : f < 8) (hg : g < 16) (hx : x < 32) (hy : y < 32) where
  abbrev setting_word : ℕ
  setting_word = 119 + (f * 2 ^ 12 + (g * 2 ^ 28 + (0 * 2 ^ 20 + 0))) + x * 2 ^ 7 + y * 2 ^ 15 + 0 * 2 ^ 20

  setting-bits : (setting_word < 2 ^ 32) × (bits 6 0 setting_word ≡ 119) × (bits 14 12 setting_word ≡ f) × (bits 31 28 setting_word ≡ g) × (bits 27 20 setting_word ≡ 0)
      × (field7 setting_word ≡ x) × (field15 setting_word ≡ y)
  setting-bits =
      let a : setting_word / 2 ^ 7 ≡ x + (f * 2 ^ 5 + y * 2 ^ 8 + g * 2 ^ 21) = omega arith in
      let b : setting_word / 2 ^ 12 ≡ f + (y * 2 ^ 3 + g * 2 ^ 16) = omega arith in
      let c : setting_word / 2 ^ 15 ≡ y + g * 2 ^ 13 = omega arith in
      let d : setting_word / 2 ^ 20 ≡ g * 2 ^ 8 = omega arith in
      let e : setting_word / 2 ^ 28 ≡ g = omega arith in
      (omega arith, omega arith, rw b (omega arith), rw e (omega arith), rw d (omega arith), rw a (omega arith), rw c (omega arith))

-- a setting with an immediate
module _ (f g x y : ℕ) (hf : f < 8) (hg : g < 16) (hx : x < 32) (hy : y < 8192) where
  abbrev wide_word : ℕ
  wide_word = 119 + (f * 2 ^ 12 + (g * 2 ^ 28 + 0)) + x * 2 ^ 7 + y * 2 ^ 15 + 0 * 2 ^ 20

  wide-bits : (wide_word < 2 ^ 32) × (bits 6 0 wide_word ≡ 119) × (bits 14 12 wide_word ≡ f) × (bits 31 28 wide_word ≡ g)
      × (field7 wide_word ≡ x) × (immediate13 wide_word ≡ y)
  wide-bits =
      let a : wide_word / 2 ^ 7 ≡ x + (f * 2 ^ 5 + y * 2 ^ 8 + g * 2 ^ 21) = omega arith in
      let b : wide_word / 2 ^ 12 ≡ f + (y * 2 ^ 3 + g * 2 ^ 16) = omega arith in
      let c : wide_word / 2 ^ 15 ≡ y + g * 2 ^ 13 = omega arith in
      let e : wide_word / 2 ^ 28 ≡ g = omega arith in
      (omega arith, omega arith, rw b (omega arith), rw e (omega arith), rw a (omega arith), rw c (omega arith))

-- ---- narrow operands: five bits

abbrev pub narrow : Operand → Bool
narrow (below n) = leb n 32
narrow wide = false
narrow small = true

narrow-count : (o : Operand) → narrow o ≡ true → operand_count o ≤ 32
narrow-count (below n) h = leb-true n 32 h
narrow-count wide h = absurd (false-true h)
narrow-count small h = omega arith

narrow_at : (o : Operand) → narrow o ≡ true → (w : ℕ) → (field_at 0 o w ≡ field7 w) × (field_at 1 o w ≡ field15 w) × (field_at 2 o w ≡ field20 w)
narrow_at (below n) h w = (refl, refl, refl)
narrow_at wide h w = absurd (false-true h)
narrow_at small h w = (refl, refl, refl)

-- ---- the four layouts

has-true : (w : ℕ) (f : Fixed) (fs : List Fixed) → bits f.high f.low w ≡ f.value → has w fs ≡ true → has w (f ∷ fs) ≡ true
has-true w f fs e h = rw (eq-eqb (bits f.high f.low w) f.value e) h

has_first : (w : ℕ) (f : Fixed) (fs : List Fixed) → has w (f ∷ fs) ≡ true → bits f.high f.low w ≡ f.value
has_first w f fs h = eqb-true (bits f.high f.low w) f.value (and_left (eqb (bits f.high f.low w) f.value) (has w fs) h)

has_rest : (w : ℕ) (f : Fixed) (fs : List Fixed) → has w (f ∷ fs) ≡ true → has w fs ≡ true
has_rest w f fs h = and_right (eqb (bits f.high f.low w) f.value) (has w fs) h

module _ (f g h : ℕ) (hf : f < 8) (hg : g < 64) (hh : h < 2) (o p q : Operand) (no : narrow o ≡ true) (np : narrow p ≡ true) (nq : narrow q ≡ true) where
  whole-three : Whole (fix 14 12 f ∷ fix 31 26 g ∷ fix 25 25 h ∷ []) (o ∷ p ∷ q ∷ [])
  whole-three = record {
    only = λ w hw ho t.
        let a : bits 14 12 w ≡ f = has_first w (fix 14 12 f) (fix 31 26 g ∷ fix 25 25 h ∷ []) t in
        let t1 = has_rest w (fix 14 12 f) (fix 31 26 g ∷ fix 25 25 h ∷ []) t in
        let b : bits 31 26 w ≡ g = has_first w (fix 31 26 g) (fix 25 25 h ∷ []) t1 in
        let t2 = has_rest w (fix 31 26 g) (fix 25 25 h ∷ []) t1 in
        let c : bits 25 25 w ≡ h = has_first w (fix 25 25 h) [] t2 in
        let x = (narrow_at o no w).0 in
        let y = (narrow_at p np w).1 in
        let z = (narrow_at q nq w).2 in
        three-only w hw ∙ rw (ho, a, b, c, sym x, sym y, sym z);
    made = values;
  }
    where
      values : (vs : List ℕ) → Fits (o ∷ p ∷ q ∷ []) vs
          → (word_with (fix 14 12 f ∷ fix 31 26 g ∷ fix 25 25 h ∷ []) vs < 2 ^ 32) × (bits 6 0 (word_with (fix 14 12 f ∷ fix 31 26 g ∷ fix 25 25 h ∷ []) vs) ≡ 119)
          × (has (word_with (fix 14 12 f ∷ fix 31 26 g ∷ fix 25 25 h ∷ []) vs) (fix 14 12 f ∷ fix 31 26 g ∷ fix 25 25 h ∷ []) ≡ true)
          × (fields_from 0 (o ∷ p ∷ q ∷ []) (word_with (fix 14 12 f ∷ fix 31 26 g ∷ fix 25 25 h ∷ []) vs) ≡ vs)
      values [] e = absurd e
      values (x ∷ []) e = absurd e.1
      values (x ∷ (y ∷ [])) e = absurd e.1.1
      values (x ∷ (y ∷ (z ∷ (v ∷ vs)))) e = absurd e.1.1.1
      values (x ∷ (y ∷ (z ∷ []))) e =
          let w : ℕ = three_word f g h x y z hf hg hh (omega (arith, e.0, narrow-count o no)) (omega (arith, e.1.0, narrow-count p np)) (omega (arith, e.1.1.0, narrow-count q nq)) in
          let r = three-bits f g h x y z hf hg hh (omega (arith, e.0, narrow-count o no)) (omega (arith, e.1.0, narrow-count p np)) (omega (arith, e.1.1.0, narrow-count q nq)) in (
            r.0,
            r.1,
            has-true w (fix 14 12 f) (fix 31 26 g ∷ fix 25 25 h ∷ []) r.2 (has-true w (fix 31 26 g) (fix 25 25 h ∷ []) r.3 (has-true w (fix 25 25 h) [] r.4 refl)),
            ap₂ (λ (a : ℕ) (l : List ℕ). a ∷ l) ((narrow_at o no w).0 ∙ r.5) (ap₂ (λ (a : ℕ) (l : List ℕ). a ∷ l) ((narrow_at p np w).1 ∙ r.6) (ap (λ (a : ℕ). a ∷ []) ((narrow_at q nq w).2 ∙ r.7))),
          )

-- an add or a subtract: bits 24..20 are zero
module _ (f g h : ℕ) (hf : f < 8) (hg : g < 64) (hh : h < 2) (o p : Operand) (no : narrow o ≡ true) (np : narrow p ≡ true) where
  abbrev two_fixed : List Fixed
  two_fixed = fix 14 12 f ∷ fix 31 26 g ∷ fix 25 25 h ∷ fix 24 20 0 ∷ []

  whole-two : Whole two_fixed (o ∷ p ∷ [])
  whole-two = record {
    only = λ w hw ho t.
        let a : bits 14 12 w ≡ f = has_first w (fix 14 12 f) (fix 31 26 g ∷ fix 25 25 h ∷ fix 24 20 0 ∷ []) t in
        let t1 = has_rest w (fix 14 12 f) (fix 31 26 g ∷ fix 25 25 h ∷ fix 24 20 0 ∷ []) t in
        let b : bits 31 26 w ≡ g = has_first w (fix 31 26 g) (fix 25 25 h ∷ fix 24 20 0 ∷ []) t1 in
        let t2 = has_rest w (fix 31 26 g) (fix 25 25 h ∷ fix 24 20 0 ∷ []) t1 in
        let c : bits 25 25 w ≡ h = has_first w (fix 25 25 h) (fix 24 20 0 ∷ []) t2 in
        let d : field20 w ≡ 0 = has_first w (fix 24 20 0) [] (has_rest w (fix 25 25 h) (fix 24 20 0 ∷ []) t2) in
        let x = (narrow_at o no w).0 in
        let y = (narrow_at p np w).1 in
        three-only w hw ∙ rw (ho, a, b, c, d, sym x, sym y);
    made = values;
  }
    where
      values : (vs : List ℕ) → Fits (o ∷ p ∷ []) vs
          → (word_with two_fixed vs < 2 ^ 32) × (bits 6 0 (word_with two_fixed vs) ≡ 119) × (has (word_with two_fixed vs) two_fixed ≡ true) × (fields_from 0 (o ∷ p ∷ []) (word_with two_fixed vs) ≡ vs)
      values [] e = absurd e
      values (x ∷ []) e = absurd e.1
      values (x ∷ (y ∷ (z ∷ vs))) e = absurd e.1.1
      values (x ∷ (y ∷ [])) e =
          let w : ℕ = three_word f g h x y 0 hf hg hh (omega (arith, e.0, narrow-count o no)) (omega (arith, e.1.0, narrow-count p np)) (omega arith) in
          let r = three-bits f g h x y 0 hf hg hh (omega (arith, e.0, narrow-count o no)) (omega (arith, e.1.0, narrow-count p np)) (omega arith) in (
            r.0,
            r.1,
            has-true w (fix 14 12 f) (fix 31 26 g ∷ fix 25 25 h ∷ fix 24 20 0 ∷ []) r.2 (has-true w (fix 31 26 g) (fix 25 25 h ∷ fix 24 20 0 ∷ []) r.3 (has-true w (fix 25 25 h) (fix 24 20 0 ∷ []) r.4 (has-true w (fix 24 20 0) [] r.7 refl))),
            ap₂ (λ (a : ℕ) (l : List ℕ). a ∷ l) ((narrow_at o no w).0 ∙ r.5) (ap (λ (a : ℕ). a ∷ []) ((narrow_at p np w).1 ∙ r.6)),
          )

-- settings
module _ (f g : ℕ) (hf : f < 8) (hg : g < 16) (o p : Operand) (no : narrow o ≡ true) (np : narrow p ≡ true) where
  abbrev setting_fixed : List Fixed
  setting_fixed = fix 14 12 f ∷ fix 31 28 g ∷ fix 27 20 0 ∷ []

  whole-setting : Whole setting_fixed (o ∷ p ∷ [])
  whole-setting = record {
    only = λ w hw ho t.
        let a : bits 14 12 w ≡ f = has_first w (fix 14 12 f) (fix 31 28 g ∷ fix 27 20 0 ∷ []) t in
        let t1 = has_rest w (fix 14 12 f) (fix 31 28 g ∷ fix 27 20 0 ∷ []) t in
        let b : bits 31 28 w ≡ g = has_first w (fix 31 28 g) (fix 27 20 0 ∷ []) t1 in
        let c : bits 27 20 w ≡ 0 = has_first w (fix 27 20 0) [] (has_rest w (fix 31 28 g) (fix 27 20 0 ∷ []) t1) in
        let x = (narrow_at o no w).0 in
        let y = (narrow_at p np w).1 in
        setting-only w hw ∙ rw (ho, a, b, c, sym x, sym y);
    made = values;
  }
    where
      values : (vs : List ℕ) → Fits (o ∷ p ∷ []) vs
          → (word_with setting_fixed vs < 2 ^ 32) × (bits 6 0 (word_with setting_fixed vs) ≡ 119) × (has (word_with setting_fixed vs) setting_fixed ≡ true) × (fields_from 0 (o ∷ p ∷ []) (word_with setting_fixed vs) ≡ vs)
      values [] e = absurd e
      values (x ∷ []) e = absurd e.1
      values (x ∷ (y ∷ (z ∷ vs))) e = absurd e.1.1
      values (x ∷ (y ∷ [])) e =
          let w : ℕ = setting_word f g x y hf hg (omega (arith, e.0, narrow-count o no)) (omega (arith, e.1.0, narrow-count p np)) in
          let r = setting-bits f g x y hf hg (omega (arith, e.0, narrow-count o no)) (omega (arith, e.1.0, narrow-count p np)) in (
            r.0,
            r.1,
            has-true w (fix 14 12 f) (fix 31 28 g ∷ fix 27 20 0 ∷ []) r.2 (has-true w (fix 31 28 g) (fix 27 20 0 ∷ []) r.3 (has-true w (fix 27 20 0) [] r.4 refl)),
            ap₂ (λ (a : ℕ) (l : List ℕ). a ∷ l) ((narrow_at o no w).0 ∙ r.5) (ap (λ (a : ℕ). a ∷ []) ((narrow_at p np w).1 ∙ r.6)),
          )

module _ (f g : ℕ) (hf : f < 8) (hg : g < 16) (o : Operand) (no : narrow o ≡ true) where
  abbrev wide_fixed : List Fixed
  wide_fixed = fix 14 12 f ∷ fix 31 28 g ∷ []

  whole_wide : Whole wide_fixed (o ∷ wide ∷ [])
  whole_wide = record {
    only = λ w hw ho t.
        let a : bits 14 12 w ≡ f = has_first w (fix 14 12 f) (fix 31 28 g ∷ []) t in
        let b : bits 31 28 w ≡ g = has_first w (fix 31 28 g) [] (has_rest w (fix 14 12 f) (fix 31 28 g ∷ []) t) in
        let x = (narrow_at o no w).0 in
        wide-only w hw ∙ rw (ho, a, b, sym x);
    made = values;
  }
    where
      values : (vs : List ℕ) → Fits (o ∷ wide ∷ []) vs
          → (word_with wide_fixed vs < 2 ^ 32) × (bits 6 0 (word_with wide_fixed vs) ≡ 119) × (has (word_with wide_fixed vs) wide_fixed ≡ true) × (fields_from 0 (o ∷ wide ∷ []) (word_with wide_fixed vs) ≡ vs)
      values [] e = absurd e
      values (x ∷ []) e = absurd e.1
      values (x ∷ (y ∷ (z ∷ vs))) e = absurd e.1.1
      values (x ∷ (y ∷ [])) e =
          let w : ℕ = wide_word f g x y hf hg (omega (arith, e.0, narrow-count o no)) e.1.0 in
          let r = wide-bits f g x y hf hg (omega (arith, e.0, narrow-count o no)) e.1.0 in (
            r.0,
            r.1,
            has-true w (fix 14 12 f) (fix 31 28 g ∷ []) r.2 (has-true w (fix 31 28 g) [] r.3 refl),
            ap₂ (λ (a : ℕ) (l : List ℕ). a ∷ l) ((narrow_at o no w).0 ∙ r.4) (ap (λ (a : ℕ). a ∷ []) r.5),
          )

-- ---- a test of them

abbrev at : Fixed → (high low bound : ℕ) → Bool
at x high low bound = eqb x.high high && (eqb x.low low && ltb x.value bound)

is_at : (x : Fixed) (high low bound : ℕ) → at x high low bound ≡ true → (x ≡ fix high low x.value) × (x.value < bound)
is_at x high low bound h =
    let k = and_right (eqb x.high high) (eqb x.low low && ltb x.value bound) h in
    let a : x.high ≡ high = eqb-true x.high high (and_left (eqb x.high high) (eqb x.low low && ltb x.value bound) h) in
    let b : x.low ≡ low = eqb-true x.low low (and_left (eqb x.low low) (ltb x.value bound) k) in
    (ap₂ (λ (u v : ℕ). fix u v x.value) a b, ltb-true x.value bound (and_right (eqb x.low low) (ltb x.value bound) k))

is_zero : (x : Fixed) (high low : ℕ) → at x high low 1 ≡ true → x ≡ fix high low 0
is_zero x high low h = let r = is_at x high low 1 h in let z : x.value ≡ 0 = omega (arith, r.1) in r.0 ∙ ap (fix high low) z

abbrev is_wide : Operand → Bool
is_wide (below n) = false
is_wide wide = true
is_wide small = false

wide_is : (o : Operand) → is_wide o ≡ true → o ≡ wide
wide_is (below n) h = absurd (false-true h)
wide_is wide h = refl
wide_is small h = absurd (false-true h)

-- the fixed bits and the operands have one of the four layouts
abbrev laid2 : Fixed → Fixed → List Operand → Bool
laid2 a b [] = false
laid2 a b (o ∷ []) = false
laid2 a b (o ∷ (p ∷ [])) = at a 14 12 8 && (at b 31 28 16 && (narrow o && is_wide p))
laid2 a b (o ∷ (p ∷ (q ∷ os))) = false

abbrev laid3 : Fixed → Fixed → Fixed → List Operand → Bool
laid3 a b c [] = false
laid3 a b c (o ∷ []) = false
laid3 a b c (o ∷ (p ∷ [])) = at a 14 12 8 && (at b 31 28 16 && (at c 27 20 1 && (narrow o && narrow p)))
laid3 a b c (o ∷ (p ∷ (q ∷ []))) = at a 14 12 8 && (at b 31 26 64 && (at c 25 25 2 && (narrow o && (narrow p && narrow q))))
laid3 a b c (o ∷ (p ∷ (q ∷ (r ∷ os)))) = false

abbrev laid4 : Fixed → Fixed → Fixed → Fixed → List Operand → Bool
laid4 a b c d [] = false
laid4 a b c d (o ∷ []) = false
laid4 a b c d (o ∷ (p ∷ [])) = at a 14 12 8 && (at b 31 26 64 && (at c 25 25 2 && (at d 24 20 1 && (narrow o && narrow p))))
laid4 a b c d (o ∷ (p ∷ (q ∷ os))) = false

abbrev pub laid : List Fixed → List Operand → Bool
laid [] os = false
laid (a ∷ []) os = false
laid (a ∷ (b ∷ [])) os = laid2 a b os
laid (a ∷ (b ∷ (c ∷ []))) os = laid3 a b c os
laid (a ∷ (b ∷ (c ∷ (d ∷ [])))) os = laid4 a b c d os
laid (a ∷ (b ∷ (c ∷ (d ∷ (e ∷ fs))))) os = false

both : (a b : Bool) → a && b ≡ true → (a ≡ true) × (b ≡ true)
both a b h = (and_left a b h, and_right a b h)

as-whole : {fs gs : List Fixed} {os : List Operand} → fs ≡ gs → Whole gs os → Whole fs os
as-whole {fs} {gs} {os} e w = subst (λ (l : List Fixed). Whole l os) (sym e) w

whole2 : (a b : Fixed) (os : List Operand) → laid2 a b os ≡ true → Whole (a ∷ b ∷ []) os
whole2 a b [] h = absurd (false-true h)
whole2 a b (o ∷ []) h = absurd (false-true h)
whole2 a b (o ∷ (p ∷ (q ∷ os))) h = absurd (false-true h)
whole2 a b (o ∷ (p ∷ [])) h =
    let k = both (at a 14 12 8) (at b 31 28 16 && (narrow o && is_wide p)) h in
    let l = both (at b 31 28 16) (narrow o && is_wide p) k.1 in
    let m = both (narrow o) (is_wide p) l.1 in
    let x = is_at a 14 12 8 k.0 in
    let y = is_at b 31 28 16 l.0 in
    as-whole (ap₂ (λ (u v : Fixed). u ∷ v ∷ []) x.0 y.0)
    (subst (λ (z : Operand). Whole (fix 14 12 a.value ∷ fix 31 28 b.value ∷ []) (o ∷ z ∷ [])) (sym (wide_is p m.1)) (whole_wide a.value b.value x.1 y.1 o m.0))

whole3 : (a b c : Fixed) (os : List Operand) → laid3 a b c os ≡ true → Whole (a ∷ b ∷ c ∷ []) os
whole3 a b c [] h = absurd (false-true h)
whole3 a b c (o ∷ []) h = absurd (false-true h)
whole3 a b c (o ∷ (p ∷ (q ∷ (r ∷ os)))) h = absurd (false-true h)
whole3 a b c (o ∷ (p ∷ [])) h =
    let k = both (at a 14 12 8) (at b 31 28 16 && (at c 27 20 1 && (narrow o && narrow p))) h in
    let l = both (at b 31 28 16) (at c 27 20 1 && (narrow o && narrow p)) k.1 in
    let m = both (at c 27 20 1) (narrow o && narrow p) l.1 in
    let n = both (narrow o) (narrow p) m.1 in
    let x = is_at a 14 12 8 k.0 in
    let y = is_at b 31 28 16 l.0 in
    as-whole (ap₂ (λ (u v : Fixed). u ∷ v ∷ c ∷ []) x.0 y.0 ∙ ap (λ (u : Fixed). fix 14 12 a.value ∷ fix 31 28 b.value ∷ u ∷ []) (is_zero c 27 20 m.0))
    (whole-setting a.value b.value x.1 y.1 o p n.0 n.1)
whole3 a b c (o ∷ (p ∷ (q ∷ []))) h =
    let k = both (at a 14 12 8) (at b 31 26 64 && (at c 25 25 2 && (narrow o && (narrow p && narrow q)))) h in
    let l = both (at b 31 26 64) (at c 25 25 2 && (narrow o && (narrow p && narrow q))) k.1 in
    let m = both (at c 25 25 2) (narrow o && (narrow p && narrow q)) l.1 in
    let n = both (narrow o) (narrow p && narrow q) m.1 in
    let j = both (narrow p) (narrow q) n.1 in
    let x = is_at a 14 12 8 k.0 in
    let y = is_at b 31 26 64 l.0 in
    let z = is_at c 25 25 2 m.0 in
    as-whole (ap₂ (λ (u v : Fixed). u ∷ v ∷ c ∷ []) x.0 y.0 ∙ ap (λ (u : Fixed). fix 14 12 a.value ∷ fix 31 26 b.value ∷ u ∷ []) z.0)
    (whole-three a.value b.value c.value x.1 y.1 z.1 o p q n.0 j.0 j.1)

whole4 : (a b c d : Fixed) (os : List Operand) → laid4 a b c d os ≡ true → Whole (a ∷ b ∷ c ∷ d ∷ []) os
whole4 a b c d [] h = absurd (false-true h)
whole4 a b c d (o ∷ []) h = absurd (false-true h)
whole4 a b c d (o ∷ (p ∷ (q ∷ os))) h = absurd (false-true h)
whole4 a b c d (o ∷ (p ∷ [])) h =
    let k = both (at a 14 12 8) (at b 31 26 64 && (at c 25 25 2 && (at d 24 20 1 && (narrow o && narrow p)))) h in
    let l = both (at b 31 26 64) (at c 25 25 2 && (at d 24 20 1 && (narrow o && narrow p))) k.1 in
    let m = both (at c 25 25 2) (at d 24 20 1 && (narrow o && narrow p)) l.1 in
    let n = both (at d 24 20 1) (narrow o && narrow p) m.1 in
    let j = both (narrow o) (narrow p) n.1 in
    let x = is_at a 14 12 8 k.0 in
    let y = is_at b 31 26 64 l.0 in
    let z = is_at c 25 25 2 m.0 in
    as-whole (ap₂ (λ (u v : Fixed). u ∷ v ∷ c ∷ d ∷ []) x.0 y.0 ∙ ap₂ (λ (u v : Fixed). fix 14 12 a.value ∷ fix 31 26 b.value ∷ u ∷ v ∷ []) z.0 (is_zero d 24 20 n.0))
    (whole-two a.value b.value c.value x.1 y.1 z.1 o p j.0 j.1)

pub whole-laid : (fs : List Fixed) (os : List Operand) → laid fs os ≡ true → Whole fs os
whole-laid [] os h = absurd (false-true h)
whole-laid (a ∷ []) os h = absurd (false-true h)
whole-laid (a ∷ (b ∷ [])) os h = whole2 a b os h
whole-laid (a ∷ (b ∷ (c ∷ []))) os h = whole3 a b c os h
whole-laid (a ∷ (b ∷ (c ∷ (d ∷ [])))) os h = whole4 a b c d os h
whole-laid (a ∷ (b ∷ (c ∷ (d ∷ (e ∷ fs))))) os h = absurd (false-true h)
