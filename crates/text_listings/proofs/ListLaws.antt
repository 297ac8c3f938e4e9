-- Digits, words and refusals.
use Rattle.numbers.proofs.Kit.{◌≡◌, refl, sym, ap, ap₂, ◌∙◌, subst, Bool, true, false, cond, List, [], ◌∷◌, ◌++◌, Option, none, some, ℕ, suc}
use Rattle.numbers.proofs.Kit.{◌+◌, ◌-◌, ◌*◌, ◌/◌, ◌%◌, ◌^◌, ◌≤◌, ◌<◌, pow-succ', arith, add-one, leb, length, drop, get_or, drop_of_length-le, drop-cons}
use Rattle.numbers.proofs.Kit.{eqb, eqb-true, leb-true, lt-ltb, le-ltb, ne_eqb}
use Rattle.machine.proofs.TestLaws.{all-at, false-true}
use Rattle.machine.specs.Listing.{decode}
use Rattle.numbers_format.specs.Parser.{Parsed, later}
use Rattle.numbers_format.specs.Parser.Parsed.{whole, stopped}
use Rattle.std.specs.Prelude as Prelude
use Rattle.std.specs.Prelude.{Result, Ok, Err}
use Rattle.text_assembly.specs.declared.TextError.{TextError}
use Rattle.text_assembly.specs.Answers.{error_reply, code_answer}
use Rattle.text_assembly.specs.Lines.{line}
use Rattle.text_assembly.specs.Words.{hex_of, hex_digits, is_hex, hex_value, hex_from, read_word}
use Rattle.text_assembly.specs.Reading.{read_line}
use Rattle.text_assembly.specs.Programs.{refused, listed}
use Rattle.text_assembly.specs.Theorems.{has_line, WordRight, ReadRight}
use Rattle.text_assembly.proofs.HexLaws.{words_right, value-of}
use Rattle.text_assembly.proofs.LineLaws.{reads-right}
use Rattle.text_read.specs.declared.Fault.{Fault}
use Rattle.text_read.specs.Parts.{fault_at, as_line}
use Rattle.text_write.specs.Parts.{line_text}
use Rattle.text_read.proofs.RowLaws.{word-whole, bad-stopped}
use Rattle.text_answers.proofs.CodeLaws.{number-some, told}
use Rattle.text_listings.specs.Parts.{digit_at}

-- ---- a digit

pub digit-is : (b d : ℕ) → Prelude.Some d ≡ digit_at b → (is_hex b ≡ true) × (hex_value b ≡ d) × (d < 16)
digit-is b d e = go (is_hex b) refl e
  where
    go : (t : Bool) → is_hex b ≡ t → Prelude.Some d ≡ cond t (Prelude.Some (hex_value b)) Prelude.None → (is_hex b ≡ true) × (hex_value b ≡ d) × (d < 16)
    go true h e = let z : d ≡ hex_value b = cc in (h, sym z, omega (arith, z, (value-of b h).0))
    go false h e = absurd cc

pub digit-none : (b : ℕ) → Prelude.None ≡ digit_at b → is_hex b ≡ false
digit-none b e = go (is_hex b) e
  where
    go : (t : Bool) → Prelude.None ≡ cond t (Prelude.Some (hex_value b)) Prelude.None → t ≡ false
    go true e = absurd cc
    go false e = refl

-- ---- a word

pub power-bound : (i : ℕ) → i < 8 → 16 ^ i ≤ 0x1000_0000
power-bound i h = leb-true (16 ^ i) 0x1000_0000 (all-at 8 (λ i. leb (16 ^ i) 0x1000_0000) refl i h)

pub next-bound : (i w d : ℕ) → w < 16 ^ i → d < 16 → 16 * w + d < 16 ^ (i + 1)
next-bound i w d h k = let p : 16 ^ suc i ≡ 16 * 16 ^ i = pow-succ' 16 i in rw (add-one i, p) (omega arith)

module _ (s : List ℕ) (i w : ℕ) where
  abbrev from : Parsed ℕ
  from = later i (hex_from (8 - i) w (drop i s))

  at-place : ◌≡◌ {A = Result ℕ Fault} (Err (fault_at i)) (Err (fault_at (i + 0)))
  at-place = let e : i ≡ i + 0 = omega arith in ap (λ (x : ℕ). Err (fault_at x)) e

  pub word_none : i < 8 → length s ≤ i → Err (fault_at i) ≡ as_line from
  word_none l h = let e : 8 - i ≡ suc (8 - (i + 1)) = omega arith in rw (e, drop_of_length-le s h) at-place

  pub word-other : i < 8 → i < length s → Prelude.None ≡ digit_at (get_or s i 0) → Err (fault_at i) ≡ as_line from
  word-other l h k = let e : 8 - i ≡ suc (8 - (i + 1)) = omega arith in rw (e, drop-cons s i 0 h, digit-none (get_or s i 0) k) at-place

  pub word_more : i < 8 → i < length s → (d : ℕ) → Prelude.Some d ≡ digit_at (get_or s i 0) → from ≡ later (i + 1) (hex_from (8 - (i + 1)) (16 * w + d) (drop (i + 1) s))
  word_more l h v k =
      let e : 8 - i ≡ suc (8 - (i + 1)) = omega arith in
      let q = digit-is (get_or s i 0) v k in
      let d : drop i s ≡ get_or s i 0 ∷ drop (i + 1) s = drop-cons s i 0 h ∙ ap (λ (z : ℕ). get_or s i 0 ∷ drop z s) (sym (add-one i)) in
      ap₂ (λ (x : ℕ) (y : List ℕ). later i (hex_from x w y)) e d
      ∙ ap (λ (t : Bool). later i (cond t (later 1 (hex_from (8 - (i + 1)) (16 * w + hex_value (get_or s i 0)) (drop (i + 1) s))) (stopped 0))) q.0
      ∙ twice (hex_from (8 - (i + 1)) (16 * w + hex_value (get_or s i 0)) (drop (i + 1) s))
      ∙ ap (λ (z : ℕ). later (i + 1) (hex_from (8 - (i + 1)) (16 * w + z) (drop (i + 1) s))) q.1
    where
      twice : (q : Parsed ℕ) → later i (later 1 q) ≡ later (i + 1) q
      twice (whole x) = refl
      twice (stopped p) = let e : i + (1 + p) ≡ i + 1 + p = omega arith in ap stopped e

pub word-long : (s : List ℕ) (i w : ℕ) → i ≡ 8 → 8 < length s → Err (fault_at 8) ≡ as_line (later i (hex_from (8 - i) w (drop i s)))
word-long s i w e h = rw (e, drop-cons s 8 0 h)

pub word_end : (s : List ℕ) (i w : ℕ) → i ≡ 8 → length s ≤ 8 → Ok w ≡ as_line (later i (hex_from (8 - i) w (drop i s)))
word_end s i w e h = rw (e, drop_of_length-le s h)

pub word-start : (s : List ℕ) → read_word s ≡ later 0 (hex_from (8 - 0) 0 (drop 0 s))
unfolding read_word
word-start s = go (hex_from 8 0 s)
  where
    go : (q : Parsed ℕ) → q ≡ later 0 q
    go (whole w) = refl
    go (stopped p) = let e : p ≡ 0 + p = omega arith in ap stopped e

-- what the readers of words and of lines find
pub word_bound : (s : List ℕ) (w : ℕ) → Ok w ≡ as_line (read_word s) → (w < 2 ^ 32) × (read_word s ≡ whole w)
word_bound s w e = go (words_right s) (word-whole w (read_word s) e)
  where
    go : WordRight s (read_word s) → read_word s ≡ whole w → (w < 2 ^ 32) × (read_word s ≡ whole w)
    go r z = ((subst (WordRight s) z r).0, z)

pub word-place : (s : List ℕ) (f : Fault) → Err f ≡ as_line (read_word s) → (f.place ≤ length s) × (read_word s ≡ stopped f.place)
word-place s f e = go (words_right s) (bad-stopped f (read_word s) e)
  where
    go : WordRight s (read_word s) → read_word s ≡ stopped f.place → (f.place ≤ length s) × (read_word s ≡ stopped f.place)
    go r z = ((subst (WordRight s) z r).0.there, z)

pub line-place : (s : List ℕ) (f : Fault) → Err f ≡ as_line (read_line s) → (f.place ≤ length s) × (read_line s ≡ stopped f.place)
line-place s f e = go (reads-right s) (bad-stopped f (read_line s) e)
  where
    go : ReadRight s (read_line s) → read_line s ≡ stopped f.place → (f.place ≤ length s) × (read_line s ≡ stopped f.place)
    go r z = ((subst (ReadRight s) z r).0.there, z)

-- ---- digits of a word

pub sixteen : (n : ℕ) → n < 8 → 2 ^ (4 * n) ≡ 16 ^ n
sixteen n h = eqb-true (2 ^ (4 * n)) (16 ^ n) (all-at 8 (λ i. eqb (2 ^ (4 * i)) (16 ^ i)) refl n h)

pub ten-digit : (x d : ℕ) → d ≡ x → d < 10 → 48 + d ≡ hex_of x
ten-digit x d e h = ap (λ (z : ℕ). 48 + z) e ∙ (let l : x < 10 = omega arith in rw (lt-ltb x 10 l))

pub letter-digit : (x d : ℕ) → d ≡ x → 10 ≤ d → 87 + d ≡ hex_of x
letter-digit x d e h = ap (λ (z : ℕ). 87 + z) e ∙ (let l : 10 ≤ x = omega arith in rw (le-ltb x 10 l))

pub digits-next : (n w : ℕ) → n < 8 → hex_digits (8 - n) w ≡ (hex_of (w / 16 ^ (7 - n) % 16) ∷ []) ++ hex_digits (8 - (n + 1)) w
digits-next n w h =
    let e : 8 - n ≡ suc (7 - n) = omega arith in
    let f : 7 - n ≡ 8 - (n + 1) = omega arith in
    ap (λ (z : ℕ). hex_digits z w) e ∙ ap (λ (z : ℕ). (hex_of (w / 16 ^ (7 - n) % 16) ∷ []) ++ hex_digits z w) f

-- ---- words with a line, and without

pub listed-line : (w : ℕ) → Ok tt ≡ code_answer (decode w) → (has_line (line w) ≡ true) × (listed w (line w) ≡ line_text (line w))
listed-line w e = (h, go (line w) h)
  where
    h : has_line (line w) ≡ true
    h = told w (Ok tt) e

    go : (x : Option (List ℕ)) → has_line x ≡ true → listed w x ≡ line_text x
    go none h = absurd (false-true h)
    go (some s) h = refl

pub listed-none : (w : ℕ) (error : TextError) → Err error ≡ code_answer (decode w) → listed w (line w) ≡ refused (Err error)
listed-none w error e = go (line w) (told w (Err error) e ∙ ne_eqb (error_reply error).number 0 (number-some error))
  where
    go : (x : Option (List ℕ)) → has_line x ≡ false → listed w x ≡ refused (Err error)
    go none h = ap refused (sym e)
    go (some s) h = absurd (false-true (sym h))
