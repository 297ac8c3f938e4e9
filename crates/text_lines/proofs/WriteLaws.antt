-- Laws of decimal text and of writers.
use Rattle.numbers.proofs.Kit.{◌≡◌, refl, sym, ap, ◌∙◌, subst, ◌⊎◌, inl, inr, true, false, List, [], ◌∷◌, ◌++◌, append_assoc, append-nil, ℕ, zero, suc, ◌+◌}
use Rattle.numbers.proofs.Kit.{◌*◌, ◌-◌, ◌/◌, ◌%◌, ◌^◌, ◌≤◌, ◌<◌, mod-eq_of_lt, mul-le-mul_right, pow-succ', suc-mul, arith, add-one, leb, length, take}
use Rattle.numbers.proofs.Kit.{drop, get_or, length-append, length-take, drop_of_length-le, drop-cons, drop-drop}
use Rattle.numbers.proofs.Kit.{get_or-drop, leb-true, leb-false, lt-ltb, le-ltb, le-leb, lt-leb}
use Rattle.numbers.proofs.Kit.{length-drop, length-take-le}
use borrow.Rule.Slice.PartMut.{put_mid, same_len_mid}
use Rattle.std.proofs.lemmas.Slice.{take-put_mid, drop-put_mid}
use Rattle.numbers.specs.Reduce.{signed}
use Rattle.numbers.proofs.BlockLaws.{le-or-lt}
use Rattle.text_lines.specs.Lines.{digits_of, decimal, number_text, further_numbers, spaced, lines, first_line, steps_word}
use Rattle.text_lines.specs.Parts.{Wrote, signed_all, rows_of}
use Rattle.text_lines.proofs.ListLaws.{take-map, drop-map}

-- ---- decimal text

-- more divisions than needed change nothing
enough : (f g n : ℕ) → n ≤ f → n ≤ g → digits_of f n ≡ digits_of g n
enough zero zero n a b = refl
enough zero (suc g) n a b = rw (lt-ltb n 10 (omega arith))
enough (suc f) zero n a b = rw (lt-ltb n 10 (omega arith))
enough (suc f) (suc g) n a b = go (enough f g (n / 10)) (le-or-lt 10 n)
  where
    go : (n / 10 ≤ f → n / 10 ≤ g → digits_of f (n / 10) ≡ digits_of g (n / 10)) → (10 ≤ n) ⊎ (n < 10) → digits_of (suc f) n ≡ digits_of (suc g) n
    go ih (inl l) = rw (le-ltb n 10 l, ih (omega arith) (omega arith))
    go ih (inr l) = rw (lt-ltb n 10 l)

one-digit : (f n : ℕ) → n < 10 → digits_of f n ≡ (48 + n % 10) ∷ []
one-digit zero n h = refl
one-digit (suc f) n h = rw (lt-ltb n 10 h)

pub decimal-one : (n : ℕ) → n < 10 → decimal n ≡ (48 + n) ∷ []
unfolding decimal
decimal-one n h = one-digit n n h ∙ ap (λ (x : ℕ). (48 + x) ∷ []) (mod-eq_of_lt h)

more : (f n : ℕ) → n ≡ suc f → 10 ≤ n → digits_of n n ≡ digits_of (n / 10) (n / 10) ++ ((48 + n % 10) ∷ [])
more f n e h =
    ap (λ (x : ℕ). digits_of x n) e
    ∙ (rw (le-ltb n 10 h) (ap (λ (l : List ℕ). l ++ ((48 + n % 10) ∷ [])) (enough f (n / 10) (n / 10) (omega arith) (omega arith))))

pub decimal-more : (n : ℕ) → 10 ≤ n → decimal n ≡ decimal (n / 10) ++ ((48 + n % 10) ∷ [])
unfolding decimal
decimal-more n h = more (n - 1) n (omega arith) h

pub length_more : (n : ℕ) → 10 ≤ n → length (decimal n) ≡ length (decimal (n / 10)) + 1
length_more n h = ap length (decimal-more n h) ∙ length-append (decimal (n / 10)) ((48 + n % 10) ∷ [])

pub length-one : (n : ℕ) → n < 10 → length (decimal n) ≡ 1
length-one n h = ap length (decimal-one n h)

-- ---- writers one after another

-- a part of the room overwritten by text
pub wrote_part : (e x t : List ℕ) (at k : ℕ) → x ≡ t → k ≡ length t → at + length t ≤ length e → Wrote e at (put_mid at k e x) (at + length t) t
wrote_part e x t at k f g h =
    let long : length x ≡ k = ap length f ∙ sym g in
    record {
      to = refl;
      same = same_len_mid at k e x (long ∙ sym (length-take-le k (drop at e) (omega (arith, length-drop at e))));
      text = take-put_mid at k e x (at + length t) (omega arith) (omega arith) ∙ ap (λ (l : List ℕ). take at e ++ l) f;
      rest = drop-put_mid at k e x (at + length t) (omega arith) (omega arith) long;
    }

rest_more : (e x y : List ℕ) (p q : ℕ) → p ≤ q → drop p x ≡ drop p e → drop q y ≡ drop q x → drop q y ≡ drop q e
rest_more e x y p q l f g =
    let h : p + (q - p) ≡ q = omega arith in
    let from : (z : List ℕ) → drop (q - p) (drop p z) ≡ drop q z = λ z. drop-drop (q - p) p z ∙ ap (λ (n : ℕ). drop n z) h in
    g ∙ sym (from x) ∙ ap (drop (q - p)) f ∙ from e

pub wrote-more : {e x y : List ℕ} {at p q : ℕ} {t u v : List ℕ} → t ++ u ≡ v → Wrote e at x p t → Wrote x p y q u → Wrote e at y q v
wrote-more {e} {x} {y} {at} {p} {q} {t} {u} f a b = record {
  to = omega (arith, a.to, b.to, length-append t u, ap length f);
  same = b.same ∙ a.same;
  text = b.text ∙ ap (λ (l : List ℕ). l ++ u) a.text ∙ append_assoc (take at e) t u ∙ ap (λ (l : List ℕ). take at e ++ l) f;
  rest = rest_more e x y p q (omega (arith, b.to)) a.rest b.rest;
}

pub wrote_as : {e x : List ℕ} {at p : ℕ} {t u : List ℕ} → t ≡ u → Wrote e at x p t → Wrote e at x p u
wrote_as {e} {x} {at} {p} f w = subst (λ (l : List ℕ). Wrote e at x p l) f w

-- a writer under way: whole is to be written from at on, and rest of it is left
pub record Ahead (e : List ℕ) (at : ℕ) (x : List ℕ) (next : ℕ) (rest whole : List ℕ) : Type 0 where
  pub to : next + length rest ≡ at + length whole
  pub same : length x ≡ length e
  pub text : take next x ++ rest ≡ take at e ++ whole
  pub after : drop next x ≡ drop next e

module _ {e : List ℕ} {at : ℕ} {whole : List ℕ} where
  pub ahead-start : Ahead e at e at whole whole
  ahead-start = record { to = refl; same = refl; text = refl; after = refl }

  pub ahead_step : {x y : List ℕ} {p q : ℕ} {t rest : List ℕ} → Ahead e at x p (t ++ rest) whole → Wrote x p y q t → Ahead e at y q rest whole
  ahead_step {x} {y} {p} {q} {t} {rest} a w = record {
    to = omega (arith, a.to, w.to, length-append t rest);
    same = w.same ∙ a.same;
    text = ap (λ (l : List ℕ). l ++ rest) w.text ∙ append_assoc (take p x) t rest ∙ a.text;
    after = rest_more e x y p q (omega (arith, w.to)) a.after w.rest;
  }

  pub ahead-as : {x : List ℕ} {p : ℕ} {r s : List ℕ} → r ≡ s → Ahead e at x p r whole → Ahead e at x p s whole
  ahead-as {x} {p} f a = subst (λ (l : List ℕ). Ahead e at x p l whole) f a

  pub ahead-end : {x : List ℕ} {p : ℕ} → Ahead e at x p [] whole → Wrote e at x p whole
  ahead-end {x} {p} a = record { to = omega (arith, a.to); same = a.same; text = sym (append-nil (take p x)) ∙ a.text; rest = a.after }

  pub ahead-room : {x : List ℕ} {p : ℕ} (t rest : List ℕ) → Ahead e at x p (t ++ rest) whole → at + length whole ≤ length e → p + length t ≤ length x
  ahead-room t rest a h = omega (arith, a.to, a.same, length-append t rest)

-- ---- rows

abbrev pub tail_text : ℕ → List ℕ → ℕ → List ℕ
tail_text q row j = further_numbers (signed_all q (drop j row))

pub tail_more : (q : ℕ) (row : List ℕ) (j : ℕ) → j < length row → tail_text q row j ≡ (32 ∷ []) ++ (number_text (signed q (get_or row j 0)) ++ tail_text q row (j + 1))
tail_more q row j h = rw (add-one, drop-cons row j 0 h)

pub tail-end : (q : ℕ) (row : List ℕ) (j : ℕ) → length row ≤ j → tail_text q row j ≡ []
tail-end q row j h = rw (drop_of_length-le row h)

pub row_first : (q : ℕ) (row : List ℕ) (x : ℕ) (others : List ℕ) → row ≡ x ∷ others → spaced (signed_all q row) ≡ number_text (signed q x) ++ tail_text q others 0
row_first q row x others e = ap (λ (l : List ℕ). spaced (signed_all q l)) e

-- ---- signed numbers

pub minus-text : (q x : ℕ) → leb q (x + x) ≡ true → number_text (signed q x) ≡ 45 ∷ decimal (suc (q - suc x))
minus-text q x e = rw (le-ltb (x + x) q (leb-true q (x + x) e))

pub plus-text : (q x : ℕ) → leb q (x + x) ≡ false → number_text (signed q x) ≡ decimal x
plus-text q x e = rw (lt-ltb (x + x) q (leb-false q (x + x) e))

-- ---- lines

abbrev pub rest_lines : ℕ → List ℕ → ℕ → ℕ → ℕ → ℕ → List ℕ
rest_lines q c rows cols i from = lines (rows_of (rows - i) cols (signed_all q (drop from c)))

pub lines_more : (q : ℕ) (c : List ℕ) (rows cols i from : ℕ) → i < rows
    → rest_lines q c rows cols i from ≡ spaced (signed_all q (take (from + cols - from) (drop from c))) ++ ((10 ∷ []) ++ rest_lines q c rows cols (i + 1) (from + cols))
lines_more q c rows cols i from h =
    let e : rows - i ≡ suc (rows - (i + 1)) = omega arith in
    let f : from + cols - from ≡ cols = omega arith in
    rw (e, f, take-map (signed q) cols (drop from c), drop-map (signed q) cols (drop from c), drop-drop cols from c)

-- ---- room

pub decimal-room : (k n : ℕ) → n < 10 ^ suc k → length (decimal n) ≤ suc k
decimal-room zero n h = omega (arith, length-one n h)
decimal-room (suc k) n h = go (decimal-room k (n / 10)) (le-or-lt 10 n)
  where
    go : (n / 10 < 10 ^ suc k → length (decimal (n / 10)) ≤ suc k) → (10 ≤ n) ⊎ (n < 10) → length (decimal n) ≤ suc (suc k)
    go ih (inl l) = let d : n / 10 < 10 ^ suc k = omega (arith, h, pow-succ' 10 (suc k)) in omega (arith, ih d, length_more n l)
    go ih (inr l) = omega (arith, length-one n l)

written-room : (q x : ℕ) → q < 0x1_0000_0000_0000_0000 → x < 0x1_0000_0000_0000_0000 → length (number_text (signed q x)) ≤ 21
written-room q x hq hx = go (le-or-lt q (x + x))
  where
    go : (q ≤ x + x) ⊎ (x + x < q) → length (number_text (signed q x)) ≤ 21
    go (inl l) = let r = decimal-room 19 (suc (q - suc x)) (omega arith) in omega (arith, ap length (minus-text q x (le-leb q (x + x) l)))
    go (inr l) = let r = decimal-room 19 x (omega arith) in omega (arith, ap length (plus-text q x (lt-leb q (x + x) l)))

abbrev pub Small : List ℕ → Type 0
Small c = (j : ℕ) → get_or c j 0 < 0x1_0000_0000_0000_0000

others-room : (q : ℕ) (c : List ℕ) → q < 0x1_0000_0000_0000_0000 → Small c → length (further_numbers (signed_all q c)) ≤ 22 * length c
others-room q [] hq h = omega arith
others-room q (x ∷ c) hq h =
    omega (arith, written-room q x hq (h 0), others-room q c hq (λ j. h (suc j)), length-append (number_text (signed q x)) (further_numbers (signed_all q c)))

spaced-room : (q : ℕ) (c : List ℕ) → q < 0x1_0000_0000_0000_0000 → Small c → length (spaced (signed_all q c)) ≤ 22 * length c
spaced-room q [] hq h = omega arith
spaced-room q (x ∷ c) hq h =
    omega (arith, written-room q x hq (h 0), others-room q c hq (λ j. h (suc j)), length-append (number_text (signed q x)) (further_numbers (signed_all q c)))

small-take : (n : ℕ) (c : List ℕ) → Small c → Small (take n c)
small-take zero c h j = omega arith
small-take (suc n) [] h j = h j
small-take (suc n) (x ∷ c) h zero = h 0
small-take (suc n) (x ∷ c) h (suc j) = small-take n c (λ i. h (suc i)) j

pub lines-room : (rows cols q : ℕ) (c : List ℕ) → q < 0x1_0000_0000_0000_0000 → Small c → length (lines (rows_of rows cols (signed_all q c))) ≤ rows * (22 * cols + 1)
lines-room zero cols q c hq h = omega arith
lines-room (suc rows) cols q c hq h =
    let a = spaced-room q (take cols c) hq (small-take cols c h) in
    let l : length (take cols c) ≤ cols = omega (arith, length-take cols c) in
    let r = lines-room rows cols q (drop cols c) hq (λ j. subst (λ (y : ℕ). y < 0x1_0000_0000_0000_0000) (sym (get_or-drop cols c j 0)) (h (cols + j))) in
    let f = length-append (spaced (signed_all q (take cols c))) (10 ∷ lines (rows_of rows cols (signed_all q (drop cols c)))) in
    rw (take-map (signed q) cols c, drop-map (signed q) cols c) (omega (arith, suc-mul rows (22 * cols + 1)))

pub first-room : (answer steps : ℕ) → answer < 0x1_0000_0000_0000_0000 → steps < 0x1_0000_0000_0000_0000 → length (first_line answer steps) ≤ 55
first-room answer steps h k =
    omega (
      arith,
      decimal-room 19 answer (omega arith),
      decimal-room 19 steps (omega arith),
      length-append (decimal answer) (steps_word ++ (decimal steps ++ (10 ∷ []))),
      length-append (decimal steps) (10 ∷ []),
    )

pub page-room : (rows cols : ℕ) → rows ≤ 16 → cols ≤ 16 → rows * (22 * cols + 1) ≤ 5648
page-room rows cols hr hc = omega (arith, mul-le-mul_right (22 * cols + 1) hr)
