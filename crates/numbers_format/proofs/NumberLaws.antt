-- Laws of numbers in groups of seven bits: the reader finds exactly the permitted numbers, and the place of a fault.
use mathlib.Core.Path.{◌≡◌, refl, sym, ap, ap₂, ◌∙◌, subst}
use mathlib.Core.Bool.{Bool, true, false, cond, false≢true, true≢false}
use mathlib.Core.List.{List, [], ◌∷◌, ◌++◌}
use mathlib.Core.Logic.{◌⊎◌, inl, inr, ⊎_elim}
use Prim.Native.Nat.{ℕ, zero, suc, ◌+◌, ◌-◌, ◌*◌, ◌/◌, ◌%◌, ◌≤◌, ◌<◌}
use native.Mathlib.Nat.{not-suc-le-zero}
use native.Mathlib.Omega.{arith}
use lib.Dec.{ltb, leb}
use lib.Seq.{drop-append_seam}
use lib.ListN.{length, take, drop, get_or}
use borrow.Author.Tests.{ltb-true, ltb-false, leb-true, lt-ltb, le-ltb, le-leb, lt-leb}
use Rattle.numbers_format.specs.Numbers.{groups, encode, Interval, Among, ByteString}
use Rattle.numbers_format.specs.Parser.{holds, is_among, nonempty, after, afters, Got, grow, read_number}
use Rattle.numbers_format.specs.Parser.Got.{value, fault}
use Rattle.numbers_format.specs.Theorems.{NumbersApart}

-- ---- writing

groups-last : (f n : ℕ) → n < 128 → groups f n ≡ n ∷ []
unfolding groups
groups-last zero n h = refl
groups-last (suc f) n h = rw (lt-ltb n 128 h, groups)

groups-more : (f n : ℕ) → 128 ≤ n → groups (suc f) n ≡ (128 + n % 128) ∷ groups f (n / 128)
unfolding groups
groups-more f n h = rw (le-ltb n 128 h, groups)

groups-same : (f g n : ℕ) → n ≤ f → n ≤ g → groups f n ≡ groups g n
groups-same zero zero n hf hg = refl
groups-same zero (suc g) n hf hg = groups-last zero n (omega arith) ∙ sym (groups-last (suc g) n (omega arith))
groups-same (suc f) zero n hf hg = groups-last (suc f) n (omega arith) ∙ sym (groups-last zero n (omega arith))
groups-same (suc f) (suc g) n hf hg = go (λ h. groups-same f g (n / 128) (omega arith) (omega arith)) (ltb n 128) refl
  where
    go : (128 ≤ n → groups f (n / 128) ≡ groups g (n / 128)) → (b : Bool) → ltb n 128 ≡ b → groups (suc f) n ≡ groups (suc g) n
    go ih true e = groups-last (suc f) n (ltb-true n 128 e) ∙ sym (groups-last (suc g) n (ltb-true n 128 e))
    go ih false e =
        let h : 128 ≤ n = ltb-false n 128 e in
        groups-more f n h ∙ ap (λ (l : List ℕ). (128 + n % 128) ∷ l) (ih h) ∙ sym (groups-more g n h)

-- the two equations of the writer
pub encode-last : (n : ℕ) → n < 128 → encode n ≡ n ∷ []
unfolding encode
encode-last n h = groups-last n n h

pub encode-more : (n : ℕ) → 128 ≤ n → encode n ≡ (128 + n % 128) ∷ encode (n / 128)
unfolding encode
encode-more zero h = absurd (not-suc-le-zero h)
encode-more (suc n) h =
    groups-more n (suc n) h ∙ ap (λ (l : List ℕ). (128 + suc n % 128) ∷ l) (groups-same n (suc n / 128) (suc n / 128) (omega arith) (omega arith))

-- the same, from the group and the rest
pub encode-group : (g q : ℕ) → g < 128 → 0 < q → encode (g + 128 * q) ≡ (128 + g) ∷ encode q
encode-group g q hg hq =
    encode-more (g + 128 * q) (omega arith)
    ∙ ap₂ (λ (a b : ℕ). (128 + a) ∷ encode b) (omega arith) (omega arith)

two : (a b : Bool) → cond a b false ≡ true → (a ≡ true) × (b ≡ true)
two true b e = (refl, e)
two false b e = absurd (false≢true e)

either : (a b : Bool) → cond a true b ≡ true → (a ≡ true) ⊎ (b ≡ true)
either true b e = inl refl
either false b e = inr e

pub is_among-among : (n : ℕ) (rs : List Interval) → is_among n rs ≡ true → Among n rs
unfolding is_among
is_among-among n [] e = absurd (false≢true e)
is_among-among n (r ∷ rs) e =
    ⊎_elim (λ h. let w = two _ _ h in inl (leb-true _ _ w.0, leb-true _ _ w.1)) (λ h. inr (is_among-among n rs h))
    (either (holds n r) (is_among n rs) e)

pub among-is_among : (n : ℕ) (rs : List Interval) → Among n rs → is_among n rs ≡ true
unfolding is_among
among-is_among n [] h = absurd h
among-is_among n (r ∷ rs) (inl h) = rw (le-leb _ _ h.0, le-leb _ _ h.1)
among-is_among n (r ∷ rs) (inr h) = rw (among-is_among n rs h) (same (holds n r))
  where
    same : (b : Bool) → cond b true true ≡ true
    same true = refl
    same false = refl

pub nonempty-among : (rs : List Interval) → nonempty rs ≡ true → (n : ℕ) × Among n rs
unfolding nonempty
nonempty-among [] e = absurd (false≢true e)
nonempty-among (r ∷ rs) e =
    ⊎_elim (λ h. (r.low, inl (omega arith, leb-true _ _ h))) (λ h. let w = nonempty-among rs h in (w.0, inr w.1))
    (either (leb r.low r.high) (nonempty rs) e)

pub among-nonempty : (n : ℕ) (rs : List Interval) → Among n rs → nonempty rs ≡ true
unfolding nonempty
among-nonempty n [] h = absurd h
among-nonempty n (r ∷ rs) (inl h) = rw (le-leb r.low r.high (omega arith))
among-nonempty n (r ∷ rs) (inr h) = rw (among-nonempty n rs h) (same (leb r.low r.high))
  where
    same : (b : Bool) → cond b true true ≡ true
    same true = refl
    same false = refl

pub among-afters : (g n : ℕ) (rs : List Interval) → g < 128 → Among n (afters g rs) → (0 < n) × Among (g + 128 * n) rs
among-afters g n [] hg h = absurd h
among-afters g n (r ∷ rs) hg (inl h) = (omega arith, inl (omega arith))
among-afters g n (r ∷ rs) hg (inr h) = let w = among-afters g n rs hg h in (w.0, inr w.1)

pub afters-among : (g n : ℕ) (rs : List Interval) → g < 128 → 0 < n → Among (g + 128 * n) rs → Among n (afters g rs)
afters-among g n [] hg hn h = absurd h
afters-among g n (r ∷ rs) hg hn (inl h) = inl (omega arith)
afters-among g n (r ∷ rs) hg hn (inr h) = inr (afters-among g n rs hg hn h)

-- the input starts with the bytes of n, of which there are k
pub record Read (rs : List Interval) (s : List ℕ) (n k : ℕ) : Type 0 where
  pub permitted : Among n rs
  pub starts : s ≡ encode n ++ drop k s
  pub long : k ≡ length (encode n)

-- the first p bytes are the start of a permitted number's bytes, but no permitted number goes on with the next
pub record Stuck (rs : List Interval) (s : List ℕ) (p : ℕ) : Type 0 where
  pub there : p ≤ length s
  pub goes_on : (n : ℕ) × (rest : List ℕ) × Among n rs × (take p s ++ rest ≡ encode n)
  pub stops : p < length s → (n : ℕ) (u t : List ℕ) → Among n rs → take (suc p) s ++ u ≡ encode n ++ t → ⊥

abbrev pub Found : List Interval → List ℕ → Got → Type 0
Found rs s (value n k) = Read rs s n k
Found rs s (fault p) = Stuck rs s p

-- a byte in front of some is the start of a number's bytes only so
spells : (b : ℕ) (u : List ℕ) (n : ℕ) (t : List ℕ) → b ∷ u ≡ encode n ++ t
    → ((n < 128) × (b ≡ n) × (u ≡ t)) ⊎ ((128 ≤ n) × (b ≡ 128 + n % 128) × (u ≡ encode (n / 128) ++ t))
spells b u n t e = go (ltb n 128) refl
  where
    go : (c : Bool) → ltb n 128 ≡ c → ((n < 128) × (b ≡ n) × (u ≡ t)) ⊎ ((128 ≤ n) × (b ≡ 128 + n % 128) × (u ≡ encode (n / 128) ++ t))
    go true h =
        let e' : b ∷ u ≡ n ∷ t = e ∙ ap (λ (l : List ℕ). l ++ t) (encode-last n (ltb-true n 128 h)) in
        inl (ltb-true n 128 h, ap (λ (l : List ℕ). get_or l 0 0) e', ap (drop 1) e')
    go false h =
        let e' : b ∷ u ≡ (128 + n % 128) ∷ (encode (n / 128) ++ t) = e ∙ ap (λ (l : List ℕ). l ++ t) (encode-more n (ltb-false n 128 h)) in
        inr (ltb-false n 128 h, ap (λ (l : List ℕ). get_or l 0 0) e', ap (drop 1) e')

module _ (rs : List Interval) (b : ℕ) (s : List ℕ) (any : nonempty rs ≡ true) where
  -- a last group
  last-right : b < 128 → (c : Bool) → is_among b rs ≡ c → Found rs (b ∷ s) (cond c (value b 1) (fault 0))
  last-right h true e = record { permitted = is_among-among b rs e; starts = ap (λ (l : List ℕ). l ++ s) (sym (encode-last b h)); long = ap length (sym (encode-last b h)) }
  last-right h false e =
      record {
        there = omega arith;
        goes_on = let w = nonempty-among rs any in (w.0, encode w.0, w.1, refl);
        stops = λ k n u t i q. ⊎_elim
            (λ w. true≢false (sym (among-is_among b rs (subst (λ (x : ℕ). Among x rs) (sym w.1) i)) ∙ e))
            (λ w. omega arith)
            (spells b u n t q);
      }

  -- a group that another follows
  none_right : 128 ≤ b → b < 256 → nonempty (afters (b - 128) rs) ≡ false → Stuck rs (b ∷ s) 0
  none_right h l e =
      record {
        there = omega arith;
        goes_on = let w = nonempty-among rs any in (w.0, encode w.0, w.1, refl);
        stops = λ k n u t i q. ⊎_elim
            (λ w. omega arith)
            (λ w. true≢false (sym (among-nonempty (n / 128) (afters (b - 128) rs) (afters-among (b - 128) (n / 128) rs (omega arith) (omega arith) (subst (λ (x : ℕ). Among x rs) (omega arith) i))) ∙ e))
            (spells b u n t q);
      }

  grow-right : 128 ≤ b → b < 256 → (r : Got) → Found (afters (b - 128) rs) s r → Found rs (b ∷ s) (grow (b - 128) r)
  grow-right h l (value n k) r =
      let g : ℕ = b - 128 in
      let w = among-afters g n rs (omega arith) r.permitted in
      let e : encode (g + 128 * n) ≡ b ∷ encode n = encode-group g n (omega arith) w.0 ∙ ap (λ (x : ℕ). x ∷ encode n) (omega arith) in
      record {
        permitted = w.1;
        starts = ap (λ (l : List ℕ). b ∷ l) r.starts ∙ ap (λ (l : List ℕ). l ++ drop k s) (sym e);
        long = ap suc r.long ∙ ap length (sym e);
      }
  grow-right h l (fault p) r =
      let g : ℕ = b - 128 in
      let n : ℕ = r.goes_on.0 in
      let w = among-afters g n rs (omega arith) r.goes_on.2 in
      let e : encode (g + 128 * n) ≡ b ∷ encode n = encode-group g n (omega arith) w.0 ∙ ap (λ (x : ℕ). x ∷ encode n) (omega arith) in
      record {
        there = omega (arith, r.there);
        goes_on = (g + 128 * n, r.goes_on.1, w.1, ap (λ (l : List ℕ). b ∷ l) r.goes_on.3 ∙ sym e);
        stops = λ k m u t i q. ⊎_elim
            (λ v. omega arith)
            (λ v. r.stops (omega arith) (m / 128) u t (afters-among g (m / 128) rs (omega arith) (omega arith) (subst (λ (x : ℕ). Among x rs) (omega arith) i)) v.2)
            (spells b (take (suc p) s ++ u) m t q);
      }

pub number-right : (rs : List Interval) (s : List ℕ) → ByteString s → nonempty rs ≡ true → Found rs s (read_number rs s)
unfolding read_number
number-right rs [] hs any = record { there = omega arith; goes_on = let w = nonempty-among rs any in (w.0, encode w.0, w.1, refl); stops = λ k. absurd (not-suc-le-zero k) }
number-right rs (b ∷ s) hs any =
    go (ltb b 128) refl (nonempty (afters (b - 128) rs)) refl (number-right (afters (b - 128) rs) s hs.1)
  where
    go : (c : Bool) → ltb b 128 ≡ c → (d : Bool) → nonempty (afters (b - 128) rs) ≡ d
        → (nonempty (afters (b - 128) rs) ≡ true → Found (afters (b - 128) rs) s (read_number (afters (b - 128) rs) s))
        → Found rs (b ∷ s) (cond c (cond (is_among b rs) (value b 1) (fault 0)) (cond d (grow (b - 128) (read_number (afters (b - 128) rs) s)) (fault 0)))
    go true e d f ih = last-right rs b s any (ltb-true b 128 e) (is_among b rs) refl
    go false e true f ih = grow-right rs b s any (ltb-false b 128 e) hs.0 (read_number (afters (b - 128) rs) s) (ih f)
    go false e false f ih = none_right rs b s any (ltb-false b 128 e) hs.0 f

-- ---- and back: what is right is what the reader finds

-- one byte, at its two tests
pub reads-last : (rs : List Interval) (b : ℕ) (t : List ℕ) → b < 128 → Among b rs → read_number rs (b ∷ t) ≡ value b 1
unfolding read_number
reads-last rs b t h i = rw (lt-ltb b 128 h, among-is_among b rs i)

pub reads_more : (rs : List Interval) (b : ℕ) (t : List ℕ) (n : ℕ) → 128 ≤ b → Among n (afters (b - 128) rs)
    → read_number rs (b ∷ t) ≡ grow (b - 128) (read_number (afters (b - 128) rs) t)
unfolding read_number
reads_more rs b t n h i = rw (le-ltb b 128 h, among-nonempty n (afters (b - 128) rs) i)

abbrev Back : ℕ → Type 0
Back n = (rs : List Interval) (t : List ℕ) → Among n rs → read_number rs (encode n ++ t) ≡ value n (length (encode n))

back_last : (n : ℕ) → n < 128 → Back n
back_last n h rs t i = rw (encode-last n h) (reads-last rs n t h i)

back_more : (n : ℕ) → 128 ≤ n → Back (n / 128) → Back n
back_more n h ih rs t i =
    let b : ℕ = 128 + n % 128 in
    let i' : Among (n / 128) (afters (b - 128) rs) = afters-among (b - 128) (n / 128) rs (omega arith) (omega arith) (subst (λ (x : ℕ). Among x rs) (omega arith) i) in
    rw (encode-more n h)
    (reads_more rs b (encode (n / 128) ++ t) (n / 128) (omega arith) i'
    ∙ ap (grow (b - 128)) (ih (afters (b - 128) rs) t i')
    ∙ ap (λ (x : ℕ). value x (suc (length (encode (n / 128))))) (omega arith))

back-upto : (f n : ℕ) → n ≤ f → Back n
back-upto zero n h = back_last n (omega arith)
back-upto (suc f) n h = split (back_last n) (λ k. back_more n k (back-upto f (n / 128) (omega arith)))
  where
    split : (n < 128 → Back n) → (128 ≤ n → Back n) → Back n
    split p q = pick_by (ltb n 128) refl
      where
        pick_by : (c : Bool) → ltb n 128 ≡ c → Back n
        pick_by true e = p (ltb-true n 128 e)
        pick_by false e = q (ltb-false n 128 e)

-- the bytes of a permitted number, whatever follows them, are read as that number
pub read_back : (rs : List Interval) (n : ℕ) (t : List ℕ) → Among n rs → read_number rs (encode n ++ t) ≡ value n (length (encode n))
read_back rs n t i = back-upto n n (omega arith) rs t i

abbrev upto : ℕ → List Interval
upto n = record { low = 0; high = n } ∷ []

value_of : Got → ℕ
value_of (value n k) = n
value_of (fault p) = p

-- no number's bytes begin another's
pub encode-apart : NumbersApart
unfolding value_of
encode-apart n m t u e =
    let same : n ≡ m = ap value_of (sym (read_back (upto (n + m)) n t (inl (omega arith))) ∙ ap (read_number (upto (n + m))) e ∙ read_back (upto (n + m)) m u (inl (omega arith))) in
    (same, sym (drop-append_seam (encode n) t) ∙ ap (drop (length (encode n))) e ∙ ap (λ (x : ℕ). drop (length (encode x)) (encode m ++ u)) same ∙ drop-append_seam (encode m) u)

-- ---- an empty range changes nothing

after-empty : (g : ℕ) (r : Interval) → r.high < r.low → (after g r).high < (after g r).low
after-empty g r h = omega arith

pub read-empty : (r : Interval) (rs : List Interval) (s : List ℕ) → r.high < r.low → read_number (r ∷ rs) s ≡ read_number rs s
unfolding read_number is_among nonempty
read-empty r rs [] h = refl
read-empty r rs (b ∷ s) h =
    let g : ℕ = b - 128 in
    rw (lt-leb (after g r).low (after g r).high (after-empty g r h), read-empty (after g r) (afters g rs) s (after-empty g r h), no (leb r.low b) refl (leb b r.high) refl)
  where
    no : (x : Bool) → leb r.low b ≡ x → (y : Bool) → leb b r.high ≡ y → cond (leb r.low b) (leb b r.high) false ≡ false
    no false ex y ey = rw ex
    no true ex false ey = rw (ex, ey)
    no true ex true ey = absurd (omega (arith, leb-true r.low b ex, leb-true b r.high ey))
