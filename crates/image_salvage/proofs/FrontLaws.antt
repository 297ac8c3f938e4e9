-- Laws of fronts: what is read at the front of an input goes by its bytes alone, and a format that goes on behind it is parsed behind it.
use mathlib.Core.Path.{◌≡◌, refl, sym, ap, ◌∙◌, subst}
use mathlib.Core.Bool.{Bool, true, false}
use mathlib.Core.List.{List, [], ◌∷◌, ◌++◌}
use Prim.Native.Nat.{ℕ, zero, suc, ◌+◌, ◌≤◌}
use native.Mathlib.Omega.{arith}
use lib.Dec.{leb}
use lib.ListN.{length, take, drop, length-take, length-drop, take-append-drop}
use lib.Seq.{take-take, take-add, drop-drop, take_at, drop_at, length-take-le}
use borrow.Author.Tests.{leb-true, le-leb}
use Rattle.numbers_format.specs.Numbers.{Interval, encode, ByteString}
use Rattle.numbers_format.specs.Formats.{Format}
use Rattle.numbers_format.specs.Formats.Format.{done, number, bytes}
use Rattle.numbers_format.specs.Parser.{Got, read_number, Parsed, later, parse}
use Rattle.numbers_format.specs.Parser.Got.{value, fault}
use Rattle.numbers_format.specs.Parser.Parsed.{whole, stopped}
use Rattle.numbers_format.proofs.NumberLaws.{Read, Found, among-nonempty, number-right, read_back}
use Rattle.numbers_coded.specs.At.{found}
use Rattle.numbers_coded.proofs.FromLaws.{took_in}
use Rattle.image_salvage.specs.Fronts.{Front, behind, front}
use Rattle.image_salvage.specs.Fronts.Front.{ahead, stuck}

pub bytes_drop : (n : ℕ) (s : List ℕ) → ByteString s → ByteString (drop n s)
bytes_drop zero s h = h
bytes_drop (suc n) [] h = h
bytes_drop (suc n) (b ∷ s) h = bytes_drop n s h.1

-- the same bytes behind n of them
pub take_behind : (n m : ℕ) (s t : List ℕ) → n ≤ length s → n ≤ length t → take (n + m) t ≡ take (n + m) s → take m (drop n t) ≡ take m (drop n s)
take_behind n m s t hs ht e = sym (split t ht) ∙ ap (drop n) e ∙ split s hs
  where
    split : (s : List ℕ) → n ≤ length s → drop n (take (n + m) s) ≡ take m (drop n s)
    split s h = ap (drop n) (take-add n m s) ∙ drop_at (take n s) (take m (drop n s)) n (length-take-le n s h)

-- and before
pub take-before : (n m : ℕ) (s t : List ℕ) → n ≤ m → take m t ≡ take m s → take n t ≡ take n s
take-before n m s t h e = sym (take-take n m t h) ∙ ap (take n) e ∙ take-take n m s h

-- as many bytes are there
pub as_long : (k : ℕ) (s t : List ℕ) → k ≤ length s → take k t ≡ take k s → k ≤ length t
as_long k s t h e = let l : length (take k t) ≡ length (take k s) = ap length e in omega (arith, length-take k t, length-take k s)

-- ---- a number

pub read_is : (rs : List Interval) (s : List ℕ) (n l : ℕ) → ByteString s → read_number rs s ≡ value n l → Read rs s n l
read_is rs s n l b e = subst (Found rs s) e (number-right rs s b (among-nonempty n rs (took_in rs s 0 n (0 + l) (ap (found 0) e)).0))

module _ (rs : List Interval) (s : List ℕ) (n l : ℕ) (r : Read rs s n l) where
  read-bytes : take l s ≡ encode n
  read-bytes = ap (take l) r.starts ∙ take_at (encode n) (drop l s) l (sym r.long)

  read-there : l ≤ length s
  read-there = let e : length (take l s) ≡ length (encode n) = ap length read-bytes in omega (arith, length-take l s, r.long)

  read_again : (t : List ℕ) → take l t ≡ take l s → read_number rs t ≡ value n l
  read_again t e =
      let is : t ≡ encode n ++ drop l t = sym (take-append-drop l t) ∙ ap (λ (z : List ℕ). z ++ drop l t) (e ∙ read-bytes) in
      ap (read_number rs) is ∙ read_back rs n (drop l t) r.permitted ∙ ap (value n) (sym r.long)

-- ---- a format

module _ {X : Type 0} where
  -- what is read at the front of s takes k bytes of it, and is read at the front of every input that starts with these
  pub record Ahead (f : Format X) (s : List ℕ) (x : X) (k : ℕ) : Type 0 where
    pub there : k ≤ length s
    pub again : (t : List ℕ) → take k t ≡ take k s → front f t ≡ ahead x k

  pub ahead-one : (x y : X) (k l : ℕ) → ahead x k ≡ ahead y l → (x ≡ y) × (k ≡ l)
  ahead-one x y k l e = (cc, cc)

  pub stuck-never : (x : X) (k p : ℕ) → stuck p ≡ ahead x k → ⊥
  stuck-never x k p e = let z : ◌≡◌ {A = ℕ} 0 1 = cc in absurd (omega arith)

  -- behind l bytes
  module _ (f g : Format X) (s : List ℕ) (l : ℕ) (here : l ≤ length s) (goes : (t : List ℕ) → take l t ≡ take l s → front g t ≡ behind l (front f (drop l t))) where
    ahead-behind : (x : X) (k : ℕ) → Ahead f (drop l s) x k → Ahead g s x (l + k)
    ahead-behind x k a = record {
      there = omega (arith, a.there, length-drop l s);
      again = λ t e.
          let long : l + k ≤ length t = as_long (l + k) s t (omega (arith, a.there, length-drop l s)) e in
          goes t (take-before l (l + k) s t (omega arith) e)
          ∙ ap (behind l) (a.again (drop l t) (take_behind l k s t here (omega arith) e));
    }

  pub front-ahead : (f : Format X) (s : List ℕ) → ByteString s → (x : X) (k : ℕ) → front f s ≡ ahead x k → Ahead f s x k
  unfolding front
  front-ahead (done y) s b x k e = record { there = let z = ahead-one y x 0 k e in omega arith; again = λ t q. e }
  front-ahead (number rs j) s b x k e = by (read_number rs s) refl (λ n l. front-ahead (j n) (drop l s) (bytes_drop l s b)) e
    where
      by : (g : Got) → read_number rs s ≡ g → ((n l : ℕ) (y : X) (m : ℕ) → front (j n) (drop l s) ≡ ahead y m → Ahead (j n) (drop l s) y m)
          → elim g [ value n l ↦ behind l (front (j n) (drop l s)) | fault p ↦ stuck p ] ≡ ahead x k → Ahead (number rs j) s x k
      by (fault p) h ih e = absurd (stuck-never x k p e)
      by (value n l) h ih e = go (front (j n) (drop l s)) refl e
        where
          r : Read rs s n l
          r = read_is rs s n l b h

          again : (t : List ℕ) → take l t ≡ take l s → front (number rs j) t ≡ behind l (front (j n) (drop l t))
          again t q = rw (read_again rs s n l r t q, front)

          go : (q : Front X) → front (j n) (drop l s) ≡ q → behind l q ≡ ahead x k → Ahead (number rs j) s x k
          go (stuck p) h e = absurd (stuck-never x k (l + p) e)
          go (ahead y m) h e =
              let z = ahead-one y x (l + m) k e in
              subst (λ (v : X). Ahead (number rs j) s v k) z.0
              (subst (Ahead (number rs j) s y) z.1 (ahead-behind (j n) (number rs j) s l (read-there rs s n l r) again y m (ih n l y m h)))
  front-ahead (bytes m j) s b x k e = by (leb m (length s)) refl (front-ahead (j (take m s)) (drop m s) (bytes_drop m s b)) e
    where
      by : (g : Bool) → leb m (length s) ≡ g → ((y : X) (l : ℕ) → front (j (take m s)) (drop m s) ≡ ahead y l → Ahead (j (take m s)) (drop m s) y l)
          → elim g [ true ↦ behind m (front (j (take m s)) (drop m s)) | false ↦ stuck (length s) ] ≡ ahead x k → Ahead (bytes m j) s x k
      by false h ih e = absurd (stuck-never x k (length s) e)
      by true h ih e = go (front (j (take m s)) (drop m s)) refl e
        where
          here : m ≤ length s
          here = leb-true m (length s) h

          again : (t : List ℕ) → take m t ≡ take m s → front (bytes m j) t ≡ behind m (front (j (take m s)) (drop m t))
          again t q = rw (le-leb m (length t) (as_long m s t here q), front, q)

          go : (q : Front X) → front (j (take m s)) (drop m s) ≡ q → behind m q ≡ ahead x k → Ahead (bytes m j) s x k
          go (stuck p) h e = absurd (stuck-never x k (m + p) e)
          go (ahead y l) h e =
              let z = ahead-one y x (m + l) k e in
              subst (λ (v : X). Ahead (bytes m j) s v k) z.0
              (subst (Ahead (bytes m j) s y) z.1 (ahead-behind (j (take m s)) (bytes m j) s m here again y l (ih y l h)))

  -- what was read, field by field
  pub number-ahead : (rs : List Interval) (j : ℕ → Format X) (s : List ℕ) (x : X) (k : ℕ) → front (number rs j) s ≡ ahead x k
      → (n : ℕ) × (l : ℕ) × (m : ℕ) × (read_number rs s ≡ value n l) × (front (j n) (drop l s) ≡ ahead x m) × (k ≡ l + m)
  unfolding front
  number-ahead rs j s x k e = by (read_number rs s) refl e
    where
      Goal : Type 0
      Goal = (n : ℕ) × (l : ℕ) × (m : ℕ) × (read_number rs s ≡ value n l) × (front (j n) (drop l s) ≡ ahead x m) × (k ≡ l + m)

      by : (g : Got) → read_number rs s ≡ g → elim g [ value n l ↦ behind l (front (j n) (drop l s)) | fault p ↦ stuck p ] ≡ ahead x k → Goal
      by (fault p) h e = absurd (stuck-never x k p e)
      by (value n l) h e = go (front (j n) (drop l s)) refl e
        where
          go : (q : Front X) → front (j n) (drop l s) ≡ q → behind l q ≡ ahead x k → Goal
          go (stuck p) i e = absurd (stuck-never x k (l + p) e)
          go (ahead y m) i e = let z = ahead-one y x (l + m) k e in (n, l, m, h, i ∙ ap (λ (v : X). ahead v m) z.0, sym z.1)

  pub bytes-ahead : (n : ℕ) (j : List ℕ → Format X) (s : List ℕ) (x : X) (k : ℕ) → front (bytes n j) s ≡ ahead x k
      → (m : ℕ) × (n ≤ length s) × (front (j (take n s)) (drop n s) ≡ ahead x m) × (k ≡ n + m)
  unfolding front
  bytes-ahead n j s x k e = by (leb n (length s)) refl e
    where
      Goal : Type 0
      Goal = (m : ℕ) × (n ≤ length s) × (front (j (take n s)) (drop n s) ≡ ahead x m) × (k ≡ n + m)

      by : (g : Bool) → leb n (length s) ≡ g → elim g [ true ↦ behind n (front (j (take n s)) (drop n s)) | false ↦ stuck (length s) ] ≡ ahead x k → Goal
      by false h e = absurd (stuck-never x k (length s) e)
      by true h e = go (front (j (take n s)) (drop n s)) refl e
        where
          go : (q : Front X) → front (j (take n s)) (drop n s) ≡ q → behind n q ≡ ahead x k → Goal
          go (stuck p) i e = absurd (stuck-never x k (n + p) e)
          go (ahead y m) i e = let z = ahead-one y x (n + m) k e in (m, leb-true n (length s) h, i ∙ ap (λ (v : X). ahead v m) z.0, sym z.1)

-- ---- a format that goes on

-- what is read of g, which is f and then K
abbrev pub onto : {X Y : Type 0} → (X → Format Y) → List ℕ → Front X → Parsed Y
onto K s (ahead x k) = later k (parse (K x) (drop k s))
onto K s (stuck p) = stopped p

abbrev pub Then : {X Y : Type 0} → (X → Format Y) → Format X → Format Y → Type 0
Then K f g = (s : List ℕ) → parse g s ≡ onto K s (front f s)

module _ {X Y : Type 0} (K : X → Format Y) where
  later-later : (a b : ℕ) (q : Parsed Y) → later a (later b q) ≡ later (a + b) q
  later-later a b (whole x) = refl
  later-later a b (stopped p) = ap stopped (omega arith)

  onto-behind : (s : List ℕ) (l : ℕ) (q : Front X) → later l (onto K (drop l s) q) ≡ onto K s (behind l q)
  onto-behind s l (ahead x k) = later-later l k (parse (K x) (drop k (drop l s))) ∙ ap (λ (z : List ℕ). later (l + k) (parse (K x) z)) (drop-drop k l s)
  onto-behind s l (stuck p) = refl

  pub then-done : (x : X) → Then K (done x) (K x)
  unfolding front
  then-done x s = go (parse (K x) s)
    where
      go : (q : Parsed Y) → q ≡ later 0 q
      go (whole y) = refl
      go (stopped p) = ap stopped (omega arith)

  pub then-number : (rs : List Interval) (f : ℕ → Format X) (g : ℕ → Format Y) → ((n : ℕ) → Then K (f n) (g n)) → Then K (number rs f) (number rs g)
  unfolding front parse
  then-number rs f g h s = go (read_number rs s)
    where
      go : (q : Got) → ◌≡◌ {A = Parsed Y} (elim q [ value n l ↦ later l (parse (g n) (drop l s)) | fault p ↦ stopped p ]) (onto K s (elim q [ value n l ↦ behind l (front (f n) (drop l s)) | fault p ↦ stuck p ]))
      go (value n l) = ap (later l) (h n (drop l s)) ∙ onto-behind s l (front (f n) (drop l s))
      go (fault p) = refl

  pub then-bytes : (m : ℕ) (f : List ℕ → Format X) (g : List ℕ → Format Y) → ((b : List ℕ) → length b ≡ m → Then K (f b) (g b)) → Then K (bytes m f) (bytes m g)
  unfolding front parse
  then-bytes m f g h s = go (leb m (length s)) refl
    where
      go : (q : Bool) → leb m (length s) ≡ q
          → ◌≡◌ {A = Parsed Y} (elim q [ true ↦ later m (parse (g (take m s)) (drop m s)) | false ↦ stopped (length s) ]) (onto K s (elim q [ true ↦ behind m (front (f (take m s)) (drop m s)) | false ↦ stuck (length s) ]))
      go true e = ap (later m) (h (take m s) (length-take-le m s (leb-true m (length s) e)) (drop m s)) ∙ onto-behind s m (front (f (take m s)) (drop m s))
      go false e = refl
