-- A line along a row's text, and along the table.
use mathlib.Core.Path.{◌≡◌, refl, sym, ap, ap₂, ◌∙◌}
use mathlib.Core.Bool.{Bool, true, false, cond, ◌&&◌, ◌||◌}
use mathlib.Core.List.{List, [], ◌∷◌, map}
use mathlib.Core.Logic.{inl, inr}
use Prim.Native.Nat.{ℕ, zero, suc, ◌+◌, ◌*◌, ◌^◌, ◌≤◌, ◌<◌, max}
use native.Mathlib.Numerals.{add-one}
use native.Mathlib.Omega.{arith}
use lib.Dec.{ltb, leb, eqb}
use lib.ListN.{length, drop, take, get_or, drop_of_length-le, length-append, length-drop}
use lib.Seq.{drop-cons, drop-drop}
use borrow.Author.Tests.{leb-true, ltb-true}
use Rattle.machine.specs.Listing.{Row, listing}
use Rattle.machine.proofs.TestLaws.{and_left, and_right}
use Rattle.numbers_format.specs.Parser.{Got, Parsed, later}
use Rattle.numbers_format.specs.Parser.Got.{value, fault}
use Rattle.numbers_format.specs.Parser.Parsed.{whole, stopped}
use Rattle.text_assembly.specs.Bytes.{bytes}
use Rattle.text_assembly.specs.Lines.{below, wide, small, letter, operand_count, shown, is_mark, operand_of, piece_of, pieces, word_with}
use Rattle.text_assembly.specs.Reading.{read_decimal, read_operand, with_first, read_pieces, as_word, either, read_in, read_line}
use Rattle.text_assembly.proofs.DecimalLaws.{ReadTo, read_right}
use Rattle.text_assembly.proofs.OperandLaws.{Some, Found, operand-right}
use Rattle.text_assembly.proofs.LineLaws.{Among}
use Rattle.text_read.proofs.NameLaws.{row-stops, row-finds}
use lib.ListN.{length-map}
use Rattle.std.specs.Prelude as Prelude
use Rattle.std.specs.Prelude.{Result, Ok, Err}
use Rattle.text_read.specs.declared.Number.{Number}
use Rattle.text_read.specs.declared.Fault.{Fault}
use Rattle.text_read.specs.declared.Operand.{Operand}
use Rattle.text_read.specs.declared.Operand.TheVariants.{Register, Tile, Accumulator, Immediate, SignedImmediate}
use Rattle.text_read.specs.Table.{IsTable, base_of, no_row, row_at}
use Rattle.text_read.specs.Parts.{fault_at, got_from, as_line, meant_by, operand_in, next_scale, end_at, onward, past_letter, row_from, read_row, space_in}

-- ---- what was read, from the equation of a contract

pub value-is : {r t : Number} → ◌≡◌ {A = Result Number Fault} (Ok r) (Ok t) → (r.value ≡ t.value) × (r.next ≡ t.next)
value-is {r} {t} e = let p : r ≡ t = cc in (ap (λ (x : Number). x.value) p, ap (λ (x : Number). x.next) p)

pub fault-is : {r t : Fault} → ◌≡◌ {A = Result Number Fault} (Err r) (Err t) → r.place ≡ t.place
fault-is {r} {t} e = let p : r ≡ t = cc in ap (λ (x : Fault). x.place) p

pub not-fault : {r : Number} {t : Fault} → ◌≡◌ {A = Result Number Fault} (Ok r) (Err t) → ⊥
not-fault e = cc

pub not-value : {r : Number} {t : Fault} → ◌≡◌ {A = Result Number Fault} (Err t) (Ok r) → ⊥
not-value e = cc

-- ---- the signed immediate

pub decimal-bound : (least most at : ℕ) (s : List ℕ) (r : Number) → least ≤ 1 → least ≤ most → Ok r ≡ got_from at (read_decimal least most s) → r.value ≤ most
decimal-bound least most at s r a b e = go (read_decimal least most s) (read_right least most a b s) e
  where
    go : (g : Got) → ReadTo least most s g → Ok r ≡ got_from at g → r.value ≤ most
    go (fault p) z e = absurd (not-fault e)
    go (value v l) z e = omega (arith, (value-is e).0, z.permitted.1)

-- ---- operands

some-operand : (o : Operand) → Some (meant_by o) × (operand_count (meant_by o) ≤ 8192)
some-operand Register = (omega arith, omega arith)
some-operand Tile = (omega arith, omega arith)
some-operand Accumulator = (omega arith, omega arith)
some-operand Immediate = (tt, omega arith)
some-operand SignedImmediate = (tt, omega arith)

pub operand-bound : (o : Operand) (at : ℕ) (s : List ℕ) → at ≤ length s → (r : Number) → Ok r ≡ got_from at (read_operand (meant_by o) (drop at s)) → (r.value ≤ 8191) × (r.next ≤ length s)
operand-bound o at s h r e = go (read_operand (meant_by o) (drop at s)) (operand-right (meant_by o) (some-operand o).0 (drop at s)) e
  where
    go : (g : Got) → Found (meant_by o) (drop at s) g → Ok r ≡ got_from at g → (r.value ≤ 8191) × (r.next ≤ length s)
    go (fault p) z e = absurd (not-fault e)
    go (value v l) z e =
        let q = value-is e in
        let size = ap length z.starts ∙ length-append (shown (meant_by o) v) (drop l (drop at s)) in
        (omega (arith, q.0, z.permitted, (some-operand o).1), omega (arith, q.1, size, z.long, length-drop at s))

-- a letter that stands for an operand is a mark, and another is none
pub mark-is : (c : ℕ) (o : Operand) → Prelude.Some o ≡ operand_in c → (is_mark c ≡ true) × (operand_of c ≡ meant_by o)
mark-is c o e = go (eqb c 88) (eqb c 84) (eqb c 65) (eqb c 73) (eqb c 83) e
  where
    go : (x t a i s : Bool)
        → Prelude.Some o ≡ cond x (Prelude.Some Register) (cond t (Prelude.Some Tile) (cond a (Prelude.Some Accumulator) (cond i (Prelude.Some Immediate) (cond s (Prelude.Some SignedImmediate) Prelude.None))))
        → (x || (t || (a || (i || (s || false)))) ≡ true) × (cond x (below 32) (cond t (below 8) (cond a (below 2) (cond i wide small))) ≡ meant_by o)
    go true t a i s e = let p : o ≡ Register = cc in (refl, sym (ap meant_by p))
    go false true a i s e = let p : o ≡ Tile = cc in (refl, sym (ap meant_by p))
    go false false true i s e = let p : o ≡ Accumulator = cc in (refl, sym (ap meant_by p))
    go false false false true s e = let p : o ≡ Immediate = cc in (refl, sym (ap meant_by p))
    go false false false false true e = let p : o ≡ SignedImmediate = cc in (refl, sym (ap meant_by p))
    go false false false false false e = absurd cc

pub no-mark : (c : ℕ) → Prelude.None ≡ operand_in c → is_mark c ≡ false
no-mark c e = go (eqb c 88) (eqb c 84) (eqb c 65) (eqb c 73) (eqb c 83) e
  where
    go : (x t a i s : Bool)
        → Prelude.None ≡ cond x (Prelude.Some Register) (cond t (Prelude.Some Tile) (cond a (Prelude.Some Accumulator) (cond i (Prelude.Some Immediate) (cond s (Prelude.Some SignedImmediate) Prelude.None))))
        → x || (t || (a || (i || (s || false)))) ≡ false
    go true t a i s e = absurd cc
    go false true a i s e = absurd cc
    go false false true i s e = absurd cc
    go false false false true s e = absurd cc
    go false false false false true e = absurd cc
    go false false false false false e = refl

-- ---- a letter of a row's text

module _ (s : List ℕ) (c at scale w : ℕ) where
  module _ (o : Operand) (m : (is_mark c ≡ true) × (operand_of c ≡ meant_by o)) where
    marked : (t : List ℕ) → row_from (c ∷ t) (drop at s) at scale w
        ≡ onward (read_operand (meant_by o) (drop at s)) at (λ v l. row_from t (drop l (drop at s)) (at + l) (next_scale scale) (w + v * scale))
    marked t =
        let a = m.0 in
        rw a (ap (λ (p : _). onward (read_operand p (drop at s)) at (λ v l. row_from t (drop l (drop at s)) (at + l) (next_scale scale) (w + v * scale))) m.1)

    pub mark-value : (r : Number) → Ok r ≡ got_from at (read_operand (meant_by o) (drop at s)) → (t : List ℕ)
        → row_from (c ∷ t) (drop at s) at scale w ≡ row_from t (drop r.next s) r.next (next_scale scale) (w + r.value * scale)
    mark-value r e t = marked t ∙ go (read_operand (meant_by o) (drop at s)) e
      where
        go : (g : Got) → Ok r ≡ got_from at g → onward g at (λ v l. row_from t (drop l (drop at s)) (at + l) (next_scale scale) (w + v * scale)) ≡ row_from t (drop r.next s) r.next (next_scale scale) (w + r.value * scale)
        go (fault p) e = absurd (not-fault e)
        go (value v l) e =
            let q = value-is e in
            ap (λ (z : List ℕ). row_from t z (at + l) (next_scale scale) (w + v * scale)) (drop-drop l at s)
            ∙ ap₂ (λ (x y : ℕ). row_from t (drop x s) x (next_scale scale) (w + y * scale)) (sym q.1) (sym q.0)

    pub mark-fault : (r : Fault) → Err r ≡ got_from at (read_operand (meant_by o) (drop at s)) → (t : List ℕ) → row_from (c ∷ t) (drop at s) at scale w ≡ stopped r.place
    mark-fault r e t = marked t ∙ go (read_operand (meant_by o) (drop at s)) e
      where
        go : (g : Got) → Err r ≡ got_from at g → onward g at (λ v l. row_from t (drop l (drop at s)) (at + l) (next_scale scale) (w + v * scale)) ≡ stopped r.place
        go (value v l) e = absurd (not-value e)
        go (fault p) e = ap stopped (sym (fault-is e))

-- ---- the whole text of a row

-- values from a place in the word on
abbrev pub placed : ℕ → List ℕ → ℕ
placed scale [] = 0
placed scale (v ∷ vs) = v * scale + placed (next_scale scale) vs

abbrev from_pieces : (j scale w : ℕ) → Parsed (List ℕ) → Parsed ℕ
from_pieces j scale w (whole vs) = whole (w + placed scale vs)
from_pieces j scale w (stopped p) = stopped (j + p)

end_is : (s : List ℕ) (j scale w : ℕ) → end_at s j w ≡ from_pieces j scale w (read_pieces [] s)
end_is [] j scale w = let e : w ≡ w + 0 = omega arith in ap whole e
end_is (b ∷ s) j scale w = let e : j ≡ j + 0 = omega arith in ap stopped e

first-later : (v l j scale w : ℕ) (q : Parsed (List ℕ)) → from_pieces (j + l) (next_scale scale) (w + v * scale) q ≡ from_pieces j scale w (with_first v (later l q))
first-later v l j scale w (whole vs) = let e : w + v * scale + placed (next_scale scale) vs ≡ w + (v * scale + placed (next_scale scale) vs) = omega arith in ap whole e
first-later v l j scale w (stopped p) = let e : j + l + p ≡ j + (l + p) = omega arith in ap stopped e

later-one : (j scale w : ℕ) (q : Parsed (List ℕ)) → from_pieces (j + 1) scale w q ≡ from_pieces j scale w (later 1 q)
later-one j scale w (whole vs) = refl
later-one j scale w (stopped p) = let e : j + 1 + p ≡ j + (1 + p) = omega arith in ap stopped e

module _ (c : ℕ) (t : List ℕ)
    (ih : (s : List ℕ) (j scale w : ℕ) → row_from t s j scale w ≡ from_pieces j scale w (read_pieces (map piece_of t) s)) (s : List ℕ) (j scale w : ℕ) where
  abbrev Goal : Type 0
  Goal = row_from (c ∷ t) s j scale w ≡ from_pieces j scale w (read_pieces (piece_of c ∷ map piece_of t) s)

  by-operand : is_mark c ≡ true → Goal
  by-operand m = rw m (go (read_operand (operand_of c) s))
    where
      go : (g : Got) → onward g j (λ v l. row_from t (drop l s) (j + l) (next_scale scale) (w + v * scale))
          ≡ from_pieces j scale w (elim g [ value v l ↦ with_first v (later l (read_pieces (map piece_of t) (drop l s))) | fault p ↦ stopped p ])
      go (value v l) = ih (drop l s) (j + l) (next_scale scale) (w + v * scale) ∙ first-later v l j scale w (read_pieces (map piece_of t) (drop l s))
      go (fault p) = refl

  by-letter : is_mark c ≡ false → Goal
  by-letter m = rw m (go s)
    where
      go : (s : List ℕ) → past_letter c s j (λ r. row_from t r (j + 1) scale w) ≡ from_pieces j scale w (read_pieces (letter c ∷ map piece_of t) s)
      go [] = let e : j ≡ j + 0 = omega arith in ap stopped e
      go (b ∷ s) = at (eqb b c)
        where
          at : (x : Bool) → cond x (row_from t s (j + 1) scale w) (stopped j) ≡ from_pieces j scale w (cond x (later 1 (read_pieces (map piece_of t) s)) (stopped 0))
          at true = ih s (j + 1) scale w ∙ later-one j scale w (read_pieces (map piece_of t) s)
          at false = let e : j ≡ j + 0 = omega arith in ap stopped e

row_is : (t s : List ℕ) (j scale w : ℕ) → row_from t s j scale w ≡ from_pieces j scale w (read_pieces (map piece_of t) s)
row_is [] s j scale w = end_is s j scale w
row_is (c ∷ t) s j scale w = start (λ s j scale w. row_is t s j scale w) (is_mark c) refl
  where
    start : ((s : List ℕ) (j scale w : ℕ) → row_from t s j scale w ≡ from_pieces j scale w (read_pieces (map piece_of t) s))
        → (m : Bool) → is_mark c ≡ m → row_from (c ∷ t) s j scale w ≡ from_pieces j scale w (read_pieces (piece_of c ∷ map piece_of t) s)
    start ih true m = by-operand c t ih s j scale w m
    start ih false m = by-letter c t ih s j scale w m

-- the word

placed-none : (vs : List ℕ) → placed 0 vs ≡ 0
placed-none [] = refl
placed-none (v ∷ vs) = let h = placed-none vs in omega arith

placed-is : (vs : List ℕ) → placed 128 vs ≡ get_or vs 0 0 * 2 ^ 7 + get_or vs 1 0 * 2 ^ 15 + get_or vs 2 0 * 2 ^ 20
placed-is [] = refl
placed-is (x ∷ []) = omega arith
placed-is (x ∷ (y ∷ [])) = omega arith
placed-is (x ∷ (y ∷ (z ∷ vs))) = let h = placed-none vs in omega arith

pub word-is : (r : Row) (vs : List ℕ) → base_of r + placed 128 vs ≡ word_with r.code.fixed vs
word-is r vs = let h = placed-is vs in omega arith

as-word : (r : Row) (q : Parsed (List ℕ)) → from_pieces 0 128 (base_of r) q ≡ as_word r.code.fixed q
as-word r (whole vs) = ap whole (word-is r vs)
as-word r (stopped p) = let e : 0 + p ≡ p = omega arith in ap stopped e

pub row_reads : (r : Row) (s : List ℕ) → row_from (bytes r.text) s 0 128 (base_of r) ≡ read_row r s
row_reads r s = row_is (bytes r.text) s 0 128 (base_of r) ∙ as-word r (read_pieces (pieces r.text) s)

-- ---- the table

pub rows_are : length listing ≡ 79
unfolding listing
rows_are = refl

-- what is computed for each row of two lists that go together
pub at_row : {A B X : Type 0} (f : A → X) (g : B → X) (xs : List A) (ys : List B) → map f xs ≡ map g ys → (a : A) (b : B) (k : ℕ) → k < length xs → f (get_or xs k a) ≡ g (get_or ys k b)
at_row f g [] ys e a b k l = absurd (omega arith)
at_row f g (x ∷ xs) [] e a b k l = absurd cc
at_row f g (x ∷ xs) (y ∷ ys) e a b zero l = cc
at_row f g (x ∷ xs) (y ∷ ys) e a b (suc k) l = at_row f g xs ys (let t : map f xs ≡ map g ys = cc in t) a b k (omega arith)

pub table-size : (rows : List (ℕ × ℕ × List ℕ)) → IsTable rows → length rows ≡ 79
table-size rows t = sym (length-map rows (λ (r : ℕ × ℕ × List ℕ). r.0)) ∙ ap length t.0 ∙ length-map listing base_of ∙ rows_are

module _ (rows : List (ℕ × ℕ × List ℕ)) (t : IsTable rows) (x : ℕ × ℕ × List ℕ) (k : ℕ) (l : k < 79) where
  pub bits_at : (get_or rows k x).0 ≡ base_of (row_at k)
  unfolding row_at
  bits_at = at_row (λ (r : ℕ × ℕ × List ℕ). r.0) base_of rows listing t.0 x no_row k (omega (arith, table-size rows t))

  pub text_at : take (get_or rows k x).1 (get_or rows k x).2 ≡ bytes (row_at k).text
  unfolding row_at
  text_at = at_row (λ (r : ℕ × ℕ × List ℕ). take r.1 r.2) (λ (r : Row). bytes r.text) rows listing t.1 x no_row k (omega (arith, table-size rows t))

  pub text_in : (get_or rows k x).1 ≤ 25
  text_in =
      leb-true (get_or rows k x).1 25
      (at_row (λ (r : ℕ × ℕ × List ℕ). leb r.1 25) (λ (r : Row). true) rows listing t.2 x no_row k (omega (arith, table-size rows t)))

-- every text is short, and no row fixes a bit above 31
abbrev apt : List Row → Bool
apt [] = true
apt (r ∷ rs) = leb (length (bytes r.text)) 27 && (ltb (base_of r) (2 ^ 32) && apt rs)

all-apt : apt listing ≡ true
unfolding listing
all-apt = refl

pub record Apt (r : Row) : Type 0 where
  pub short : length (bytes r.text) ≤ 27
  pub small : base_of r < 2 ^ 32

apt-at : (rs : List Row) → apt rs ≡ true → (k : ℕ) → k < length rs → Apt (get_or rs k no_row)
apt-at [] h k l = absurd (omega arith)
apt-at (r ∷ rs) h zero l =
    let second = and_right (leb (length (bytes r.text)) 27) (ltb (base_of r) (2 ^ 32) && apt rs) h in
    record {
      short = leb-true (length (bytes r.text)) 27 (and_left (leb (length (bytes r.text)) 27) (ltb (base_of r) (2 ^ 32) && apt rs) h);
      small = ltb-true (base_of r) (2 ^ 32) (and_left (ltb (base_of r) (2 ^ 32)) (apt rs) second);
    }
apt-at (r ∷ rs) h (suc k) l =
    let second = and_right (leb (length (bytes r.text)) 27) (ltb (base_of r) (2 ^ 32) && apt rs) h in
    apt-at rs (and_right (ltb (base_of r) (2 ^ 32)) (apt rs) second) k (omega arith)

pub row-apt : (k : ℕ) → k < 79 → Apt (row_at k)
unfolding row_at
row-apt k l = apt-at listing all-apt k (omega (arith, rows_are))

among-at : (rs : List Row) (k : ℕ) → k < length rs → Among (get_or rs k no_row) rs
among-at [] k l = absurd (omega arith)
among-at (r ∷ rs) zero l = inl refl
among-at (r ∷ rs) (suc k) l = inr (among-at rs k (omega arith))

pub row-among : (k : ℕ) → k < 79 → Among (row_at k) listing
unfolding row_at
row-among k l = among-at listing k (omega (arith, rows_are))

-- ---- what a row is read as, from the equation of a contract

pub word-whole : (w : ℕ) (x : Parsed ℕ) → Ok w ≡ as_line x → x ≡ whole w
word-whole w (whole v) e = let z : v ≡ w = cc in ap whole z
word-whole w (stopped p) e = absurd cc

pub bad-stopped : (r : Fault) (x : Parsed ℕ) → Err r ≡ as_line x → x ≡ stopped r.place
bad-stopped r (whole v) e = absurd cc
bad-stopped r (stopped q) e = let z : r ≡ fault_at q = cc in ap (λ (y : Fault). stopped y.place) (sym z)

-- ---- the rows that are left, and the best place of those before them

abbrev pub Left : List ℕ → (k best : ℕ) → Type 0
Left s k best = read_line s ≡ either (stopped best) (read_in (drop k listing) s)

either-zero : (r : Parsed ℕ) → r ≡ either (stopped 0) r
either-zero (whole w) = refl
either-zero (stopped p) = let e : p ≡ max 0 p = omega arith in ap stopped e

pub left-all : (s : List ℕ) → Left s 0 0
unfolding read_line
left-all s = either-zero (read_in listing s)

either-word : (p w : ℕ) (x r : Parsed ℕ) → Ok w ≡ as_line x → either (stopped p) (either x r) ≡ whole w
either-word p w x r e = ap (λ (y : Parsed ℕ). either (stopped p) (either y r)) (word-whole w x e)

either-bad : (p q : ℕ) (x r : Parsed ℕ) → x ≡ stopped q → either (stopped p) (either x r) ≡ either (stopped (max p q)) r
either-bad p q x (whole w) e = ap (λ (y : Parsed ℕ). either (stopped p) (either y (whole w))) e
either-bad p q x (stopped y) e = ap (λ (z : Parsed ℕ). either (stopped p) (either z (stopped y))) e ∙ (let m : max p (max q y) ≡ max (max p q) y = omega arith in ap stopped m)

module _ (s : List ℕ) (k best : ℕ) (l : k < 79) (left : Left s k best) where
  split : read_line s ≡ either (stopped best) (either (read_row (row_at k) s) (read_in (drop (suc k) listing) s))
  unfolding row_at
  split = left ∙ ap (λ (x : List Row). either (stopped best) (read_in x s)) (drop-cons listing k no_row (omega (arith, rows_are)))

  pub left_word : (w : ℕ) → Ok w ≡ as_line (read_row (row_at k) s) → Ok w ≡ as_line (read_line s)
  left_word w e = sym (ap as_line (split ∙ either-word best w (read_row (row_at k) s) (read_in (drop (suc k) listing) s) e))

  pub left-bad : (r : Fault) → Err r ≡ as_line (read_row (row_at k) s) → Left s (k + 1) (max best r.place)
  left-bad r e =
      split ∙ either-bad best r.place (read_row (row_at k) s) (read_in (drop (suc k) listing) s) (bad-stopped r (read_row (row_at k) s) e)
      ∙ ap (λ (z : ℕ). either (stopped (max best r.place)) (read_in (drop z listing) s)) (sym (add-one k))

pub left_end : (s : List ℕ) (k best : ℕ) → 79 ≤ k → Left s k best → Err (fault_at best) ≡ as_line (read_line s)
left_end s k best h left =
    let m : max best 0 ≡ best = omega arith in
    sym (ap as_line (left ∙ ap (λ (x : List Row). either (stopped best) (read_in x s)) (drop_of_length-le listing {i = k} (omega (arith, rows_are))) ∙ ap stopped m))

-- ---- one row

module _ (s : List ℕ) (k : ℕ) (l : k < 79) where
  pub one_word : (w : ℕ) → Ok w ≡ as_line (read_row (row_at k) s) → Ok w ≡ as_line (read_line s)
  one_word w e = ap as_line (row-finds (row_at k) (row-among k l) s w (word-whole w (read_row (row_at k) s) e))

  pub one-bad : (r : Fault) → Err r ≡ as_line (read_row (row_at k) s) → space_in r.place s ≡ true → Err r ≡ as_line (read_line s)
  one-bad r e h = ap as_line (row-stops (row_at k) (row-among k l) s r.place (bad-stopped r (read_row (row_at k) s) e) h)
