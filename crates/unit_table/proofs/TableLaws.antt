-- The table agrees with the listing, and so it decodes every word as the listing does.
use mathlib.Core.Path.{◌≡◌, refl, sym, ap, ap₂, ◌∙◌}
use mathlib.Core.Bool.{Bool, true, false, cond, not, ◌&&◌, ◌||◌}
use mathlib.Core.List.{List, [], ◌∷◌}
use Prim.Native.Nat.{ℕ, zero, suc, ◌+◌, ◌*◌, ◌/◌, ◌^◌, ◌<◌, ◌≤◌}
use native.Mathlib.Omega.{arith}
use lib.Dec.{eqb, leb}
use lib.ListN.{get_or, take, drop}
use borrow.Author.Tests.{eqb-true, eq-eqb, ne_eqb, not-true, le-leb, leb-true}
use types.Run.{OneOf}
use Rattle.machine.proofs.TestLaws.{and_left, and_right, or_right, same_test}
use Rattle.machine.proofs.MatchLaws.{one_of, none_of}
use Rattle.machine.specs.declared.Wrong.TheVariants.{LeftOut, Unlisted, Opcode}
use Rattle.machine.specs.declared.Form.{Form}
use Rattle.machine.specs.declared.Form.TheVariants.{Plain, Transposed}
use Rattle.machine.specs.declared.Instruction.{Instruction}
use Rattle.machine.specs.declared.Instruction.TheVariants.{Illegal}
use Rattle.machine.specs.Tests.{is_in}
use Rattle.machine.specs.Listing.{bits, field20, Fixed, Code, Row, has, listed, look_up, not_ours, ranged, decode, listing, others}
use Rattle.unit_table.specs.Table.{numbers, fixes_zero, number_among, number_in, sample, agrees, row_agrees, block_agrees, table_agrees, TableAgrees, entry_of, rest_right, meant, numbered, TableDecodes}

-- ---- the whole table

-- one test, at all 1,024 entries
pub table-agrees : TableAgrees
unfolding numbers listing others fixes_zero
table-agrees = refl

row-at : (code form : ℕ) (ns : List ℕ) → row_agrees code form ns ≡ true → (k m : ℕ) → m ≡ form + k → m < 8 → agrees code m (get_or ns k 0) ≡ true
row-at code form [] h k m e l =
    let g = eqb-true form 8 h in
    absurd (omega arith)
row-at code form (n ∷ ns) h zero m e l =
    let g : m ≡ form = omega arith in
    ap (λ (x : ℕ). agrees code x n) g ∙ and_left (agrees code form n) (row_agrees code (suc form) ns) h
row-at code form (n ∷ ns) h (suc k) m e l = row-at code (suc form) ns (and_right (agrees code form n) (row_agrees code (suc form) ns) h) k m (omega arith) l

block_at : (high middle : ℕ) (rs : List (List ℕ)) → block_agrees high middle rs ≡ true → (k m : ℕ) → m ≡ middle + k → m < 8 → row_agrees (high * 8 + m) 0 (get_or rs k []) ≡ true
block_at high middle [] h k m e l =
    let g = eqb-true middle 8 h in
    absurd (omega arith)
block_at high middle (r ∷ rs) h zero m e l =
    let g : m ≡ middle = omega arith in
    ap (λ (x : ℕ). row_agrees (high * 8 + x) 0 r) g ∙ and_left (row_agrees (high * 8 + middle) 0 r) (block_agrees high (suc middle) rs) h
block_at high middle (r ∷ rs) h (suc k) m e l = block_at high (suc middle) rs (and_right (row_agrees (high * 8 + middle) 0 r) (block_agrees high (suc middle) rs) h) k m (omega arith) l

table_at : (high : ℕ) (bs : List (List (List ℕ))) → table_agrees high bs ≡ true → (k m : ℕ) → m ≡ high + k → m < 16 → block_agrees m 0 (get_or bs k []) ≡ true
table_at high [] h k m e l =
    let g = eqb-true high 16 h in
    absurd (omega arith)
table_at high (b ∷ bs) h zero m e l =
    let g : m ≡ high = omega arith in
    ap (λ (x : ℕ). block_agrees x 0 b) g ∙ and_left (block_agrees high 0 b) (table_agrees (suc high) bs) h
table_at high (b ∷ bs) h (suc k) m e l = table_at (suc high) bs (and_right (block_agrees high 0 b) (table_agrees (suc high) bs) h) k m (omega arith) l

-- and so the entry of every word
entry-agrees : (word : ℕ) → agrees (bits 31 25 word) (bits 14 12 word) (entry_of word) ≡ true
entry-agrees word =
    let e : bits 31 25 word ≡ bits 31 28 word * 8 + bits 27 25 word = omega arith in
    ap (λ (code : ℕ). agrees code (bits 14 12 word) (entry_of word)) e
    ∙ row-at (bits 31 28 word * 8 + bits 27 25 word) 0 (get_or (get_or numbers (bits 31 28 word) []) (bits 27 25 word) [])
    (block_at (bits 31 28 word) 0 (get_or numbers (bits 31 28 word) [])
    (table_at 0 numbers table-agrees (bits 31 28 word) (bits 31 28 word) (omega arith) (omega arith))
    (bits 27 25 word) (bits 27 25 word) (omega arith) (omega arith))
    (bits 14 12 word) (bits 14 12 word) (omega arith) (omega arith)

-- ---- a word has the number of a sample

-- the fields that entries fix; bits 24..20 and 27..20 at zero
abbrev at : Fixed → ℕ → ℕ → Bool
at x high low = eqb x.high high && eqb x.low low

abbrev known : Fixed → Bool
known x = at x 14 12 || (at x 31 28 || (at x 31 26 || (at x 25 25 || ((at x 24 20 || at x 27 20) && eqb x.value 0))))

abbrev all_known : List Fixed → Bool
all_known [] = true
all_known (x ∷ xs) = known x && all_known xs

abbrev codes_known : List Code → Bool
codes_known [] = true
codes_known (c ∷ cs) = all_known c.fixed && codes_known cs

abbrev rows_known : List Row → Bool
rows_known [] = codes_known others
rows_known (r ∷ rs) = all_known r.code.fixed && rows_known rs

listing-known : rows_known listing ≡ true
unfolding listing others
listing-known = refl

either : {P : Type 0} (a b : Bool) → a || b ≡ true → (a ≡ true → P) → (b ≡ true → P) → P
either true b h f g = f refl
either false b h f g = g h

-- the fields of a sample
module _ (c e f : ℕ) (c<128 : c < 128) (e<32 : e < 32) (f<8 : f < 8) where
  at-14-12 : bits 14 12 (sample c e f) ≡ f
  at-14-12 =
      let q : sample c e f / 2 ^ 12 ≡ c * 8192 + e * 256 + f = omega arith in
      rw q (omega arith)

  at-20 : sample c e f / 2 ^ 20 ≡ c * 32 + e
  at-20 = omega arith

  at-25 : sample c e f / 2 ^ 25 ≡ c
  at-25 = omega arith

  at-26 : sample c e f / 2 ^ 26 ≡ c / 2
  at-26 = omega arith

  at-28 : sample c e f / 2 ^ 28 ≡ c / 8
  at-28 = omega arith

module _ (word e : ℕ) (small : e < 32) (same : eqb (field20 word) 0 ≡ eqb e 0) where
  abbrev like : ℕ
  like = sample (bits 31 25 word) e (bits 14 12 word)

  abbrev Same : (high low value : ℕ) → Type 0
  Same high low v = eqb (bits high low word) v ≡ eqb (bits high low like) v

  abbrev Fields : Type 0
  Fields = (bits 14 12 like ≡ bits 14 12 word) × (bits 31 28 like ≡ bits 31 28 word) × (bits 31 26 like ≡ bits 31 26 word) × (bits 25 25 like ≡ bits 25 25 word)
      × (bits 24 20 like ≡ e) × (bits 27 20 like ≡ bits 27 25 word * 32 + e)

  fields : Fields
  fields =
      let c : ℕ = bits 31 25 word in
      let f : ℕ = bits 14 12 word in
      let c<128 : c < 128 = omega arith in
      let f<8 : f < 8 = omega arith in (
        at-14-12 c e f c<128 small f<8,
        rw (at-28 c e f c<128 small f<8) (omega arith),
        rw (at-26 c e f c<128 small f<8) (omega arith),
        rw (at-25 c e f c<128 small f<8) (omega arith),
        rw (at-20 c e f c<128 small f<8) (omega arith),
        rw (at-20 c e f c<128 small f<8) (omega arith),
      )

  by_bits : (high low v : ℕ) → bits high low like ≡ bits high low word → Same high low v
  by_bits high low v q = ap (λ (x : ℕ). eqb x v) (sym q)

  lower : Same 24 20 0
  lower = same ∙ ap (λ (x : ℕ). eqb x 0) (sym fields.4)

  upper : Same 27 20 0
  upper =
      let a : bits 27 20 word ≡ bits 27 25 word * 32 + field20 word = omega arith in
      same_test (eqb (bits 27 20 word) 0) (eqb (bits 27 20 like) 0)
      (λ h.
      let w : bits 27 20 word ≡ 0 = eqb-true (bits 27 20 word) 0 h in
      let y : e ≡ 0 = eqb-true e 0 (sym same ∙ eq-eqb (field20 word) 0 (omega arith)) in
      eq-eqb (bits 27 20 like) 0 (fields.5 ∙ omega arith))
      (λ h.
      let l : bits 27 25 word * 32 + e ≡ 0 = sym fields.5 ∙ eqb-true (bits 27 20 like) 0 h in
      let z : field20 word ≡ 0 = eqb-true (field20 word) 0 (same ∙ eq-eqb e 0 (omega arith)) in
      eq-eqb (bits 27 20 word) 0 (a ∙ omega arith))

  placed : (x : Fixed) (high low value : ℕ) → at x high low ≡ true → x.value ≡ value → Same high low value → Same x.high x.low x.value
  placed x high low value a v s = rw (
    eqb-true x.high high (and_left (eqb x.high high) (eqb x.low low) a),
    eqb-true x.low low (and_right (eqb x.high high) (eqb x.low low) a),
    v,
  ) s

  field-same : (x : Fixed) → known x ≡ true → Same x.high x.low x.value
  field-same x k =
      either (at x 14 12) _ k (λ a. placed x 14 12 x.value a refl (by_bits 14 12 x.value fields.0)) (λ k.
      either (at x 31 28) _ k (λ a. placed x 31 28 x.value a refl (by_bits 31 28 x.value fields.1)) (λ k.
      either (at x 31 26) _ k (λ a. placed x 31 26 x.value a refl (by_bits 31 26 x.value fields.2)) (λ k.
      either (at x 25 25) _ k (λ a. placed x 25 25 x.value a refl (by_bits 25 25 x.value fields.3)) (λ k.
      let v : x.value ≡ 0 = eqb-true x.value 0 (and_right (at x 24 20 || at x 27 20) (eqb x.value 0) k) in
      either (at x 24 20) (at x 27 20) (and_left (at x 24 20 || at x 27 20) (eqb x.value 0) k)
      (λ a. placed x 24 20 0 a v lower) (λ a. placed x 27 20 0 a v upper)))))

  has_same : (xs : List Fixed) → all_known xs ≡ true → has word xs ≡ has like xs
  has_same [] k = refl
  has_same (x ∷ xs) k = ap₂ ◌&&◌ (field-same x (and_left (known x) (all_known xs) k)) (has_same xs (and_right (known x) (all_known xs) k))

  among_same : (cs : List Code) → codes_known cs ≡ true → number_among word cs ≡ number_among like cs
  among_same [] k = refl
  among_same (c ∷ cs) k =
      ap₂ (λ (b : Bool) (n : ℕ). cond b c.number n) (has_same c.fixed (and_left (all_known c.fixed) (codes_known cs) k))
      (among_same cs (and_right (all_known c.fixed) (codes_known cs) k))

  number_same : (rs : List Row) → rows_known rs ≡ true → number_in word rs ≡ number_in like rs
  number_same [] k = among_same others k
  number_same (r ∷ rs) k =
      ap₂ (λ (b : Bool) (n : ℕ). cond b r.code.number n) (has_same r.code.fixed (and_left (all_known r.code.fixed) (rows_known rs) k))
      (number_same rs (and_right (all_known r.code.fixed) (rows_known rs) k))

-- the table's number, where bits 24..20 are right
pub number_is : (word : ℕ) → number_in word listing ≡ cond (rest_right (entry_of word) word) (entry_of word) 0
number_is word = go (eqb (field20 word) 0) refl (fixes_zero n) (and_left zeros others-there h) (and_right zeros others-there h)
  where
    n : ℕ
    n = entry_of word

    zeros : Bool
    zeros = eqb (number_in (sample (bits 31 25 word) 0 (bits 14 12 word)) listing) n

    others-there : Bool
    others-there = eqb (number_in (sample (bits 31 25 word) 1 (bits 14 12 word)) listing) (cond (fixes_zero n) 0 n)

    h : agrees (bits 31 25 word) (bits 14 12 word) n ≡ true
    h = entry-agrees word

    go : (t : Bool) → eqb (field20 word) 0 ≡ t → (z : Bool)
        → zeros ≡ true → eqb (number_in (sample (bits 31 25 word) 1 (bits 14 12 word)) listing) (cond z 0 n) ≡ true
        → number_in word listing ≡ cond (cond z t true) n 0
    go true e true a b = number_same word 0 (omega arith) e listing listing-known ∙ eqb-true (number_in (sample (bits 31 25 word) 0 (bits 14 12 word)) listing) n a
    go true e false a b = number_same word 0 (omega arith) e listing listing-known ∙ eqb-true (number_in (sample (bits 31 25 word) 0 (bits 14 12 word)) listing) n a
    go false e true a b = number_same word 1 (omega arith) e listing listing-known ∙ eqb-true (number_in (sample (bits 31 25 word) 1 (bits 14 12 word)) listing) 0 b
    go false e false a b = number_same word 1 (omega arith) e listing listing-known ∙ eqb-true (number_in (sample (bits 31 25 word) 1 (bits 14 12 word)) listing) n b

-- ---- a number names one entry

abbrev fresh_among : ℕ → List Code → Bool
fresh_among k [] = not (eqb 0 k)
fresh_among k (c ∷ cs) = not (eqb c.number k) && fresh_among k cs

abbrev fresh_in : ℕ → List Row → Bool
fresh_in k [] = fresh_among k others
fresh_in k (r ∷ rs) = not (eqb r.code.number k) && fresh_in k rs

abbrev nonzero : List Code → Bool
nonzero [] = true
nonzero (c ∷ cs) = not (eqb c.number 0) && nonzero cs

abbrev distinct : List Row → Bool
distinct [] = nonzero others
distinct (r ∷ rs) = fresh_in r.code.number rs && distinct rs

listing-distinct : distinct listing ≡ true
unfolding listing others
listing-distinct = refl

fresh-among : (word k : ℕ) (cs : List Code) → fresh_among k cs ≡ true → eqb (number_among word cs) k ≡ false
fresh-among word k [] h = not-true (eqb 0 k) h
fresh-among word k (c ∷ cs) h = go (has word c.fixed) (fresh-among word k cs (and_right (not (eqb c.number k)) (fresh_among k cs) h))
  where
    go : (t : Bool) → eqb (number_among word cs) k ≡ false → eqb (cond t c.number (number_among word cs)) k ≡ false
    go true ih = not-true (eqb c.number k) (and_left (not (eqb c.number k)) (fresh_among k cs) h)
    go false ih = ih

fresh_in_lem : (word k : ℕ) (rs : List Row) → fresh_in k rs ≡ true → eqb (number_in word rs) k ≡ false
fresh_in_lem word k [] h = fresh-among word k others h
fresh_in_lem word k (r ∷ rs) h = go (has word r.code.fixed) (fresh_in_lem word k rs (and_right (not (eqb r.code.number k)) (fresh_in k rs) h))
  where
    go : (t : Bool) → eqb (number_in word rs) k ≡ false → eqb (cond t r.code.number (number_in word rs)) k ≡ false
    go true ih = not-true (eqb r.code.number k) (and_left (not (eqb r.code.number k)) (fresh_in k rs) h)
    go false ih = ih

others-read : (word : ℕ) (cs : List Code) → nonzero cs ≡ true → cond (listed word cs) LeftOut Unlisted ≡ cond (eqb (number_among word cs) 0) Unlisted LeftOut
others-read word [] h = refl
others-read word (c ∷ cs) h = go (has word c.fixed) (others-read word cs (and_right (not (eqb c.number 0)) (nonzero cs) h))
  where
    go : (t : Bool) → cond (listed word cs) LeftOut Unlisted ≡ cond (eqb (number_among word cs) 0) Unlisted LeftOut
        → cond (t || listed word cs) LeftOut Unlisted ≡ cond (eqb (cond t c.number (number_among word cs)) 0) Unlisted LeftOut
    go true ih = rw (not-true (eqb c.number 0) (and_left (not (eqb c.number 0)) (nonzero cs) h))
    go false ih = ih

rows-read : (word : ℕ) (rs : List Row) → distinct rs ≡ true → look_up word (not_ours word) rs ≡ meant (number_in word rs) word rs
rows-read word [] h = ap Illegal (others-read word others h)
rows-read word (r ∷ rs) h = go (has word r.code.fixed) (rows-read word rs (and_right (fresh_in r.code.number rs) (distinct rs) h))
  where
    go : (t : Bool) → look_up word (not_ours word) rs ≡ meant (number_in word rs) word rs
        → cond t (r.means word) (look_up word (not_ours word) rs)
        ≡ cond (eqb (cond t r.code.number (number_in word rs)) r.code.number) (r.means word) (meant (cond t r.code.number (number_in word rs)) word rs)
    go true ih = rw (eq-eqb r.code.number r.code.number refl)
    go false ih = rw (fresh_in_lem word r.code.number rs (and_left (fresh_in r.code.number rs) (distinct rs) h)) ih

-- ---- every word

pub wrong-opcode : (word : ℕ) → ¬ (bits 6 0 word ≡ 0b1110111) → Illegal Opcode ≡ decode word
unfolding decode
wrong-opcode word d = sym (ap (λ (b : Bool). cond b (ranged (look_up word (not_ours word) listing)) (Illegal Opcode)) (ne_eqb (bits 6 0 word) 0b1110111 d))

right-opcode : (word : ℕ) → bits 6 0 word ≡ 0b1110111 → ranged (look_up word (not_ours word) listing) ≡ decode word
unfolding decode
right-opcode word o = sym (ap (λ (b : Bool). cond b (ranged (look_up word (not_ours word) listing)) (Illegal Opcode)) (eq-eqb (bits 6 0 word) 0b1110111 o))

pub no_number : (word : ℕ) → Illegal Unlisted ≡ ranged (meant 0 word listing)
unfolding listing
no_number word = refl

pub table-decodes : TableDecodes
table-decodes word o =
    go (rest_right (entry_of word) word)
    ∙ ap (λ (n : ℕ). ranged (meant n word listing)) (sym (number_is word))
    ∙ ap ranged (sym (rows-read word listing listing-distinct)) ∙ right-opcode word o
  where
    go : (t : Bool) → cond t (ranged (meant (entry_of word) word listing)) (Illegal Unlisted) ≡ ranged (meant (cond t (entry_of word) 0) word listing)
    go true = refl
    go false = no_number word

-- ---- for code: a match on numbers, and the entries that fix bits 24..20

-- what a match on a, a + 1, .. says where none is met
abbrev pub Above : ℕ → ℕ → ℕ → Type 0
Above x a zero = Unit {0}
Above x a (suc k) = Above x a k × (x ≡ a + k → ⊥)

pub above : (x a k : ℕ) → a ≤ x → Above x a k → a + k ≤ x
above x a zero l m = omega arith
above x a (suc k) l m =
    let g = above x a k l m.0 in
    let d = m.1 in
    omega arith

pub meant-at : (n k word : ℕ) → n ≡ k → ranged (meant k word listing) ≡ ranged (meant n word listing)
meant-at n k word e = ap (λ (x : ℕ). ranged (meant x word listing)) (sym e)

-- what a match on the numbers of rows, in their order, says where none is met
abbrev pub Missed : ℕ → Type 0 → List Row → Type 0
Missed n N [] = N
Missed n N (r ∷ rs) = Missed n (N × (n ≡ r.code.number → ⊥)) rs

-- the first k numbers are up to lo, or above hi
abbrev apart : (lo hi k : ℕ) → List Row → Bool
apart lo hi zero rs = true
apart lo hi (suc k) [] = true
apart lo hi (suc k) (r ∷ rs) = (leb r.code.number lo || leb (suc hi) r.code.number) && apart lo hi k rs

missed-left : (n word : ℕ) (N : Type 0) (rs : List Row) → ¬ (n ≡ 0) → Missed n N rs → N × (meant n word rs ≡ Illegal LeftOut)
missed-left n word N [] z m = (m, rw (ne_eqb n 0 z))
missed-left n word N (r ∷ rs) z m =
    let q = missed-left n word (N × (n ≡ r.code.number → ⊥)) rs z m in
    (q.0.0, rw (ne_eqb n r.code.number q.0.1) q.1)

past : (n word lo hi k : ℕ) (rs : List Row) → lo < n → n ≤ hi → apart lo hi k rs ≡ true → meant n word rs ≡ meant n word (drop k rs)
past n word lo hi zero rs a b h = refl
past n word lo hi (suc k) [] a b h = refl
past n word lo hi (suc k) (r ∷ rs) a b h =
    rw (ne_eqb n r.code.number other) (past n word lo hi k rs a b (and_right (leb r.code.number lo || leb (suc hi) r.code.number) (apart lo hi k rs) h))
  where
    other : ¬ (n ≡ r.code.number)
    other e =
        either (leb r.code.number lo) (leb (suc hi) r.code.number) (and_left (leb r.code.number lo || leb (suc hi) r.code.number) (apart lo hi k rs) h)
        (λ t. let g = leb-true r.code.number lo t in omega arith) (λ t. let g = leb-true (suc hi) r.code.number t in omega arith)

-- 32 plain loads, stores and settings, 24 transposed ones and four moves stand before the others
pub left_out : (n word : ℕ) → (32 < n) × (n ≤ 108) → Missed n (Unit {0}) (drop 60 listing) → Illegal LeftOut ≡ ranged (meant n word listing)
unfolding listing
left_out n word l m =
    let z : ¬ (n ≡ 0) = λ e. omega (arith, l.0) in
    ap ranged (sym (past n word 32 108 60 listing l.0 l.1 refl ∙ (missed-left n word (Unit {0}) (drop 60 listing) z m).1))

-- the four moves, which 56 others precede and 19 follow
abbrev pub Unmoved : ℕ → Type 0
Unmoved n = Missed n (Unit {0}) (take 4 (drop 56 listing))

pub too_large : (n word : ℕ) → 132 < n → Unmoved n → Illegal LeftOut ≡ ranged (meant n word listing)
unfolding listing
too_large n word l m =
    let z : ¬ (n ≡ 0) = λ e. omega arith in
    let four : meant n word (drop 56 listing) ≡ meant n word (drop 60 listing) = rw (ne_eqb n 229 m.0.0.0.1, ne_eqb n 230 m.0.0.1, ne_eqb n 235 m.0.1, ne_eqb n 236 m.1) in
    ap ranged (sym (past n word 132 n 56 listing l (omega arith) refl ∙ four ∙ past n word 132 n 19 (drop 60 listing) l (omega arith) refl
    ∙ ap (λ (t : Bool). Illegal (cond t Unlisted LeftOut)) (ne_eqb n 0 z)))

-- a load or store of either form
pub numbered-at : (n k word : ℕ) (f : Form) (i : Form → Instruction) → n ≡ k → i Plain ≡ meant k word listing → i Transposed ≡ meant (100 + k) word listing
    → ranged (i f) ≡ ranged (meant (numbered f n) word listing)
numbered-at n k word Plain i e p t = ap ranged p ∙ meant-at n k word e
numbered-at n k word Transposed i e p t = ap ranged t ∙ meant-at (100 + n) (100 + k) word (ap (λ (x : ℕ). 100 + x) e)

pub zero-key : (n : ℕ) → OneOf (2 ∷ 4 ∷ 6 ∷ 8 ∷ []) n → true ≡ fixes_zero n
unfolding fixes_zero
zero-key n h = rw (sym (one_of (2 ∷ 4 ∷ 6 ∷ 8 ∷ []) n h))

pub zero-low : (n : ℕ) → 38 ≤ n → n ≤ 52 → true ≡ fixes_zero n
unfolding fixes_zero
zero-low n a b = sym (or_right (is_in n (2 ∷ 4 ∷ 6 ∷ 8 ∷ [])) ((leb 38 n && leb n 52) || (leb 61 n && leb n 74)) (rw (le-leb 38 n a, le-leb n 52 b)))

pub zero_high : (n : ℕ) → 61 ≤ n → n ≤ 74 → true ≡ fixes_zero n
unfolding fixes_zero
zero_high n a b =
    sym (or_right (is_in n (2 ∷ 4 ∷ 6 ∷ 8 ∷ [])) ((leb 38 n && leb n 52) || (leb 61 n && leb n 74)) (or_right (leb 38 n && leb n 52) (leb 61 n && leb n 74) (rw (le-leb 61 n a, le-leb n 74 b))))

pub zero-none : (n : ℕ) → (OneOf (2 ∷ 4 ∷ 6 ∷ 8 ∷ []) n → ⊥) → leb 38 n && leb n 52 ≡ false → leb 61 n && leb n 74 ≡ false → false ≡ fixes_zero n
unfolding fixes_zero
zero-none n h a b = rw (sym (none_of (2 ∷ 4 ∷ 6 ∷ 8 ∷ []) n h), a, b)

pub not-between : (a b n : ℕ) → (a ≤ n → n ≤ b → ⊥) → leb a n && leb n b ≡ false
not-between a b n d = go (leb a n) refl (leb n b) refl
  where
    go : (s : Bool) → leb a n ≡ s → (t : Bool) → leb n b ≡ t → s && t ≡ false
    go true e true g = absurd (d (leb-true a n e) (leb-true n b g))
    go true e false g = refl
    go false e t g = refl
