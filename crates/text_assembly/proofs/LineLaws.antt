-- Lines: of every row one text, no two rows share a line, and what reading a line finds is right.
use Rattle.numbers.proofs.Kit.{◌≡◌, refl, sym, ap, ap₂, ◌∙◌, subst, ◌⊎◌, inl, inr, ⊎_elim, Bool, true, false, cond, not, ◌&&◌, List, [], ◌∷◌, ◌++◌}
use Rattle.numbers.proofs.Kit.{append_assoc, none, some, ℕ, suc, ◌≤◌, ◌<◌, max, arith, ltb, eqb, length, take, drop, take-append-drop, take-take}
use Rattle.numbers.proofs.Kit.{eqb-true, eqb-false, eq-eqb, ltb-true, lt-ltb}
use Rattle.numbers.proofs.BlockLaws.{le-or-lt}
use Rattle.machine.specs.Listing.{bits, Code, Row, has, listing}
use Rattle.machine.proofs.TestLaws.{and_left, and_right, false-true}
use Rattle.machine.proofs.ListingLaws.{clash, clash_all, pairwise, codes, one-row-each, clash-apart}
use Rattle.numbers_format.specs.Formats.{Ends}
use Rattle.numbers_format.specs.Parser.{Parsed}
use Rattle.numbers_format.specs.Parser.Parsed.{whole, stopped}
use Rattle.text_assembly.specs.Lines.{Operand, Piece, letter, operand, operand_count, pieces, operands_in, fill, fields_from, fields_of, in_operands, line_by, line_in, line, word_with}
use Rattle.text_assembly.specs.Reading.{read_pieces, as_word, either, read_in, read_line}
use Rattle.text_assembly.specs.Theorems.{Prints, IsLine, ReadRight, ReadsRight, ReadsBack, OneWord}
use Rattle.text_assembly.proofs.PieceLaws.{tidy, Fits, Has, Texts, PiecesRight, pieces-right, values_one}
use Rattle.text_assembly.proofs.WordLaws.{Whole, laid, whole-laid}

-- ---- the computed tests

-- every text is tidy, and its operands fill what the row leaves of a word
abbrev good : List Row → Bool
good [] = true
good (r ∷ rs) = tidy (pieces r.text) && (laid r.code.fixed (operands_in (pieces r.text)) && good rs)

-- the letters before the first space differ
abbrev pub apart : List Piece → List Piece → Bool
apart [] qs = false
apart (operand o ∷ ps) qs = false
apart (letter c ∷ ps) [] = false
apart (letter c ∷ ps) (operand o ∷ qs) = false
apart (letter c ∷ ps) (letter d ∷ qs) = cond (eqb c d) (not (eqb c 32) && apart ps qs) true

abbrev apart_all : List Piece → List Row → Bool
apart_all ps [] = true
apart_all ps (r ∷ rs) = apart ps (pieces r.text) && (apart (pieces r.text) ps && apart_all ps rs)

abbrev all_apart : List Row → Bool
all_apart [] = true
all_apart (r ∷ rs) = apart_all (pieces r.text) rs && all_apart rs

texts-good : good listing ≡ true
unfolding listing
texts-good = refl

texts-apart : all_apart listing ≡ true
unfolding listing
texts-apart = refl

-- ---- rows

-- q is one of these rows
abbrev pub Among : Row → List Row → Type 0
Among q [] = ⊥
Among q (r ∷ rs) = (q ≡ r) ⊎ Among q rs

-- s is a line of one of these rows
abbrev Lines : List Row → List ℕ → Type 0
Lines rs s = (q : Row) × Among q rs × Texts (pieces q.text) s

abbrev Good : Row → Type 0
Good q = (tidy (pieces q.text) ≡ true) × (laid q.code.fixed (operands_in (pieces q.text)) ≡ true)

module _ (r : Row) (rs : List Row) (g : good (r ∷ rs) ≡ true) where
  good-first : Good r
  good-first =
      let k = and_right (tidy (pieces r.text)) (laid r.code.fixed (operands_in (pieces r.text)) && good rs) g in
      (and_left (tidy (pieces r.text)) (laid r.code.fixed (operands_in (pieces r.text)) && good rs) g, and_left (laid r.code.fixed (operands_in (pieces r.text))) (good rs) k)

  good-rest : good rs ≡ true
  good-rest =
      and_right (laid r.code.fixed (operands_in (pieces r.text))) (good rs)
      (and_right (tidy (pieces r.text)) (laid r.code.fixed (operands_in (pieces r.text)) && good rs) g)

among-good : (rs : List Row) → good rs ≡ true → (q : Row) → Among q rs → Good q
among-good [] g q a = absurd a
among-good (r ∷ rs) g q (inl a) = subst Good (sym a) (good-first r rs g)
among-good (r ∷ rs) g q (inr a) = among-good rs (good-rest r rs g) q a

-- ---- no two rows share a line

apart-never : (ps qs : List Piece) (vs ws : List ℕ) → apart ps qs ≡ true → ¬ (fill ps vs ≡ fill qs ws)
apart-never [] qs vs ws h e = absurd (false-true h)
apart-never (operand o ∷ ps) qs vs ws h e = absurd (false-true h)
apart-never (letter c ∷ ps) [] vs ws h e = absurd (false-true h)
apart-never (letter c ∷ ps) (operand o ∷ qs) vs ws h e = absurd (false-true h)
apart-never (letter c ∷ ps) (letter d ∷ qs) vs ws h e =
    go (eqb c d) refl h (λ k. apart-never ps qs vs ws (and_right (not (eqb c 32)) (apart ps qs) k) (let z : fill ps vs ≡ fill qs ws = cc in z))
  where
    go : (t : Bool) → eqb c d ≡ t → cond t (not (eqb c 32) && apart ps qs) true ≡ true → (not (eqb c 32) && apart ps qs ≡ true → ⊥) → ⊥
    go true q h ih = ih h
    go false q h ih = eqb-false c d q (let z : c ≡ d = cc in z)

apart-all : (ps : List Piece) (rs : List Row) → apart_all ps rs ≡ true → (q : Row) → Among q rs → (apart ps (pieces q.text) ≡ true) × (apart (pieces q.text) ps ≡ true)
apart-all ps [] h q a = absurd a
apart-all ps (r ∷ rs) h q (inl a) =
    let k = and_right (apart ps (pieces r.text)) (apart (pieces r.text) ps && apart_all ps rs) h in
    subst (λ (z : Row). (apart ps (pieces z.text) ≡ true) × (apart (pieces z.text) ps ≡ true)) (sym a)
    (and_left (apart ps (pieces r.text)) (apart (pieces r.text) ps && apart_all ps rs) h, and_left (apart (pieces r.text) ps) (apart_all ps rs) k)
apart-all ps (r ∷ rs) h q (inr a) =
    apart-all ps rs (and_right (apart (pieces r.text) ps) (apart_all ps rs) (and_right (apart ps (pieces r.text)) (apart (pieces r.text) ps && apart_all ps rs) h)) q a

-- two rows are one, or have two names
either-row : (rs : List Row) → all_apart rs ≡ true → (q p : Row) → Among q rs → Among p rs → (q ≡ p) ⊎ (apart (pieces q.text) (pieces p.text) ≡ true)
either-row [] h q p a b = absurd a
either-row (r ∷ rs) h q p (inl a) (inl b) = inl (a ∙ sym b)
either-row (r ∷ rs) h q p (inl a) (inr b) =
    inr (subst (λ (z : Row). apart (pieces z.text) (pieces p.text) ≡ true) (sym a) (apart-all (pieces r.text) rs (and_left (apart_all (pieces r.text) rs) (all_apart rs) h) p b).0)
either-row (r ∷ rs) h q p (inr a) (inl b) =
    inr (subst (λ (z : Row). apart (pieces q.text) (pieces z.text) ≡ true) (sym b) (apart-all (pieces r.text) rs (and_left (apart_all (pieces r.text) rs) (all_apart rs) h) q a).1)
either-row (r ∷ rs) h q p (inr a) (inr b) = either-row rs (and_right (apart_all (pieces r.text) rs) (all_apart rs) h) q p a b

pub two-names : (q p : Row) → Among q listing → Among p listing → (q ≡ p) ⊎ (apart (pieces q.text) (pieces p.text) ≡ true)
two-names = either-row listing texts-apart

one-row : (q p : Row) → Among q listing → Among p listing → (vs ws : List ℕ) → fill (pieces q.text) vs ≡ fill (pieces p.text) ws → q ≡ p
one-row q p a b vs ws e = ⊎_elim (λ h. h) (λ h. absurd (apart-never (pieces q.text) (pieces p.text) vs ws h e)) (two-names q p a b)

-- ---- from a word to its row, and from a row to its words

pub fits-inside : (os : List Operand) (vs : List ℕ) → Fits os vs → in_operands os vs ≡ true
fits-inside [] [] h = refl
fits-inside [] (v ∷ vs) h = absurd h
fits-inside (o ∷ os) [] h = absurd h
fits-inside (o ∷ os) (v ∷ vs) h = rw (lt-ltb v (operand_count o) h.0) (fits-inside os vs h.1)

pub inside-fits : (i : ℕ) (os : List Operand) (w : ℕ) → in_operands os (fields_from i os w) ≡ true → Fits os (fields_from i os w)
inside-fits i [] w h = tt
inside-fits i (o ∷ os) w h =
    let v : ℕ = Rattle.text_assembly.specs.Lines.field_at i o w in
    (ltb-true v (operand_count o) (and_left (ltb v (operand_count o)) (in_operands os (fields_from (suc i) os w)) h), inside-fits (suc i) os w (and_right (ltb v (operand_count o)) (in_operands os (fields_from (suc i) os w)) h))

pub some_same : {x y : List ℕ} → some x ≡ some y → x ≡ y
some_same e = cc

pub none-some : {x : List ℕ} → none ≡ some x → ⊥
none-some e = let z : ◌≡◌ {A = ℕ} 0 1 = cc in omega arith

-- a word's line is that of the row whose bits it has
row_of : (w : ℕ) (rs : List Row) (s : List ℕ) → line_in w rs ≡ some s
    → (q : Row) × Among q rs × (has w q.code.fixed ≡ true) × (line_by (pieces q.text) w ≡ some s)
row_of w [] s h = absurd (none-some h)
row_of w (r ∷ rs) s h = go (has w r.code.fixed) refl h (row_of w rs s)
  where
    go : (b : Bool) → has w r.code.fixed ≡ b → cond b (line_by (pieces r.text) w) (line_in w rs) ≡ some s
        → (line_in w rs ≡ some s → (q : Row) × Among q rs × (has w q.code.fixed ≡ true) × (line_by (pieces q.text) w ≡ some s))
        → (q : Row) × Among q (r ∷ rs) × (has w q.code.fixed ≡ true) × (line_by (pieces q.text) w ≡ some s)
    go true e h ih = (r, inl refl, e, h)
    go false e h ih = let k = ih h in (k.0, inr k.1, k.2, k.3)

clash-among : (c : Code) (rs : List Row) → clash_all c (codes rs) ≡ true → (q : Row) → Among q rs → clash c.fixed q.code.fixed ≡ true
clash-among c [] h q a = absurd a
clash-among c (r ∷ rs) h q (inl a) =
    subst (λ (z : Row). clash c.fixed z.code.fixed ≡ true) (sym a) (and_left (clash c.fixed r.code.fixed) (clash_all c (codes rs)) h)
clash-among c (r ∷ rs) h q (inr a) = clash-among c rs (and_right (clash c.fixed r.code.fixed) (clash_all c (codes rs)) h) q a

line_at : (w : ℕ) (rs : List Row) → pairwise (codes rs) ≡ true → (q : Row) → Among q rs → has w q.code.fixed ≡ true
    → line_in w rs ≡ line_by (pieces q.text) w
line_at w [] p q a h = absurd a
line_at w (r ∷ rs) p q (inl a) h =
    let e : has w r.code.fixed ≡ true = subst (λ (z : Row). has w z.code.fixed ≡ true) a h in
    rw e (ap (λ (z : Row). line_by (pieces z.text) w) (sym a))
line_at w (r ∷ rs) p q (inr a) h = go (has w r.code.fixed) refl (line_at w rs (and_right (clash_all r.code (codes rs)) (pairwise (codes rs)) p) q a h)
  where
    go : (b : Bool) → has w r.code.fixed ≡ b → line_in w rs ≡ line_by (pieces q.text) w → cond b (line_by (pieces r.text) w) (line_in w rs) ≡ line_by (pieces q.text) w
    go true e ih = absurd (clash-apart w r.code.fixed q.code.fixed (clash-among r.code rs (and_left (clash_all r.code (codes rs)) (pairwise (codes rs)) p) q a) e h)
    go false e ih = ih

-- s is the text of a row with values whose word is w
pub record Comes (w : ℕ) (s : List ℕ) : Type 0 where
  pub row : Row
  pub among : Among row listing
  pub values : List ℕ
  pub has : Has (pieces row.text) s values
  pub word : w ≡ word_with row.code.fixed values

pub whole_of : (q : Row) → Among q listing → Whole q.code.fixed (operands_in (pieces q.text))
whole_of q a = whole-laid q.code.fixed (operands_in (pieces q.text)) (among-good listing texts-good q a).1

pub tidy_of : (q : Row) → Among q listing → tidy (pieces q.text) ≡ true
tidy_of q a = (among-good listing texts-good q a).0

line-by : (ps : List Piece) (w : ℕ) (s : List ℕ) → line_by ps w ≡ some s → Has ps s (fields_of ps w)
line-by ps w s h = go (in_operands (operands_in ps) (fields_of ps w)) refl h
  where
    go : (b : Bool) → in_operands (operands_in ps) (fields_of ps w) ≡ b → cond b (some (fill ps (fields_of ps w))) none ≡ some s → Has ps s (fields_of ps w)
    go true e h = (inside-fits 0 (operands_in ps) w e, sym (some_same h))
    go false e h = absurd (none-some h)

pub prints-comes : (w : ℕ) (s : List ℕ) → Prints w s → Comes w s
unfolding line
prints-comes w s p = go (eqb (bits 6 0 w) 119) refl p.1
  where
    go : (b : Bool) → eqb (bits 6 0 w) 119 ≡ b → cond b (line_in w listing) none ≡ some s → Comes w s
    go true e h =
        let r = row_of w listing s h in
        record {
          row = r.0;
          among = r.1;
          values = fields_of (pieces r.0.text) w;
          has = line-by (pieces r.0.text) w s r.3;
          word = (whole_of r.0 r.1).only w p.0 (eqb-true (bits 6 0 w) 119 e) r.2;
        }
    go false e h = absurd (none-some h)

pub comes-prints : (w : ℕ) (s : List ℕ) → Comes w s → Prints w s
unfolding line
comes-prints w s c =
    let v : ℕ = word_with c.row.code.fixed c.values in
    let m = (whole_of c.row c.among).made c.values c.has.0 in
    let ps : List Piece = pieces c.row.text in
    let o : eqb (bits 6 0 v) 119 ≡ true = eq-eqb (bits 6 0 v) 119 m.1 in
    let i : in_operands (operands_in ps) (fields_of ps v) ≡ true = subst (λ (z : List ℕ). in_operands (operands_in ps) z ≡ true) (sym m.3) (fits-inside (operands_in ps) c.values c.has.0) in
    let by : line_by ps v ≡ some s = rw i (ap (λ (z : List ℕ). some (fill ps z)) m.3 ∙ ap some (sym c.has.1)) in
    let at : Prints v s = (m.0, rw o (line_at v listing one-row-each c.row c.among m.2 ∙ by)) in
    subst (λ (z : ℕ). Prints z s) (sym c.word) at

-- a line comes of one word
pub comes-one : (w v : ℕ) (s : List ℕ) → Comes w s → Comes v s → w ≡ v
comes-one w v s a b =
    let e : fill (pieces a.row.text) a.values ≡ fill (pieces b.row.text) b.values = sym a.has.1 ∙ b.has.1 in
    let r : a.row ≡ b.row = one-row a.row b.row a.among b.among a.values b.values e in
    let fits : Fits (operands_in (pieces a.row.text)) b.values = subst (λ (z : Row). Fits (operands_in (pieces z.text)) b.values) (sym r) b.has.0 in
    let same : a.values ≡ b.values = values_one (pieces a.row.text) (tidy_of a.row a.among) a.values b.values a.has.0 fits
    (e ∙ ap (λ (z : Row). fill (pieces z.text) b.values) (sym r)) in
    a.word ∙ ap₂ (λ (x : Row) (y : List ℕ). word_with x.code.fixed y) r same ∙ sym b.word

-- ---- reading

-- the places of two languages
further : (L : List ℕ → Type 0) (s : List ℕ) (p k : ℕ) → Ends L s p → p < k → k ≤ length s → (u : List ℕ) → ¬ L (take k s ++ u)
further L s p k h l m u w =
    h.stops (omega arith) (drop (suc p) (take k s) ++ u)
    (subst L (ap (λ (z : List ℕ). z ++ u) (sym (take-append-drop (suc p) (take k s)) ∙ ap (λ (z : List ℕ). z ++ drop (suc p) (take k s)) (take-take (suc p) k s l))
    ∙ append_assoc (take (suc p) s) (drop (suc p) (take k s)) u) w)

ends-either : (L M N : List ℕ → Type 0) (s : List ℕ) (p q : ℕ) → ((x : List ℕ) → L x → N x) → ((x : List ℕ) → M x → N x) → ((x : List ℕ) → N x → L x ⊎ M x)
    → Ends L s p → Ends M s q → Ends N s (max p q)
ends-either L M N s p q l m back a b = record {
  there = omega (arith, a.there, b.there);
  goes_on = ⊎_elim
      (λ h. let e : max p q ≡ p = omega arith in (a.goes_on.0, subst (λ (z : ℕ). N (take z s ++ a.goes_on.0)) (sym e) (l _ a.goes_on.1)))
      (λ h. let e : max p q ≡ q = omega arith in (b.goes_on.0, subst (λ (z : ℕ). N (take z s ++ b.goes_on.0)) (sym e) (m _ b.goes_on.1)))
      (le-or-lt q p);
  stops = λ h u w. ⊎_elim
      (further L s p (suc (max p q)) a (omega arith) h u)
      (further M s q (suc (max p q)) b (omega arith) h u)
      (back _ w);
}

pub ends_as : (L N : List ℕ → Type 0) (s : List ℕ) (p q : ℕ) → p ≡ q → ((x : List ℕ) → L x → N x) → ((x : List ℕ) → N x → L x) → Ends L s p → Ends N s q
ends_as L N s p q e l back a = subst (λ (z : ℕ). Ends N s z) e (record {
  there = a.there;
  goes_on = (a.goes_on.0, l _ a.goes_on.1);
  stops = λ h u w. a.stops h u (back _ w);
})

abbrev InRight : List Row → List ℕ → Parsed ℕ → Type 0
InRight rs s (whole w) = (q : Row) × Among q rs × ((vs : List ℕ) × Has (pieces q.text) s vs × (w ≡ word_with q.code.fixed vs))
InRight rs s (stopped p) = Ends (Lines rs) s p × ¬ Lines rs s

-- one row
single : (r : Row) (s : List ℕ) (x : Parsed (List ℕ)) → PiecesRight (pieces r.text) s x → InRight (r ∷ []) s (as_word r.code.fixed x)
single r s (whole vs) h = (r, inl refl, (vs, h, refl))
single r s (stopped p) h =
    (ends_as (Texts (pieces r.text)) (Lines (r ∷ [])) s p p refl (λ x k. (r, inl refl, k)) out h.0, λ w. h.1 (out s w))
  where
    out : (x : List ℕ) → Lines (r ∷ []) x → Texts (pieces r.text) x
    out x (q, inl a, k) = subst (λ (z : Row). Texts (pieces z.text) x) a k
    out x (q, inr a, k) = absurd a

-- one row more
module _ (r : Row) (rs : List Row) (s : List ℕ) where
  first : {q : Row} → Among q (r ∷ []) → Among q (r ∷ rs)
  first (inl a) = inl a
  first (inr a) = absurd a

  more : (x : Parsed ℕ) → InRight (r ∷ []) s x → (y : Parsed ℕ) → InRight rs s y → InRight (r ∷ rs) s (either x y)
  more (whole w) h y k = (h.0, first h.1, h.2)
  more (stopped p) h (whole w) k = (k.0, inr k.1, k.2)
  more (stopped p) h (stopped q) k = (
    ends-either (Lines (r ∷ [])) (Lines rs) (Lines (r ∷ rs)) s p q (λ x w. (w.0, first w.1, w.2)) (λ x w. (w.0, inr w.1, w.2)) back h.0 k.0,
    λ w. ⊎_elim h.1 k.1 (back s w),
  )
    where
      back : (x : List ℕ) → Lines (r ∷ rs) x → Lines (r ∷ []) x ⊎ Lines rs x
      back x (u, inl a, k) = inl (u, inl a, k)
      back x (u, inr a, k) = inr (u, a, k)

either-none : (x : Parsed ℕ) → either x (stopped 0) ≡ x
either-none (whole w) = refl
either-none (stopped p) = let e : max p 0 ≡ p = omega arith in ap stopped e

in_right : (r : Row) (rs : List Row) → good (r ∷ rs) ≡ true → (s : List ℕ) → InRight (r ∷ rs) s (read_in (r ∷ rs) s)
in_right r [] g s =
    subst (InRight (r ∷ []) s) (sym (either-none (as_word r.code.fixed (read_pieces (pieces r.text) s))))
    (single r s (read_pieces (pieces r.text) s) (pieces-right (pieces r.text) (good-first r [] g).0 s))
in_right r (q ∷ rs) g s =
    more r (q ∷ rs) s (as_word r.code.fixed (read_pieces (pieces r.text) s))
    (single r s (read_pieces (pieces r.text) s) (pieces-right (pieces r.text) (good-first r (q ∷ rs) g).0 s))
    (read_in (q ∷ rs) s)
    (in_right q rs (good-rest r (q ∷ rs) g) s)

some-rows : 0 < length listing
unfolding listing
some-rows = omega arith

some_right : (rs : List Row) → 0 < length rs → good rs ≡ true → (s : List ℕ) → InRight rs s (read_in rs s)
some_right [] n g s = absurd (omega arith)
some_right (r ∷ rs) n g s = in_right r rs g s

-- ---- the theorems

pub reads-right : ReadsRight
unfolding read_line
reads-right s = go (read_in listing s) (some_right listing some-rows texts-good s)
  where
    into : (x : List ℕ) → Lines listing x → IsLine x
    into x (q, a, k) = (word_with q.code.fixed k.0, comes-prints (word_with q.code.fixed k.0) x (record { row = q; among = a; values = k.0; has = k.1; word = refl }))

    out : (x : List ℕ) → IsLine x → Lines listing x
    out x (w, p) = let c = prints-comes w x p in (c.row, c.among, (c.values, c.has))

    go : (r : Parsed ℕ) → InRight listing s r → ReadRight s r
    go (whole w) (q, a, k) = comes-prints w s (record { row = q; among = a; values = k.0; has = k.1; word = k.2 })
    go (stopped p) h = (ends_as (Lines listing) IsLine s p p refl into out h.0, λ k. h.1 (out s k))

pub one_word : OneWord
one_word w v s a b = comes-one w v s (prints-comes w s a) (prints-comes v s b)

pub reads-back : ReadsBack
reads-back w s p = go (read_line s) (reads-right s)
  where
    go : (r : Parsed ℕ) → ReadRight s r → r ≡ whole w
    go (whole v) h = ap whole (one_word v w s h p)
    go (stopped q) h = absurd (h.1 (w, p))
