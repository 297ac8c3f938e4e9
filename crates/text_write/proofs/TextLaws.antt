-- Lines along the table.
use mathlib.Core.Path.{◌≡◌, refl, sym, ap, ap₂, ◌∙◌, subst}
use mathlib.Core.Bool.{Bool, true, false, cond, ◌&&◌}
use mathlib.Core.List.{List, [], ◌∷◌, ◌++◌, map}
use mathlib.Core.Option.{Option, none, some}
use Prim.Native.Nat.{ℕ, zero, suc, ◌+◌, ◌-◌, ◌≤◌, ◌<◌}
use native.Mathlib.Numerals.{add-one}
use native.Mathlib.Omega.{arith}
use lib.Dec.{ltb, eqb}
use lib.ListN.{length, drop, get_or, drop_of_length-le}
use lib.Seq.{drop-cons}
use borrow.Author.Tests.{eqb-true, lt-ltb, le-ltb, ltb-true, leb-true, leb-false}
use Rattle.machine.specs.Listing.{bits, Row, has, listing}
use Rattle.machine.proofs.TestLaws.{and_left, and_right, false-true}
use Rattle.text_lines.specs.Lines.{decimal}
use Rattle.text_assembly.specs.Bytes.{bytes}
use Rattle.text_assembly.specs.Lines.{Operand, Piece, below, wide, small, letter, operand, shown, is_mark, operand_of, piece_of, pieces, operands_in, fill, field_at, fields_from, fields_of, in_operands, line_by, line_in, line}
use Rattle.text_assembly.specs.Theorems.{has_line}
use Rattle.text_assembly.proofs.LineLaws.{some_same, none-some}
use Rattle.unit_table.specs.Table.{number_in, entry_of, rest_right}
use Rattle.unit_table.proofs.TableLaws.{number_is}
use Rattle.text_read.specs.Table.{no_row, row_at}
use Rattle.text_read.specs.Parts.{next_scale}
use Rattle.text_read.proofs.RowLaws.{rows_are}
use Rattle.text_write.specs.Parts.{field_by, is_minus, piece_text, scale_after, text_from, line_text, finds}

-- ---- the place of the i-th operand

abbrev scale_at : ℕ → ℕ
scale_at zero = 128
scale_at (suc zero) = 32768
scale_at (suc (suc zero)) = 0x10_0000
scale_at (suc (suc (suc i))) = 0

next-at : (i : ℕ) → next_scale (scale_at i) ≡ scale_at (suc i)
next-at zero = refl
next-at (suc zero) = refl
next-at (suc (suc zero)) = refl
next-at (suc (suc (suc i))) = refl

field-at : (i : ℕ) (o : Operand) (w : ℕ) → field_by (scale_at i) o w ≡ field_at i o w
field-at i wide w = refl
field-at zero (below n) w = refl
field-at zero small w = refl
field-at (suc zero) (below n) w = refl
field-at (suc zero) small w = refl
field-at (suc (suc zero)) (below n) w = refl
field-at (suc (suc zero)) small w = refl
field-at (suc (suc (suc i))) (below n) w = refl
field-at (suc (suc (suc i))) small w = refl

-- ---- a row

text-is : (t : List ℕ) (i w : ℕ) → text_from t (scale_at i) w ≡ fill (map piece_of t) (fields_from i (operands_in (map piece_of t)) w)
text-is [] i w = refl
text-is (c ∷ t) i w = go (is_mark c) (λ i. text-is t i w)
  where
    ps : List Piece
    ps = map piece_of t

    go : (m : Bool) → ((i : ℕ) → text_from t (scale_at i) w ≡ fill ps (fields_from i (operands_in ps) w))
        → cond m (shown (operand_of c) (field_by (scale_at i) (operand_of c) w)) (c ∷ []) ++ text_from t (cond m (next_scale (scale_at i)) (scale_at i)) w
        ≡ fill (cond m (operand (operand_of c)) (letter c) ∷ ps) (fields_from i (operands_in (cond m (operand (operand_of c)) (letter c) ∷ ps)) w)
    go true ih = ap₂ (λ (x : ℕ) (y : List ℕ). shown (operand_of c) x ++ y) (field-at i (operand_of c) w) (ap (λ (z : ℕ). text_from t z w) (next-at i) ∙ ih (suc i))
    go false ih = ap (λ (z : List ℕ). c ∷ z) (ih i)

-- row k
pub row-text : (k w : ℕ) → text_from (bytes (row_at k).text) 128 w ≡ fill (pieces (row_at k).text) (fields_of (pieces (row_at k).text) w)
row-text k w = text-is (bytes (row_at k).text) 0 w

-- ---- the row of a word

-- where the number of a word's row leads
pub record Led (numbers : List ℕ) (w k : ℕ) (rs : List Row) (s : List ℕ) : Type 0 where
  pub row : ℕ
  pub below : row < length rs
  pub leads : get_or numbers (number_in w rs) 0 ≡ k + row
  pub some_number : 0 < number_in w rs
  pub line-is : line_by (pieces (get_or rs row no_row).text) w ≡ some s

led : (numbers : List ℕ) (w k : ℕ) (rs : List Row) (s : List ℕ) → finds numbers k rs ≡ true → line_in w rs ≡ some s → Led numbers w k rs s
led numbers w k [] s h e = absurd (none-some e)
led numbers w k (r ∷ rs) s h e = go (has w r.code.fixed) refl e (led numbers w (suc k) rs s (and_right (ltb 0 r.code.number && eqb (get_or numbers r.code.number 0) k) (finds numbers (suc k) rs) h))
  where
    here : ltb 0 r.code.number && eqb (get_or numbers r.code.number 0) k ≡ true
    here = and_left (ltb 0 r.code.number && eqb (get_or numbers r.code.number 0) k) (finds numbers (suc k) rs) h

    go : (b : Bool) → has w r.code.fixed ≡ b → cond b (line_by (pieces r.text) w) (line_in w rs) ≡ some s
        → (line_in w rs ≡ some s → Led numbers w (suc k) rs s) → Led numbers w k (r ∷ rs) s
    go true q e ih =
        let n : number_in w (r ∷ rs) ≡ r.code.number = ap (λ (b : Bool). cond b r.code.number (number_in w rs)) q in
        let at = eqb-true (get_or numbers r.code.number 0) k (and_right (ltb 0 r.code.number) (eqb (get_or numbers r.code.number 0) k) here) in
        let some-here = ltb-true 0 r.code.number (and_left (ltb 0 r.code.number) (eqb (get_or numbers r.code.number 0) k) here) in
        let z : k ≡ k + 0 = omega arith in
        record {
          row = 0;
          below = omega arith;
          leads = ap (λ (x : ℕ). get_or numbers x 0) n ∙ at ∙ z;
          some_number = subst (λ (x : ℕ). 0 < x) (sym n) some-here;
          line-is = e;
        }
    go false q e ih =
        let l = ih e in
        let n : number_in w (r ∷ rs) ≡ number_in w rs = ap (λ (b : Bool). cond b r.code.number (number_in w rs)) q in
        let z : suc k + l.row ≡ k + suc l.row = omega arith in
        record {
          row = suc l.row;
          below = omega (arith, l.below);
          leads = ap (λ (x : ℕ). get_or numbers x 0) n ∙ l.leads ∙ z;
          some_number = subst (λ (x : ℕ). 0 < x) (sym n) l.some_number;
          line-is = l.line-is;
        }

-- the table's number is the listing's
entry-number : (w : ℕ) → 0 < number_in w listing → entry_of w ≡ number_in w listing
entry-number w h = go (rest_right (entry_of w) w) (number_is w)
  where
    go : (t : Bool) → number_in w listing ≡ cond t (entry_of w) 0 → entry_of w ≡ number_in w listing
    go true e = sym e
    go false e = absurd (omega (arith, h, e))

filled : (ps : List Piece) (w : ℕ) (s : List ℕ) → line_by ps w ≡ some s → fill ps (fields_of ps w) ≡ s
filled ps w s h = go (in_operands (operands_in ps) (fields_of ps w)) h
  where
    go : (b : Bool) → cond b (some (fill ps (fields_of ps w))) none ≡ some s → fill ps (fields_of ps w) ≡ s
    go true e = some_same e
    go false e = absurd (none-some e)

in-listing : (w : ℕ) (s : List ℕ) → line w ≡ some s → line_in w listing ≡ some s
unfolding line
in-listing w s h = go (eqb (bits 6 0 w) 119) h
  where
    go : (b : Bool) → cond b (line_in w listing) none ≡ some s → line_in w listing ≡ some s
    go true e = e
    go false e = absurd (none-some e)

pub row-led : (numbers : List ℕ) (w n k : ℕ) → finds numbers 0 listing ≡ true → n ≡ entry_of w → k ≡ get_or numbers n 0 → has_line (line w) ≡ true
    → (k < 79) × (fill (pieces (row_at k).text) (fields_of (pieces (row_at k).text) w) ≡ line_text (line w))
unfolding row_at
row-led numbers w n k f e i h = go (line w) refl h
  where
    go : (x : Option (List ℕ)) → line w ≡ x → has_line x ≡ true
        → (k < 79) × (fill (pieces (get_or listing k no_row).text) (fields_of (pieces (get_or listing k no_row).text) w) ≡ line_text x)
    go none q h = absurd (false-true h)
    go (some s) q h =
        let l = led numbers w 0 listing s f (in-listing w s q) in
        let z : 0 + l.row ≡ l.row = omega arith in
        let at : k ≡ l.row = i ∙ ap (λ (x : ℕ). get_or numbers x 0) (e ∙ entry-number w l.some_number) ∙ l.leads ∙ z in
        let b : k < 79 = omega (arith, at, l.below, rows_are) in
        (b, subst (λ (x : ℕ). fill (pieces (get_or listing x no_row).text) (fields_of (pieces (get_or listing x no_row).text) w) ≡ s) (sym at) (filled (pieces (get_or listing l.row no_row).text) w s l.line-is))

-- ---- for code

pub minus-text : (o : Operand) (v : ℕ) → is_minus o v ≡ true → shown o v ≡ 45 ∷ decimal (32 - v)
minus-text (below n) v h = absurd (false-true h)
minus-text wide v h = absurd (false-true h)
minus-text small v h = rw (le-ltb v 16 (leb-true 16 v h))

pub plus-text : (o : Operand) (v : ℕ) → is_minus o v ≡ false → shown o v ≡ decimal v
plus-text (below n) v h = refl
plus-text wide v h = refl
plus-text small v h = rw (lt-ltb v 16 (leb-false 16 v h))

module _ (t : List ℕ) (i scale w : ℕ) where
  pub text-end : length t ≤ i → text_from (drop i t) scale w ≡ []
  text-end h = rw (drop_of_length-le t h)

  pub text-on : i < length t → text_from (drop i t) scale w ≡ piece_text (get_or t i 0) scale w ++ text_from (drop (i + 1) t) (scale_after (get_or t i 0) scale) w
  text-on h = rw (drop-cons t i 0 h) (ap (λ (z : ℕ). piece_text (get_or t i 0) scale w ++ text_from (drop z t) (scale_after (get_or t i 0) scale) w) (sym (add-one i)))
