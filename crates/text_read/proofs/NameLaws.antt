-- A line that has a row's name, up to the space, is a line of that row or of none.
use mathlib.Core.Path.{◌≡◌, refl, sym, ap, ap₂, ◌∙◌, subst}
use mathlib.Core.Bool.{Bool, true, false, cond, not, ◌&&◌, ◌||◌}
use mathlib.Core.List.{List, [], ◌∷◌, ◌++◌, append-nil}
use mathlib.Core.Logic.{⊎_elim}
use Prim.Native.Nat.{ℕ, zero, suc, ◌≤◌}
use native.Mathlib.Omega.{arith}
use lib.Dec.{eqb}
use lib.ListN.{length, take}
use lib.Seq.{take-take, take_at, take-length, take-append-le, length-take-le}
use borrow.Author.Tests.{eqb-false}
use Rattle.machine.specs.Listing.{Row, listing}
use Rattle.machine.proofs.TestLaws.{false-true}
use Rattle.numbers_format.specs.Formats.{Ends}
use Rattle.numbers_format.specs.Parser.{Parsed}
use Rattle.numbers_format.specs.Parser.Parsed.{whole, stopped}
use Rattle.numbers_format.proofs.FormatLaws.{ends-one}
use Rattle.text_assembly.specs.Lines.{Piece, letter, operand, pieces, fill, word_with}
use Rattle.text_assembly.specs.Reading.{read_pieces, as_word, read_line}
use Rattle.text_assembly.specs.Theorems.{IsLine, ReadRight}
use Rattle.text_assembly.proofs.PieceLaws.{Texts, PiecesRight, pieces-right}
use Rattle.text_assembly.proofs.LineLaws.{Among, apart, two-names, tidy_of, prints-comes, comes-prints, reads-right, reads-back}
use Rattle.text_read.specs.Parts.{read_row, space_in}

-- lines of rows with two names differ up to the first space
names-differ : (ps qs : List Piece) (vs ws : List ℕ) → apart ps qs ≡ true → (m : ℕ) → space_in m (fill ps vs) ≡ true → ¬ (take m (fill ps vs) ≡ take m (fill qs ws))
names-differ ps qs vs ws h zero k e = absurd (false-true k)
names-differ [] qs vs ws h (suc m) k e = absurd (false-true h)
names-differ (operand o ∷ ps) qs vs ws h (suc m) k e = absurd (false-true h)
names-differ (letter c ∷ ps) [] vs ws h (suc m) k e = absurd (false-true h)
names-differ (letter c ∷ ps) (operand o ∷ qs) vs ws h (suc m) k e = absurd (false-true h)
names-differ (letter c ∷ ps) (letter d ∷ qs) vs ws h (suc m) k e =
    go (eqb c d) refl (eqb c 32) h k (λ a b. names-differ ps qs vs ws a m b (let z : take m (fill ps vs) ≡ take m (fill qs ws) = cc in z))
  where
    go : (t : Bool) → eqb c d ≡ t → (u : Bool) → cond t (not u && apart ps qs) true ≡ true → u || space_in m (fill ps vs) ≡ true
        → (apart ps qs ≡ true → space_in m (fill ps vs) ≡ true → ⊥) → ⊥
    go true q true h k ih = false-true h
    go true q false h k ih = ih h k
    go false q u h k ih = eqb-false c d q (let z : c ≡ d = cc in z)

spaces : (m : ℕ) (x y : List ℕ) → take m x ≡ take m y → space_in m x ≡ space_in m y
spaces zero x y e = refl
spaces (suc m) [] [] e = refl
spaces (suc m) [] (b ∷ y) e = let z : ◌≡◌ {A = ℕ} 0 1 = cc in absurd (omega arith)
spaces (suc m) (a ∷ x) [] e = let z : ◌≡◌ {A = ℕ} 0 1 = cc in absurd (omega arith)
spaces (suc m) (a ∷ x) (b ∷ y) e =
    let c : a ≡ b = cc in
    let d : take m x ≡ take m y = cc in
    ap₂ (λ (t u : Bool). t || u) (ap (λ (z : ℕ). eqb z 32) c) (spaces m x y d)

-- a row that stops behind the first space says where the line stops
module _ (q : Row) (among : Among q listing) (s : List ℕ) (p : ℕ) (h : Ends (Texts (pieces q.text)) s p × ¬ Texts (pieces q.text) s) (space : space_in p s ≡ true) where
  alone : (r : Row) → Among r listing → (n : ℕ) → p ≤ n → n ≤ length s → (u : List ℕ) → Texts (pieces r.text) (take n s ++ u) → q ≡ r
  alone r a n l m u t =
      let g = h.0.goes_on in
      let ours : fill (pieces q.text) g.1.0 ≡ take p s ++ g.0 = sym g.1.1.1 in
      let theirs : fill (pieces r.text) t.0 ≡ take n s ++ u = sym t.1.1 in
      let front : take p (take p s ++ g.0) ≡ take p s = take_at (take p s) g.0 p (length-take-le p s h.0.there) in
      let other : take p (take n s ++ u) ≡ take p s = take-append-le p (take n s) u (omega (arith, length-take-le n s m)) ∙ take-take p n s l in
      ⊎_elim (λ e. e)
      (λ e. absurd (names-differ (pieces q.text) (pieces r.text) g.1.0 t.0 e p
      (ap (space_in p) ours ∙ spaces p (take p s ++ g.0) s front ∙ space)
      (ap (take p) ours ∙ front ∙ sym (ap (take p) theirs ∙ other))))
      (two-names q r among a)

  ends : Ends IsLine s p
  ends = record {
    there = h.0.there;
    goes_on =
        let g = h.0.goes_on in
        let w : ℕ = word_with q.code.fixed g.1.0 in
        (g.0, (w, comes-prints w (take p s ++ g.0) (record { row = q; among = among; values = g.1.0; has = g.1.1; word = refl })));
    stops = λ l u k.
        let c = prints-comes k.0 (take (suc p) s ++ u) k.1 in
        let t : Texts (pieces c.row.text) (take (suc p) s ++ u) = (c.values, c.has) in
        h.0.stops l u (subst (λ (z : Row). Texts (pieces z.text) (take (suc p) s ++ u)) (sym (alone c.row c.among (suc p) (omega arith) (omega (arith, l)) u t)) t);
  }

  no_line : ¬ IsLine s
  no_line k =
      let c = prints-comes k.0 s k.1 in
      let t : Texts (pieces c.row.text) s = (c.values, c.has) in
      let e : s ≡ take (length s) s ++ [] = sym (append-nil s) ∙ ap (λ (z : List ℕ). z ++ []) (sym (take-length s)) in
      h.1 (subst (λ (z : Row). Texts (pieces z.text) s)
      (sym (alone c.row c.among (length s) h.0.there (omega arith) [] (subst (Texts (pieces c.row.text)) e t))) t)

  stops-there : stopped p ≡ read_line s
  stops-there = go (read_line s) (reads-right s)
    where
      go : (r : Parsed ℕ) → ReadRight s r → stopped p ≡ r
      go (whole w) k = absurd (no_line (w, k))
      go (stopped x) k = ap stopped (ends-one IsLine s p x ends k.0)

-- what a row finds
pub row-stops : (q : Row) → Among q listing → (s : List ℕ) (p : ℕ) → read_row q s ≡ stopped p → space_in p s ≡ true → stopped p ≡ read_line s
row-stops q a s p e h = go (read_pieces (pieces q.text) s) (pieces-right (pieces q.text) (tidy_of q a) s) e
  where
    go : (x : Parsed (List ℕ)) → PiecesRight (pieces q.text) s x → as_word q.code.fixed x ≡ stopped p → stopped p ≡ read_line s
    go (whole vs) r e = let z : ◌≡◌ {A = ℕ} 0 1 = cc in absurd (omega arith)
    go (stopped x) r e =
        let z : x ≡ p = cc in
        stops-there q a s p (subst (λ (y : ℕ). Ends (Texts (pieces q.text)) s y × ¬ Texts (pieces q.text) s) z r) h

pub row-finds : (q : Row) → Among q listing → (s : List ℕ) (w : ℕ) → read_row q s ≡ whole w → whole w ≡ read_line s
row-finds q a s w e = go (read_pieces (pieces q.text) s) (pieces-right (pieces q.text) (tidy_of q a) s) e
  where
    go : (x : Parsed (List ℕ)) → PiecesRight (pieces q.text) s x → as_word q.code.fixed x ≡ whole w → whole w ≡ read_line s
    go (stopped x) r e = let z : ◌≡◌ {A = ℕ} 0 1 = cc in absurd (omega arith)
    go (whole vs) r e =
        let z : word_with q.code.fixed vs ≡ w = cc in
        sym (reads-back w s (comes-prints w s (record { row = q; among = a; values = vs; has = r; word = sym z })))
