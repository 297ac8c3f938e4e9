-- How long a line is.
use Rattle.numbers.proofs.Kit.{◌≡◌, refl, sym, ap, subst, inl, inr, ⊎_elim, Bool, true, false, cond, ◌&&◌, List, [], ◌∷◌, ℕ, suc, ◌+◌, ◌-◌, ◌≤◌, ◌<◌, arith}
use Rattle.numbers.proofs.Kit.{leb, length, length-append, leb-true, lt-ltb, le-ltb}
use Rattle.numbers.proofs.BlockLaws.{le-or-lt}
use Rattle.machine.specs.Listing.{Row, listing}
use Rattle.machine.proofs.TestLaws.{and_left, and_right}
use Rattle.text_lines.specs.Lines.{decimal}
use Rattle.text_lines.proofs.WriteLaws.{decimal-room, length-one}
use Rattle.text_assembly.specs.Lines.{Operand, Piece, below, wide, small, letter, operand, operand_count, shown, pieces, operands_in, fill}
use Rattle.text_assembly.specs.Theorems.{LinesAreShort}
use Rattle.text_assembly.proofs.PieceLaws.{Fits}
use Rattle.text_assembly.proofs.LineLaws.{Among, prints-comes}

-- the longest text of an operand
abbrev widest : Operand → ℕ
widest (below n) = cond (leb n 10) 1 2
widest wide = 4
widest small = 3

abbrev size : List Piece → ℕ
size [] = 0
size (letter c ∷ ps) = suc (size ps)
size (operand o ∷ ps) = widest o + size ps

-- a register's number has two digits at most
abbrev fair : Operand → Bool
fair (below n) = leb n 100
fair wide = true
fair small = true

abbrev short_count : List Piece → Bool
short_count [] = true
short_count (letter c ∷ ps) = short_count ps
short_count (operand o ∷ ps) = fair o && short_count ps

abbrev all_short : List Row → Bool
all_short [] = true
all_short (r ∷ rs) = leb (size (pieces r.text)) 32 && (short_count (pieces r.text) && all_short rs)

texts-short : all_short listing ≡ true
unfolding listing
texts-short = refl

shown-size : (o : Operand) (v : ℕ) → fair o ≡ true → v < operand_count o → length (shown o v) ≤ widest o
shown-size (below n) v h k = go (leb n 10) refl
  where
    go : (t : Bool) → leb n 10 ≡ t → length (decimal v) ≤ cond t 1 2
    go true e = omega (arith, length-one v (omega (arith, leb-true n 10 e, k)))
    go false e = decimal-room 1 v (omega (arith, leb-true n 100 h, k))
shown-size wide v h k = decimal-room 3 v (omega arith)
shown-size small v h k = ⊎_elim
    (λ l. let r = decimal-room 1 (32 - v) (omega arith) in rw (le-ltb v 16 l) (omega (arith, r)))
    (λ l. let r = decimal-room 1 v (omega arith) in rw (lt-ltb v 16 l) (omega (arith, r)))
    (le-or-lt 16 v)

fill-size : (ps : List Piece) (vs : List ℕ) → short_count ps ≡ true → Fits (operands_in ps) vs → length (fill ps vs) ≤ size ps
fill-size [] vs s h = omega arith
fill-size (letter c ∷ ps) vs s h = omega (arith, fill-size ps vs s h)
fill-size (operand o ∷ ps) [] s h = absurd h
fill-size (operand o ∷ ps) (v ∷ vs) s h =
    omega (arith, length-append (shown o v) (fill ps vs), shown-size o v (and_left (fair o) (short_count ps) s) h.0, fill-size ps vs (and_right (fair o) (short_count ps) s) h.1)

abbrev Short : Row → Type 0
Short q = (size (pieces q.text) ≤ 32) × (short_count (pieces q.text) ≡ true)

among-short : (rs : List Row) → all_short rs ≡ true → (q : Row) → Among q rs → Short q
among-short [] h q a = absurd a
among-short (r ∷ rs) h q (inl a) =
    let k = and_right (leb (size (pieces r.text)) 32) (short_count (pieces r.text) && all_short rs) h in
    subst Short (sym a)
    (leb-true (size (pieces r.text)) 32 (and_left (leb (size (pieces r.text)) 32) (short_count (pieces r.text) && all_short rs) h), and_left (short_count (pieces r.text)) (all_short rs) k)
among-short (r ∷ rs) h q (inr a) =
    among-short rs (and_right (short_count (pieces r.text)) (all_short rs) (and_right (leb (size (pieces r.text)) 32) (short_count (pieces r.text) && all_short rs) h)) q a

pub line-size : LinesAreShort
line-size w s p =
    let c = prints-comes w s p in
    let k = among-short listing texts-short c.row c.among in
    let f = fill-size (pieces c.row.text) c.values k.1 c.has.0 in
    omega (arith, ap length c.has.1, k.0)
