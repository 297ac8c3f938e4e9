-- The words that have a line are those that decode.
use Rattle.numbers.proofs.Kit.{◌≡◌, refl, sym, ◌∙◌, Bool, true, false, cond, ◌&&◌, List, [], ◌∷◌, none, some, ℕ, arith, ltb, eqb, lt-ltb}
use Rattle.machine.specs.declared.Wrong.TheVariants.{Register, Opcode}
use Rattle.machine.specs.declared.Instruction.{Instruction}
use Rattle.machine.specs.declared.Instruction.TheVariants.{Illegal}
use Rattle.machine.specs.Listing.{bits, field7, field15, field20, immediate13, Row, has, listing, look_up, not_ours, in_range, ranged, decode}
use Rattle.text_assembly.specs.Lines.{Piece, pieces, operands_in, fields_of, fill, in_operands, line_by, line_in, line}
use Rattle.text_assembly.specs.Theorems.{is_legal, has_line, LegalHaveLines}

-- a row's registers are in range exactly if its text's operands are
abbrev Same : ℕ → Row → Type 0
Same w r = (is_legal (r.means w) ≡ true) × (in_range (r.means w) ≡ in_operands (operands_in (pieces r.text)) (fields_of (pieces r.text) w))

abbrev Agrees : ℕ → List Row → Type 0
Agrees w [] = Unit {0}
Agrees w (r ∷ rs) = Same w r × Agrees w rs

module _ (w : ℕ) where
  low : ltb (field7 w) 32 ≡ true
  low = lt-ltb (field7 w) 32 (omega arith)

  middle : ltb (field15 w) 32 ≡ true
  middle = lt-ltb (field15 w) 32 (omega arith)

  high : ltb (field20 w) 32 ≡ true
  high = lt-ltb (field20 w) 32 (omega arith)

  setting_i : true ≡ ltb (field7 w) 32 && (ltb (immediate13 w) 8192 && true)
  setting_i = rw (low, lt-ltb (immediate13 w) 8192 (omega arith))

  setting : true ≡ ltb (field7 w) 32 && (ltb (field15 w) 32 && true)
  setting = rw (low, middle)

  and-true : (b : Bool) → b ≡ b && true
  and-true true = refl
  and-true false = refl

  moving : (n : ℕ) → ltb (field7 w) n ≡ ltb (field7 w) n && (ltb (field15 w) 32 && (ltb (field20 w) 32 && true))
  moving n = rw (middle, high) (and-true (ltb (field7 w) n))

  moving_out : ltb (field15 w) 2 ≡ ltb (field7 w) 32 && (ltb (field15 w) 2 && (ltb (field20 w) 32 && true))
  moving_out = rw (low, high) (and-true (ltb (field15 w) 2))

  scaling : ltb (field7 w) 2 && (ltb (field15 w) 2 && true) ≡ ltb (field7 w) 2 && (ltb (field15 w) 2 && (ltb (field20 w) 32 && true))
  scaling = rw high

-- the first row's, and the others'
infixr 5 ◌and◌
pub ◌and◌ : {A B : Type 0} → A → B → A × B
a and b = (a, b)

agrees : (w : ℕ) → Agrees w listing
unfolding listing
agrees w =
    (refl, setting_i w)
    and (refl, setting w)
    and (refl, setting_i w)
    and (refl, setting w)
    and (refl, setting_i w)
    and (refl, setting w)
    and (refl, setting_i w)
    and (refl, setting w)
    and (refl, moving w 8)
    and (refl, moving w 8)
    and (refl, moving w 8)
    and (refl, moving w 8)
    and (refl, moving w 8)
    and (refl, moving w 8)
    and (refl, moving w 8)
    and (refl, moving w 8)
    and (refl, moving w 2)
    and (refl, moving w 2)
    and (refl, moving w 2)
    and (refl, moving w 2)
    and (refl, moving w 8)
    and (refl, moving w 8)
    and (refl, moving w 8)
    and (refl, moving w 8)
    and (refl, moving w 8)
    and (refl, moving w 8)
    and (refl, moving w 8)
    and (refl, moving w 8)
    and (refl, moving w 2)
    and (refl, moving w 2)
    and (refl, moving w 2)
    and (refl, moving w 2)
    and (refl, moving w 8)
    and (refl, moving w 8)
    and (refl, moving w 8)
    and (refl, moving w 8)
    and (refl, moving w 8)
    and (refl, moving w 8)
    and (refl, moving w 8)
    and (refl, moving w 8)
    and (refl, moving w 2)
    and (refl, moving w 2)
    and (refl, moving w 2)
    and (refl, moving w 2)
    and (refl, moving w 8)
    and (refl, moving w 8)
    and (refl, moving w 8)
    and (refl, moving w 8)
    and (refl, moving w 8)
    and (refl, moving w 8)
    and (refl, moving w 8)
    and (refl, moving w 8)
    and (refl, moving w 2)
    and (refl, moving w 2)
    and (refl, moving w 2)
    and (refl, moving w 2)
    and (refl, moving_out w)
    and (refl, moving w 2)
    and (refl, moving_out w)
    and (refl, moving w 2)
    and (refl, refl)
    and (refl, refl)
    and (refl, refl)
    and (refl, refl)
    and (refl, refl)
    and (refl, refl)
    and (refl, refl)
    and (refl, refl)
    and (refl, refl)
    and (refl, refl)
    and (refl, refl)
    and (refl, refl)
    and (refl, refl)
    and (refl, scaling w)
    and (refl, scaling w)
    and (refl, scaling w)
    and (refl, scaling w)
    and (refl, scaling w)
    and (refl, scaling w)
    and tt

legal-ranged : (i : Instruction) → is_legal i ≡ true → is_legal (ranged i) ≡ in_range i
legal-ranged i h = go (in_range i)
  where
    go : (b : Bool) → is_legal (cond b i (Illegal Register)) ≡ b
    go true = h
    go false = refl

has-by : (ps : List Piece) (w : ℕ) → has_line (line_by ps w) ≡ in_operands (operands_in ps) (fields_of ps w)
has-by ps w = go (in_operands (operands_in ps) (fields_of ps w))
  where
    go : (b : Bool) → has_line (cond b (some (fill ps (fields_of ps w))) none) ≡ b
    go true = refl
    go false = refl

legal-in : (w : ℕ) (rs : List Row) → Agrees w rs → has_line (line_in w rs) ≡ is_legal (ranged (look_up w (not_ours w) rs))
legal-in w [] a = refl
legal-in w (r ∷ rs) a = go (has w r.code.fixed) (legal-in w rs a.1)
  where
    go : (b : Bool) → has_line (line_in w rs) ≡ is_legal (ranged (look_up w (not_ours w) rs))
        → has_line (cond b (line_by (pieces r.text) w) (line_in w rs)) ≡ is_legal (ranged (cond b (r.means w) (look_up w (not_ours w) rs)))
    go true ih = has-by (pieces r.text) w ∙ sym a.0.1 ∙ sym (legal-ranged (r.means w) a.0.0)
    go false ih = ih

pub legal-have-lines : LegalHaveLines
unfolding line decode
legal-have-lines w = go (eqb (bits 6 0 w) 119)
  where
    go : (b : Bool) → has_line (cond b (line_in w listing) none) ≡ is_legal (cond b (ranged (look_up w (not_ours w) listing)) (Illegal Opcode))
    go true = legal-in w listing (agrees w)
    go false = refl
