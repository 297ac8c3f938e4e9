-- Multipliers, and a decoded word's fields.
use Rattle.numbers.proofs.Kit.{◌≡◌, refl, sym, ap, ◌∙◌, subst, Bool, true, false, cond, [], ◌∷◌, ℕ, zero, suc, ◌+◌, ◌-◌, ◌%◌, ◌^◌, ◌≤◌, ◌<◌, mod-eq_of_lt}
use Rattle.numbers.proofs.Kit.{arith, ltb, eqb, pos, negsuc, lt-ltb, le-ltb, ltb-true, ltb-false, ne_eqb}
use Rattle.numbers.specs.Reduce.{reduce, signed}
use Rattle.numbers.proofs.ReduceLaws.{widened, reduce-signed}
use Rattle.machine.specs.declared.Instruction.{Instruction}
use Rattle.machine.specs.declared.Instruction.TheVariants.{Illegal, SetTypeImmediate, SetType, SetTileImmediate, SetTile, Load, Store, Multiply, Combine, Scale, ScaleImmediate, FloatMultiply, MoveOut, MoveIn}
use Rattle.machine.specs.Listing.{decode, in_range}
use Rattle.machine.specs.Tests.{is_in}
use Rattle.machine.specs.Geometry.{elens, register_count}
use Rattle.machine.specs.Setting.{sew, new_type}
use Rattle.machine.specs.ArithmeticWords.{is_zero}
use Rattle.machine.proofs.TestLaws.{every-each, each, each_in}
use Rattle.machine.proofs.CodeLaws.{bounded, decode-bounded, legal_types, types_are}
use Rattle.unit_step.specs.Parts.{Multiplier, Decoded}

-- ---- multipliers

zero-pos : (x : ℕ) → is_zero (pos x) ≡ eqb x 0
zero-pos zero = refl
zero-pos (suc x) = sym (ne_eqb (suc x) 0 (λ e. absurd (omega arith)))

pub extend-low : (x half : ℕ) → x < half → half ≤ 0x8000_0000 → (x ≡ reduce (2 ^ 64) (signed (half + half) x)) × (is_zero (signed (half + half) x) ≡ eqb x 0)
extend-low x half l h =
    let t : ltb (x + x) (half + half) ≡ true = lt-ltb (x + x) (half + half) (omega arith) in
    (sym (widened (half + half) (2 ^ 64) x (omega arith) (omega arith) ∙ rw t), rw t (zero-pos x))

pub extend-high : (x half r : ℕ) → half ≤ x → x < half + half → half ≤ 0x8000_0000 → r ≡ x + (0xffff_ffff_ffff_ffff - (half + half - 1))
    → (r ≡ reduce (2 ^ 64) (signed (half + half) x)) × (is_zero (signed (half + half) x) ≡ eqb r 0)
extend-high x half r g l h e =
    let t : ltb (x + x) (half + half) ≡ false = le-ltb (x + x) (half + half) (omega arith) in
    (e ∙ sym (widened (half + half) (2 ^ 64) x l (omega arith) ∙ rw t (omega arith)), rw t (sym (ne_eqb r 0 (λ z. absurd (omega arith)))))

-- at SEW 64 the scalar itself
pub whole_word : (v : ℕ) → v < 2 ^ 64 → (v ≡ reduce (2 ^ 64) (signed (2 ^ 64) (v % 2 ^ 64))) × (is_zero (signed (2 ^ 64) (v % 2 ^ 64)) ≡ eqb v 0)
whole_word v h =
    let e : v % 0x1_0000_0000_0000_0000 ≡ v = mod-eq_of_lt h in
    subst (λ (x : ℕ). (v ≡ reduce (2 ^ 64) (signed (2 ^ 64) x)) × (is_zero (signed (2 ^ 64) x) ≡ eqb v 0)) (sym e)
    (sym (reduce-signed 0x1_0000_0000_0000_0000 (omega arith) v h), by (ltb (v + v) 0x1_0000_0000_0000_0000) refl)
  where
    by : (t : Bool) → ltb (v + v) 0x1_0000_0000_0000_0000 ≡ t → is_zero (cond t (pos v) (negsuc (0x1_0000_0000_0000_0000 - suc v))) ≡ eqb v 0
    by true e = zero-pos v
    by false e = let l = ltb-false (v + v) 0x1_0000_0000_0000_0000 e in sym (ne_eqb v 0 (λ z. absurd (omega arith)))

pub multiplier-is : (t k v r : ℕ) → t % 8 ≡ k → (r ≡ reduce (2 ^ 64) (signed (256 ^ (2 ^ k)) (v % 256 ^ (2 ^ k)))) × (is_zero (signed (256 ^ (2 ^ k)) (v % 256 ^ (2 ^ k))) ≡ eqb r 0)
    → Multiplier (signed (256 ^ sew t) (v % 256 ^ sew t)) r
unfolding sew
multiplier-is t k v r e h =
    subst (λ (k : ℕ). Multiplier (signed (256 ^ (2 ^ k)) (v % 256 ^ (2 ^ k))) r) (sym e) (record { residue = sym h.0; zero_is = h.1 })

-- a decoded word's fields
in-range : (i : Instruction) → bounded i ≡ true → in_range i ≡ true → Decoded i
in-range (Illegal wrong) b r = tt
in-range (SetTypeImmediate rd immediate) b r = ltb-true rd 32 (every-each (ltb rd 32 ∷ ltb immediate 8192 ∷ []) b).0
in-range (SetType rd rs1) b r = let t = every-each (ltb rd 32 ∷ ltb rs1 32 ∷ []) b in (ltb-true rd 32 t.0, ltb-true rs1 32 t.1.0)
in-range (SetTileImmediate dimension rd immediate) b r = ltb-true rd 32 (every-each (ltb rd 32 ∷ ltb immediate 8192 ∷ []) b).0
in-range (SetTile dimension rd rs1) b r = let t = every-each (ltb rd 32 ∷ ltb rs1 32 ∷ []) b in (ltb-true rd 32 t.0, ltb-true rs1 32 t.1.0)
in-range (Load form matrix width md rs1 rs2) b r =
    let t = every-each (ltb rs1 32 ∷ ltb rs2 32 ∷ []) b in (ltb-true md (register_count matrix) r, (ltb-true rs1 32 t.0, ltb-true rs2 32 t.1.0))
in-range (Store form matrix width ms3 rs1 rs2) b r =
    let t = every-each (ltb rs1 32 ∷ ltb rs2 32 ∷ []) b in (ltb-true ms3 (register_count matrix) r, (ltb-true rs1 32 t.0, ltb-true rs2 32 t.1.0))
in-range (Multiply factor md ms1 ms2) b r =
    let t = every-each (ltb md 2 ∷ ltb ms1 8 ∷ ltb ms2 8 ∷ []) r in (ltb-true md 2 t.0, (ltb-true ms1 8 t.1.0, ltb-true ms2 8 t.1.1.0))
in-range (Combine sum factor md ms1) b r = let t = every-each (ltb md 2 ∷ ltb ms1 2 ∷ []) r in (ltb-true md 2 t.0, ltb-true ms1 2 t.1.0)
in-range (Scale factor md ms1 rs2) b r =
    let t = every-each (ltb md 2 ∷ ltb ms1 2 ∷ []) r in ((ltb-true md 2 t.0, ltb-true ms1 2 t.1.0), ltb-true rs2 32 b)
in-range (ScaleImmediate factor md ms1 immediate) b r =
    let t = every-each (ltb md 2 ∷ ltb ms1 2 ∷ []) r in ((ltb-true md 2 t.0, ltb-true ms1 2 t.1.0), ltb-true immediate 32 b)
in-range (FloatMultiply md ms1 ms2) b r =
    let t = every-each (ltb md 2 ∷ ltb ms1 8 ∷ ltb ms2 8 ∷ []) r in (ltb-true md 2 t.0, (ltb-true ms1 8 t.1.0, ltb-true ms2 8 t.1.1.0))
in-range (MoveOut form vd ms1 rs2) b r =
    let t = every-each (ltb vd 32 ∷ ltb rs2 32 ∷ []) b in ((ltb-true ms1 2 r, ltb-true vd 32 t.0), ltb-true rs2 32 t.1.0)
in-range (MoveIn form md vs1 rs2) b r =
    let t = every-each (ltb vs1 32 ∷ ltb rs2 32 ∷ []) b in ((ltb-true md 2 r, ltb-true vs1 32 t.0), ltb-true rs2 32 t.1.0)

pub decoded : (word : ℕ) (i : Instruction) → i ≡ decode word → Decoded i
decoded word i e = subst Decoded (sym e) (let h = decode-bounded word in in-range (decode word) h.0 h.1)

-- an mtype that can arise has msew 0, 1, 2 or 3
pub type-small : (elen t : ℕ) → is_in elen elens ≡ true → new_type elen t ≡ t → t % 8 < 4
type-small elen t known e = go (is_in t (legal_types elen)) refl
  where
    low : each (legal_types elen) (λ v. ltb (v % 8) 4) ≡ true
    low = each_in elen elens (λ e. each (legal_types e) (λ v. ltb (v % 8) 4)) refl known

    go : (b : Bool) → is_in t (legal_types elen) ≡ b → t % 8 < 4
    go true d = ltb-true (t % 8) 4 (each_in t (legal_types elen) (λ v. ltb (v % 8) 4) low d)
    go false d = let z : t ≡ 2 ^ 63 = sym e ∙ types_are elen known t ∙ ap (λ (b : Bool). cond b t (2 ^ 63)) d in subst (λ (t : ℕ). t % 8 < 4) (sym z) (omega arith)
