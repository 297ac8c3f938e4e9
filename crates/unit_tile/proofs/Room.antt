-- What `load` and `store` require follows from a sound machine and the checks of answers 2 to 4.
use Rattle.numbers.proofs.Kit.{◌≡◌, refl, sym, ap, ◌∙◌, Bool, true, false, ◌&&◌, ◌||◌, List, [], ◌∷◌, ℕ, zero, suc, ◌+◌, ◌*◌, ◌/◌, ◌≤◌, ◌<◌}
use Rattle.numbers.proofs.Kit.{mul-le-mul_right, div-mul-le_self, arith, eqb, leb, length, eqb-true, leb-true}
use Rattle.numbers.specs.Blocks.{Choice}
use Rattle.machine.specs.declared.Machine.{Machine}
use Rattle.machine.specs.declared.Matrix.{Matrix}
use Rattle.machine.specs.declared.Matrix.TheVariants.{MatrixA, MatrixB, MatrixC}
use Rattle.machine.specs.declared.Refusal.TheVariants.{BadWidth}
use Rattle.machine.specs.Answers.{Check, ◌otherwise◌}
use Rattle.machine.specs.Geometry.{Parameters, parameters, State, state_of, start_of, pitch_of, register_count}
use Rattle.machine.specs.Setting.{sew, maccq, maximum}
use Rattle.machine.specs.Operation.{tile_rows, tile_cols, rows_of, columns_of}
use Rattle.machine.specs.Refusals.{typed, fitting}
use Rattle.machine.specs.TransferWords.{width_of}
use Rattle.machine.specs.Faults.{sound}
use Rattle.numbers.proofs.PutLaws.{row_fits}
use Rattle.machine.proofs.TestLaws.{and_right}
use Rattle.machine.proofs.CheckLaws.{Passed}
use Rattle.machine.proofs.StepLaws.{permitted-lengths}
use Rattle.machine.proofs.NoFault.{sound-is}
use Rattle.unit_tile.specs.Checks.{RowsIn}

-- ---- widths and registers

-- the widest element of a tile, in bytes, by SEW
abbrev pub widest : Matrix → ℕ → ℕ
widest MatrixA s = s
widest MatrixB s = s
widest MatrixC s = 4 * s

pub width-most : (elen t : ℕ) (k : Matrix) (w : ℕ) → width_of elen t k w ≡ true → w ≤ widest k (sew t)
unfolding width_of
width-most elen t MatrixA w h = omega (arith, eqb-true w (sew t) h)
width-most elen t MatrixB w h = omega (arith, eqb-true w (sew t) h)
width-most elen t MatrixC w h =
    go (eqb w (sew t)) refl (eqb w (2 * sew t)) refl (and_right (leb (8 * w) elen) (eqb w (sew t) || (eqb w (2 * sew t) || (maccq t && eqb w (4 * sew t)))) h)
  where
    go : (x : Bool) → eqb w (sew t) ≡ x → (y : Bool) → eqb w (2 * sew t) ≡ y → x || (y || (maccq t && eqb w (4 * sew t))) ≡ true → w ≤ 4 * sew t
    go true e y f h = omega (arith, eqb-true w (sew t) e)
    go false e true f h = omega (arith, eqb-true w (2 * sew t) f)
    go false e false f h = omega (arith, eqb-true w (4 * sew t) (and_right (maccq t) (eqb w (4 * sew t)) h))

-- rows of P bytes in register r of n, each of R rows
pub in-register : (R P rows r n : ℕ) → rows ≤ R → r < n → r * (R * P) + rows * P ≤ n * (R * P)
in-register R P rows r n h l = omega (arith, mul-le-mul_right P h, mul-le-mul_right (R * P) l)

-- columns of w bytes in a row of q times P bytes
in_row : (q P s c w : ℕ) → c ≤ P / s → w ≤ q * s → c * w ≤ q * P
in_row q P s c w h e =
    let a : w * c ≤ q * s * c = mul-le-mul_right c e in
    let b : c * s * q ≤ P / s * s * q = mul-le-mul_right q (mul-le-mul_right s h) in
    let d : P / s * s * q ≤ P * q = mul-le-mul_right q (div-mul-le_self P s) in
    omega arith

-- rows that fit end where they should
pub rows_end : (start pitch rows n len : ℕ) → start + rows * pitch ≤ len → n ≤ pitch → RowsIn start pitch rows n len
rows_end start pitch rows n len h f = (omega arith, λ i l. omega (arith, row_fits i rows pitch l))

-- and rows that lie one after another end there as one
pub together-end : (start pitch rows n len : ℕ) → RowsIn start pitch rows n len → n ≡ pitch → start + rows * n ≤ len
together-end start pitch zero n len h e = omega (arith, h.0)
together-end start pitch (suc k) n len h e = omega (arith, h.1 k (omega arith), ap (λ (p : ℕ). k * p) e)

-- ---- the checks of answers 2 to 4, with which those of a load and of a store begin

abbrev pub sizes : Parameters → State → Matrix → ℕ → List Check
sizes M st k w = typed st ∷ (width_of M.elen st.mtype k w otherwise BadWidth) ∷ fitting M st (rows_of k) ∷ fitting M st (columns_of k) ∷ []

-- ---- a sound machine

module _ (grant : Choice) (m : Machine) (regs marks : List ℕ) where
  abbrev M : Parameters
  M = parameters grant m

  abbrev st : State
  st = state_of m regs marks

  module _ (h : sound m regs marks ≡ true) where
    room : 16 * (M.rows * M.pitch) ≡ length regs
    room = let s = sound-is m regs marks h in (permitted-lengths m.rlen m.mlen m.elen s.lengths).2 ∙ sym s.state.regs-length

    -- the marks are as many as the register bytes
    pub same_length : length marks ≡ length regs
    same_length = let s = sound-is m regs marks h in s.state.marks-length ∙ sym s.state.regs-length

    -- a tile of at most the maximum sizes lies in its register: what first_unmarked and mark_tile require
    pub tile-fits : (k : Matrix) (r w rows cols : ℕ) → r < register_count k → w ≤ widest k (sew m.mtype)
        → rows ≤ maximum M m.mtype (rows_of k) → cols ≤ maximum M m.mtype (columns_of k)
        → (start_of M k r + rows * pitch_of M k ≤ length regs) × (cols * w ≤ pitch_of M k)
    tile-fits MatrixA r w rows cols l e f g =
        let q = in-register M.rows M.pitch rows r 8 f l in
        let c : cols ≤ M.pitch / sew m.mtype = omega arith in
        let p = in_row 1 M.pitch (sew m.mtype) cols w c (omega arith) in
        (omega (arith, room), omega arith)
    tile-fits MatrixB r w rows cols l e f g =
        let q = in-register M.rows M.pitch rows r 8 (let f' : rows ≤ M.rows = omega arith in f') l in
        let p = in_row 1 M.pitch (sew m.mtype) cols w g (omega arith) in
        (omega (arith, room), omega arith)
    tile-fits MatrixC r w rows cols l e f g =
        let q = in-register M.rows (4 * M.pitch) rows r 2 f l in
        (omega (arith, room), in_row 4 M.pitch (sew m.mtype) cols w g e)

    -- what load and store require, in their order
    pub requires-hold : (k : Matrix) (r w : ℕ) → r < register_count k → Passed (sizes M st k w)
        → (start_of M k r + tile_rows st k * pitch_of M k ≤ length regs) × ((length marks ≡ length regs) × (tile_cols st k * w ≤ pitch_of M k))
    requires-hold k r w l p =
        let f = tile-fits k r w (tile_rows st k) (tile_cols st k) l (width-most M.elen m.mtype k w p.1.0)
        (leb-true (tile_rows st k) (maximum M m.mtype (rows_of k)) p.1.1.0)
        (leb-true (tile_cols st k) (maximum M m.mtype (columns_of k)) p.1.1.1.0) in
        (f.0, (same_length, f.1))
