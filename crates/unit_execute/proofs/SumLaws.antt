-- Two loads, and then the multiply of what they load: its sources are written, so that only its widths and the marks of its md are asked.
use Rattle.numbers.proofs.Kit.{◌≡◌, refl, subst, Bool, true, false, ◌||◌, List, ℕ, ◌+◌, ◌*◌, ◌≤◌, mul-le-mul_right, arith, eqb, length, eqb-true}
use Rattle.numbers.specs.Tile.{mark_tile}
use Rattle.numbers.proofs.TileLaws.{length-mark_tile, mark_tile-keeps, mark_tile-at}
use Rattle.machine.specs.declared.Machine.{Machine}
use Rattle.machine.specs.declared.Form.{Form}
use Rattle.machine.specs.declared.Form.TheVariants.{Plain}
use Rattle.machine.specs.declared.Matrix.TheVariants.{MatrixA, MatrixB}
use Rattle.machine.specs.Answers.{verdict, is_done}
use Rattle.machine.specs.Geometry.{State, state_of, tile_at, acc_at}
use Rattle.machine.specs.Setting.{sew, chosen}
use Rattle.machine.specs.Operation.{Operation}
use Rattle.machine.specs.Meanings.{state_after, checks}
use Rattle.machine.specs.Refusals.{marked}
use Rattle.machine.specs.TransferWords.{width_of}
use Rattle.machine.specs.ArithmeticWords.{width_ok, multiply_reads}
use Rattle.machine.specs.Faults.{sound}
use Rattle.machine.proofs.CheckLaws.{Passed, passed, marked-true}
use Rattle.unit_transfer.proofs.Room.{transfer-requires}
use Rattle.unit_settings.specs.Parts.{ours}
use Rattle.unit_execute.proofs.EffectLaws.{marked-at}

-- marks stay
pub marks_stay : (ms : List ℕ) (at : ℕ → ℕ) (rows n : ℕ) (at' : ℕ → ℕ) (rows' n' : ℕ) → marked ms at rows n ≡ true → marked (mark_tile at' rows' n' ms) at rows n ≡ true
marks_stay ms at rows n at' rows' n' h =
    marked-true (mark_tile at' rows' n' ms) at rows n (λ i b l k. mark_tile-keeps at' rows' n' ms (at i + b) (marked-at ms at rows n h i b l k))

-- rows that lie in the bytes are marked once they have been marked
marks-made : (ms : List ℕ) (start pitch rows n : ℕ) → start + rows * pitch ≤ length ms → n ≤ pitch → marked (mark_tile (λ i. start + i * pitch) rows n ms) (λ i. start + i * pitch) rows n ≡ true
marks-made ms start pitch rows n f e =
    marked-true (mark_tile (λ i. start + i * pitch) rows n ms) (λ i. start + i * pitch) rows n
    (λ i b l k. mark_tile-at (λ i. start + i * pitch) rows n ms i l (omega (arith, f, e, mul-le-mul_right pitch l)) b k)

or_right : (x y : Bool) → y ≡ true → x || y ≡ true
or_right true y e = refl
or_right false y e = e

module _ (m : Machine) (regs marks mem : List ℕ) (h : sound m regs marks ≡ true) (form : Form) (w a sa b sb : ℕ) where
  abbrev loads_a : Operation
  loads_a = Operation.load form MatrixA 0 w a sa

  abbrev loads_b : Operation
  loads_b = Operation.load Plain MatrixB 1 w b sb

  abbrev before : State
  before = state_of m regs marks

  abbrev between : State
  between = state_after (ours m) loads_a before mem

  abbrev after : State
  after = state_after (ours m) loads_b between mem

  -- marks that both loads leave
  pub both-keep : (at : ℕ → ℕ) (rows n : ℕ) → marked marks at rows n ≡ true → marked after.marks at rows n ≡ true
  both-keep at rows n k = marks_stay between.marks at rows n _ _ _ (marks_stay marks at rows n _ _ _ k)

  module _ (da : is_done (verdict (checks (ours m) (λ q. false) loads_a before mem)) ≡ true) (db : is_done (verdict (checks (ours m) (λ q. false) loads_b between mem)) ≡ true) where
    pa : Passed (checks (ours m) (λ q. false) loads_a before mem)
    pa = passed (checks (ours m) (λ q. false) loads_a before mem) refl da

    pb : Passed (checks (ours m) (λ q. false) loads_b between mem)
    pb = passed (checks (ours m) (λ q. false) loads_b between mem) refl db

    -- the loads have SEW
    pub width_is : w ≡ sew m.mtype
    unfolding width_of
    width_is = eqb-true w (sew m.mtype) pa.1.0

    a-written : marked after.marks (tile_at (ours m) 0) m.tile_m (m.tile_k * sew m.mtype) ≡ true
    a-written =
        let t = transfer-requires chosen m regs marks h MatrixA 0 w (omega arith) (pa.0, (pa.1.0, (pa.1.1.0, (pa.1.1.1.0, tt)))) in
        subst (λ (w' : ℕ). marked after.marks (tile_at (ours m) 0) m.tile_m (m.tile_k * w') ≡ true) width_is
        (marks_stay between.marks (tile_at (ours m) 0) m.tile_m (m.tile_k * w) _ _ _
        (marks-made marks _ _ m.tile_m (m.tile_k * w) (omega (arith, t.0, t.1.0)) t.1.1.0))

    b-written : marked after.marks (tile_at (ours m) 1) m.tile_k (m.tile_n * sew m.mtype) ≡ true
    b-written =
        let t = transfer-requires chosen m regs marks h MatrixB 1 w (omega arith) (pb.0, (pb.1.0, (pb.1.1.0, (pb.1.1.1.0, tt)))) in
        subst (λ (w' : ℕ). marked after.marks (tile_at (ours m) 1) m.tile_k (m.tile_n * w') ≡ true) width_is
        (marks-made between.marks _ _ m.tile_k (m.tile_n * w) (omega (arith, t.0, t.1.0, length-mark_tile (tile_at (ours m) 0) m.tile_m (m.tile_k * w) marks)) t.1.1.0)

    -- so a multiply passes answers 4 and 5 where its md is written
    reads : (f : ℕ) → marked marks (acc_at (ours m) 0) m.tile_m (m.tile_n * (f * sew m.mtype)) ≡ true → Passed (multiply_reads (ours m) f 0 0 1 after)
    reads f c =
        let none : Bool = eqb (m.tile_m * m.tile_n) 0 in
        (pa.1.1.0, (pa.1.1.1.0, (pb.1.1.1.0, (or_right none _ a-written, (or_right none _ b-written, (both-keep _ _ _ c, tt))))))

    pub product-passes : (f : ℕ) → width_ok m.elen m.mtype f ≡ true → marked marks (acc_at (ours m) 0) m.tile_m (m.tile_n * (f * sew m.mtype)) ≡ true
        → Passed (checks (ours m) (λ q. false) (Operation.multiply f 0 0 1) after mem)
    product-passes f o c = (pa.0, (o, reads f c))
