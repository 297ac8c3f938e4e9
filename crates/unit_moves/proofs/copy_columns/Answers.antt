use Rattle.numbers.proofs.Kit.{refl, ap, ◌∙◌, ℕ, zero, ◌+◌, ◌*◌, ◌≤◌, ◌<◌, zero-mul, arith, length}
use Rattle.numbers.specs.Tile.{get_le, put_tile}
use Rattle.numbers.proofs.PutLaws.{row_fits, put_tile-none, put_tile-next}
use Rattle.numbers.proofs.ElementLaws.{put_row-cong}
use Rattle.machine.specs.Operation.{element}
use Rattle.unit_tile.specs.Checks.{RowsIn}
use Rattle.unit_moves.proofs.copy_columns.Goals as goal
use Rattle.unit_moves.proofs.copy_columns.Goals.{In-loop-i}

pub returns-then-to-eq0 : goal.returns-then-to-eq0
returns-then-to-eq0 c =
    let a = c.args in
    put_tile-none (λ i. a.to.start + i * a.to.pitch) a.to.rows a.to.columns a.w (λ i j. element a.src.now (λ i. a.from.start + i * a.from.pitch) a.w j i) a.dst.now (ap (λ (n : ℕ). n * a.w) c.if-to-eq0.true ∙ zero-mul a.w)

pub loop-i-init : goal.loop-i-init
unfolding put_tile
loop-i-init c = refl

-- the row lies in dst, and its column in src
here : (c : In-loop-i) →
    let a = c.args in
    let i = c.loop-i.i in
    (a.to.start + i * a.to.pitch + a.to.columns * a.w ≤ length a.dst.now) × RowsIn (a.from.start + i * a.w) a.from.pitch a.to.columns a.w (length a.src.now)
here c =
    let a = c.args in
    let i = c.loop-i.i in
    let some : zero < a.to.columns = omega (arith, c.if-to-eq0.false) in
    let r = row_fits i a.to.rows a.w c.loop-i-test.true in (
      c.requires.rows_in.1 i c.loop-i-test.true,
      (omega (arith, c.requires.rows_in_2.1 0 some, zero-mul a.from.pitch), λ j l. omega (arith, c.requires.rows_in_2.1 j l)),
    )

pub copy_column-requires : goal.copy_column-requires
copy_column-requires c =
    let h = here (goal.at.copy_column-requires c).In-loop-i in
    record {
      width = c.requires.width;
      w_in_bounds = omega arith;
      rows_in = h.1;
    }

pub loop-i-preserved : goal.loop-i-preserved
loop-i-preserved c =
    let l = c.loop-i in
    let a = c.args in
    let value : ℕ → ℕ → ℕ = λ i j. element a.src.now (λ i. a.from.start + i * a.from.pitch) a.w j i in
    let at : ℕ = a.to.start + l.i * a.to.pitch in
    c.copy_column.ensures
    ∙ put_row-cong a.w at a.to.columns (λ j. get_le a.src.now (a.from.start + l.i * a.w + j * a.from.pitch) a.w) (value l.i) l.dst (λ j m. ap (λ (p : ℕ). get_le a.src.now p a.w) (omega arith))
    ∙ put_tile-next (λ i. a.to.start + i * a.to.pitch) l.i a.to.columns a.w value a.dst.now l.dst at l.invariant refl
