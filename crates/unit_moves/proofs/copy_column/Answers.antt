use Rattle.numbers.proofs.Kit.{refl, ℕ, ◌+◌, ◌*◌, ◌≤◌, arith, length}
use Rattle.numbers.specs.Tile.{get_le, put_row}
use Rattle.numbers.proofs.PutLaws.{row_fits}
use Rattle.numbers.proofs.ElementLaws.{put_row-next}
use Rattle.unit_moves.proofs.copy_column.Goals as goal
use Rattle.unit_moves.proofs.copy_column.Goals.{In-loop-j}

pub loop-j-init : goal.loop-j-init
unfolding put_row
loop-j-init c = refl

-- the element lies in both
here : (c : In-loop-j) →
    let a = c.args in
    let j = c.loop-j.j in
    (a.to + j * a.w + a.w ≤ length a.dst.now) × (a.from.start + j * a.from.pitch + a.w ≤ length a.src.now)
here c =
    let a = c.args in
    let j = c.loop-j.j in
    (omega (arith, c.requires.w_in_bounds, row_fits j a.n a.w c.loop-j-test.true), c.requires.rows_in.1 j c.loop-j-test.true)

pub overflow_mul-j : goal.overflow_mul-j
overflow_mul-j c = let h = here (goal.at.overflow_mul-j c).In-loop-j in omega arith

pub overflow_add-to : goal.overflow_add-to
overflow_add-to c = let h = here (goal.at.overflow_add-to c).In-loop-j in omega arith

pub copy_element-requires : goal.copy_element-requires
copy_element-requires c =
    let h = here (goal.at.copy_element-requires c).In-loop-j in
    record {
      width = c.requires.width;
      w_in_bounds = omega arith;
      w_in_bounds_2 = h.1;
    }

pub loop-j-preserved : goal.loop-j-preserved
loop-j-preserved c =
    let l = c.loop-j in
    let a = c.args in
    let value : ℕ → ℕ = λ j. get_le a.src.now (a.from.start + j * a.from.pitch) a.w in
    put_row-next a.w a.dst.now l.dst _ value a.to l.j (a.to + l.j * a.w) (value l.j) l.invariant refl refl c.copy_element.ensures
