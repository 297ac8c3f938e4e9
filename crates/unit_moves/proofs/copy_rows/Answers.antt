use Rattle.numbers.proofs.Kit.{refl, ◌+◌, ◌*◌, ◌≤◌, arith, length, length-take, length-drop}
use Rattle.numbers.specs.Tile.{put_tile}
use Rattle.unit_tile.proofs.CopyLaws.{row_more}
use Rattle.unit_moves.proofs.copy_rows.Goals as goal
use Rattle.unit_moves.proofs.copy_rows.Goals.{In-loop-i}

pub loop-i-init : goal.loop-i-init
unfolding put_tile
loop-i-init c = refl

-- the row lies in both
here : (c : In-loop-i) →
    let a = c.args in
    let i = c.loop-i.i in
    (a.to.start + i * a.to.pitch + a.to.columns * a.w ≤ length a.dst.now) × (a.from.start + i * a.from.pitch + a.to.columns * a.w ≤ length a.src.now)
here c =
    (c.requires.rows_in.1 c.loop-i.i c.loop-i-test.true, c.requires.rows_in_2.1 c.loop-i.i c.loop-i-test.true)

pub write_row-requires : goal.write_row-requires
write_row-requires c = let h = here (goal.at.write_row-requires c).In-loop-i in simp (length-take, length-drop) (omega arith)

pub loop-i-preserved : goal.loop-i-preserved
loop-i-preserved c =
    let h = here (goal.at.loop-i-preserved c).In-loop-i in
    row_more _ _ _ _ _ _ _ _ _ _ _ _ _ (λ q. omega (arith, c.type_inv.src q)) c.loop-i.invariant refl refl h.1 (omega arith) refl (omega arith) c.write_row.ensures
