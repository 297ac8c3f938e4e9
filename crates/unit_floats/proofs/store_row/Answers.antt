-- The first `j` sums are stored.
use Rattle.numbers.proofs.Kit.{refl, ◌+◌, ◌*◌, get_or}
use Rattle.std.specs.Float.{nan}
use Rattle.numbers.specs.Tile.{put_row}
use Rattle.numbers.specs.Binary32.{settled}
use Rattle.numbers.proofs.ElementLaws.{put_row-next}
use Rattle.unit_floats.proofs.store_row.Goals as goal

pub loop-j-init : goal.loop-j-init
unfolding put_row
loop-j-init c = refl

pub loop-j-preserved : goal.loop-j-preserved
loop-j-preserved c =
    let a = c.args in
    let l = c.loop-j in
    put_row-next 4 a.s.now l.s c.write.new.s (λ q. settled (get_or a.sums.now q nan)) a.to l.j (a.to + l.j * 4) c.stored_bits.result l.invariant refl c.stored_bits.ensures c.write.ensures
