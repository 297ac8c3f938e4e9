-- The loop: the first `i` values are stored.
use Rattle.numbers.proofs.Kit.{refl, ◌+◌, ◌*◌, get_or}
use Rattle.numbers.specs.Tile.{put_row}
use Rattle.numbers.proofs.ElementLaws.{put_row-next}
use Rattle.product_memory.proofs.put_elements.Goals as goal

pub loop-i-init : goal.loop-i-init
unfolding put_row
loop-i-init c = refl

pub loop-i-preserved : goal.loop-i-preserved
loop-i-preserved c =
    let l = c.loop-i in
    let a = c.args in
    put_row-next a.width a.memory.now l.memory c.put_element.new.memory (λ q. get_or a.values.now q 0) a.at l.i (a.at + l.i * a.width) (get_or a.values.now l.i 0)
    l.invariant refl refl c.put_element.ensures
