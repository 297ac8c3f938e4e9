-- Four elements, written one after another.
use Rattle.numbers.proofs.Kit.{refl, ℕ, ◌+◌, arith}
use Rattle.numbers.specs.Tile.{put_row}
use Rattle.numbers.proofs.ElementLaws.{put_row-next}
use Rattle.unit_pairs.specs.Pairs.{lane}
use Rattle.unit_pairs.proofs.write_block.Goals as goal

pub returns : goal.returns
unfolding put_row
returns c =
    let w4 = c.write-4 in
    let w3 = c.write-3 in
    let w2 = c.write-2 in
    let w1 = c.write in
    let a = c.args in
    let s = a.s.now in
    let f : ℕ → ℕ = lane a.x in
    let e1 = put_row-next 4 s s w1.new.s f a.c 0 a.c a.x.e0 refl (omega arith) refl w1.ensures in
    let e2 = put_row-next 4 s w1.new.s w2.new.s f a.c 1 (a.c + 4) a.x.e1 e1 refl refl w2.ensures in
    let e3 = put_row-next 4 s w2.new.s w3.new.s f a.c 2 (a.c + 8) a.x.e2 e2 refl refl w3.ensures in
    put_row-next 4 s w3.new.s w4.new.s f a.c 3 (a.c + 12) a.x.e3 e3 refl refl w4.ensures
