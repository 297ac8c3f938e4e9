-- `numbers_coded::put_number` meets its contract. The invariant: what is still to be put makes of the room what the whole makes.
use mathlib.Core.Path.{refl, sym, ◌∙◌}
use Prim.Native.Nat.{◌+◌, ◌%◌}
use native.Mathlib.Omega.{arith}
use lib.ListN.{length-set}
use Rattle.numbers_coded.proofs.PutLaws.{put_last, put-more, length_last, length_more}
use Rattle.numbers_coded.proofs.put_number.Goals as goal

pub loop-x-init : goal.loop-x-init
loop-x-init c = (refl, refl, refl)

pub bounds-room-i : goal.bounds-room-i
bounds-room-i c = omega (arith, length_more c.before.loop-x.x (omega arith))

pub overflow_add-i : goal.overflow_add-i
overflow_add-i c = omega (arith, length_more c.before.loop-x.x (omega arith))

pub loop-x-preserved : goal.loop-x-preserved
loop-x-preserved c =
    let l = c.before.loop-x in
    (length-set l.room l.i (128 + l.x % 128) ∙ l.invariant.0, omega (arith, length_more l.x (omega arith)), sym (put-more l.room l.i l.x (omega arith)) ∙ l.invariant.2)

pub bounds-room-i-2 : goal.bounds-room-i-2
bounds-room-i-2 c = omega (arith, length_last c.before.loop-x.x (omega arith))

pub overflow_add-result : goal.overflow_add-result
overflow_add-result c = omega (arith, length_last c.before.loop-x.x (omega arith))

pub shape_of-room : goal.shape_of-room
shape_of-room c = length-set c.before.loop-x.room c.before.loop-x.i c.before.loop-x.x ∙ c.before.loop-x.invariant.0

pub returns : goal.returns
returns c =
    let l = c.before.loop-x in
    (omega (arith, length_last l.x (omega arith)), sym (put_last l.room l.i l.x (omega arith)) ∙ l.invariant.2)
