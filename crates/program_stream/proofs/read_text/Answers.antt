use Rattle.std.proofs.Common.{rules, ◌≡◌, List, ℕ, ◌+◌, ◌-◌, ◌≤◌, ◌++◌, arith, length, take, length-take-le}
use Rattle.std.proofs.Math.Seq.{take-append-add}
use Rattle.std.proofs.lemmas.List.{take-append-le}
use Rattle.std.proofs.KnownBytes.{Consumes-trans}
use borrow.Rule.Slice.PartMut.{put_mid, post_of}
use Rattle.program_stream.proofs.read_text.Goals as goal

-- what stands before a part of a list, and the front of the part
front-put_mid : (a k n : ℕ) (xs ys : List ℕ) → a ≤ length xs → n ≤ length ys → take (a + n) (put_mid a k xs ys) ≡ take a xs ++ take n ys
front-put_mid a k n xs ys h l =
    let e = length-take-le a xs h in
    rw (take-append-le n ys (post_of a k xs) l) at (rw e at (take-append-add (take a xs) (ys ++ post_of a k xs) n))

pub loop-done-preserved : goal.loop-done-preserved
loop-done-preserved g c =
    let grown = front-put_mid c.loop-done.done (length c.loop-done.text - c.loop-done.done) c.in-Ok.count c.loop-done.text c.read.new.buf (omega arith) c.in-Ok.ensures.bound.0 in
    (search rules, rw grown (Consumes-trans _ _ _ _ _ c.loop-done.invariant.1 c.in-Ok.ensures.bytes.0))
