-- `image_salvage::fresh::put_fresh` meets its contract.
use mathlib.Core.Path.{sym}
use lib.ListN.{take, drop}
use lib.Seq.{length-take-le}
use Rattle.numbers_format.specs.Numbers.{encode}
use Rattle.image_salvage.proofs.FreshLaws.{put_three}
use Rattle.image_salvage.proofs.fresh.put_fresh.Goals as goal

pub returns : goal.returns
returns c =
    let s = c.args.s.now in
    let first = c.args.first in
    put_three c.args.room.now (take first s) (encode c.args.number) (take c.args.n (drop c.args.at s)) c.copy_bytes.new.room c.put_number-to.new.room c.copy_bytes-2.new.room first c.put_number-to.result
    c.copy_bytes.ensures (sym (length-take-le first s c.requires.first_in_bounds.0)) c.put_number-to.ensures.1 c.put_number-to.ensures.0 c.copy_bytes-2.ensures
