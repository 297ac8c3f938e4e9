use Rattle.numbers.proofs.Kit.{length, get_or, set}
use Rattle.numbers.proofs.PutLaws.{upto_rest}
use Rattle.unit_row.proofs.write_row.Goals as goal

pub returns : goal.returns
returns c =
    let a = c.args in
    let e = c.copy_eights-done in
    let r = c.copy_rest in
    upto_rest (length a.src.now) e.result (λ b ys. set ys b (get_or a.src.now b 0)) a.dst.now e.new.dst r.new.dst e.ensures.upper_bound e.ensures.dst_after r.ensures
