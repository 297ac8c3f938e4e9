use Rattle.numbers.proofs.Kit.{sym, ◌∙◌, arith}
use Rattle.machine.proofs.StepLaws.{permitted-bounds}
use Rattle.unit_start.proofs.is_startable.Goals as goal

pub overflow_mul-mlen : goal.overflow_mul-mlen
overflow_mul-mlen c =
    let a = c.args in
    let b = permitted-bounds a.rlen a.mlen a.elen (sym c.permitted_lengths.ensures ∙ c.if-permitted_lengths.true) in
    omega arith
