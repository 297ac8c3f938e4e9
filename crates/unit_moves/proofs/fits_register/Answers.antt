use Rattle.numbers.proofs.Kit.{sym, ◌*◌, ◌≤◌, mul-le-mul, arith, lt-leb}
use Rattle.unit_moves.proofs.fits_register.Goals as goal

pub returns-then-line-gt16 : goal.returns-then-line-gt16
returns-then-line-gt16 c =
    let a = c.args in
    let l : 17 ≤ a.line = omega arith in
    sym (lt-leb (a.line * a.w) 16 (omega (arith, mul-le-mul l c.requires.0)))

pub overflow_mul-result : goal.overflow_mul-result
overflow_mul-result c =
    let a = c.args in
    let l : a.line ≤ 16 = omega arith in
    omega (arith, mul-le-mul l c.requires.1)
