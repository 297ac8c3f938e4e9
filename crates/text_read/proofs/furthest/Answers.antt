use mathlib.Core.Path.{◌≡◌, subst}
use Prim.Native.Nat.{◌+◌, max}
use native.Mathlib.Omega.{arith}
use Rattle.text_read.proofs.RowLaws.{Left, left-all, left_word, left-bad, left_end}
use Rattle.text_read.proofs.furthest.Goals as goal

pub loop-k-init : goal.loop-k-init
loop-k-init c = left-all c.args.line.now

pub returns-in-Ok : goal.returns-in-Ok
returns-in-Ok c = let l = c.loop-k in left_word c.args.line.now l.k l.best (omega arith) l.invariant c.in-Ok.word c.in-Ok.ensures

pub loop-k-preserved : goal.loop-k-preserved
loop-k-preserved c =
    let l = c.loop-k in
    let e : max l.best c.in-Err.fault.place ≡ c.max-best.result = omega (arith, c.max-best.ensures) in
    subst (Left c.args.line.now (l.k + 1)) e (left-bad c.args.line.now l.k l.best (omega arith) l.invariant c.in-Err.fault c.in-Err.ensures)

pub returns : goal.returns
returns c = let l = c.loop-k in left_end c.args.line.now l.k l.best (omega arith) l.invariant
