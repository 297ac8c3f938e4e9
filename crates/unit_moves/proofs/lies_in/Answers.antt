use Rattle.numbers.proofs.Kit.{sym, ◌+◌, ◌-◌, arith, leb, le-leb, lt-leb, leb-true}
use Rattle.machine.proofs.TestLaws.{same_test}
use Rattle.unit_moves.proofs.lies_in.Goals as goal

pub returns-then-count-lines : goal.returns-then-count-lines
returns-then-count-lines c = let a = c.args in sym (lt-leb (a.first + a.count) a.lines (omega arith))

pub returns : goal.returns
returns c =
    let a = c.args in
    same_test (leb a.first (a.lines - a.count)) (leb (a.first + a.count) a.lines)
    (λ h. let l = leb-true a.first (a.lines - a.count) h in le-leb (a.first + a.count) a.lines (omega arith))
    (λ h. let l = leb-true (a.first + a.count) a.lines h in le-leb a.first (a.lines - a.count) (omega arith))
