use mathlib.Core.List.{[], ◌∷◌}
use lib.Dec.{ltb}
use borrow.Author.Tests.{lt-ltb, le-ltb}
use Rattle.machine.proofs.TestLaws.{fails, last}
use Rattle.unit_decode.proofs.are_registers.Goals as goal

pub returns-then-md-ge2 : goal.returns-then-md-ge2
returns-then-md-ge2 c = let a = c.args in fails [] tt (ltb a.md 2) (le-ltb a.md 2 c.if-md-ge2.true) (ltb a.ms1 8 ∷ ltb a.ms2 8 ∷ [])

pub returns-then-ms1-ge8 : goal.returns-then-ms1-ge8
returns-then-ms1-ge8 c =
    let a = c.args in
    fails (ltb a.md 2 ∷ []) (lt-ltb a.md 2 c.if-md-ge2.false, tt) (ltb a.ms1 8) (le-ltb a.ms1 8 c.if-ms1-ge8.true) (ltb a.ms2 8 ∷ [])

pub returns : goal.returns
returns c =
    let a = c.args in
    last (ltb a.md 2 ∷ ltb a.ms1 8 ∷ []) (lt-ltb a.md 2 c.if-md-ge2.false, (lt-ltb a.ms1 8 c.if-ms1-ge8.false, tt)) (ltb a.ms2 8)
