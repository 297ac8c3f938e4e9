use mathlib.Core.Path.{refl, sym, ◌∙◌}
use native.Mathlib.Omega.{arith}
use Rattle.numbers_coded.proofs.CopyLaws.{copy_start, copy_more, copy-end}
use Rattle.numbers_coded.proofs.copy_bytes.Goals as goal

pub loop-i-init : goal.loop-i-init
loop-i-init c = let a = c.args in copy_start a.room.now a.s.now a.to a.from a.n 0 refl

pub loop-i-preserved : goal.loop-i-preserved
loop-i-preserved c =
    let l = c.loop-i in
    let a = c.args in
    sym (copy_more l.room a.s.now a.to a.from a.n l.i (omega arith) (omega arith)) ∙ l.invariant

pub returns : goal.returns
returns c =
    let a = c.args in
    sym (copy-end c.loop-i.room a.s.now a.to a.from a.n c.loop-i.i (omega arith)) ∙ c.loop-i.invariant
