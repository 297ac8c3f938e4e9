-- `numbers_coded::number_at` meets its contract.
use mathlib.Core.Path.{sym, ap, ◌∙◌}
use native.Mathlib.Omega.{arith}
use Rattle.numbers_coded.specs.At.{plain}
use Rattle.numbers_coded.proofs.AtLaws.{one-low, one-high, one_last, at-end}
use Rattle.numbers_coded.proofs.number_at.Goals as goal

pub returns-then-b-low : goal.returns-then-b-low
returns-then-b-low c =
    let w = c.before.before.before in
    let a = w.before.before.before.before.args in
    ap plain (one-low a.s.now a.at a.low a.high w.from-b.result (omega arith) w.from-b.ensures (omega arith) (omega arith))

pub returns-then-high-b : goal.returns-then-high-b
returns-then-high-b c =
    let w = c.before.before.before.before in
    let a = w.before.before.before.before.args in
    ap plain (one-high a.s.now a.at a.low a.high w.from-b.result (omega arith) w.from-b.ensures (omega arith) (omega arith) (omega arith))

pub returns-then-b-lt128 : goal.returns-then-b-lt128
returns-then-b-lt128 c =
    let w = c.before.before.before.before in
    let a = w.before.before.before.before.args in
    ap plain (one_last a.s.now a.at a.low a.high w.from-b.result (omega arith) w.from-b.ensures (omega arith) (omega arith) (omega arith))

pub long_at-requires : goal.long_at-requires
long_at-requires c =
    let w = c.before.from-b in
    let a = c.before.before.before.before.before.args in
    let few = c.type_inv.s a.at in
    (omega arith, sym w.ensures ∙ omega arith, omega (arith, w.ensures, few))

pub returns : goal.returns
returns c =
    let a = c.before.before.before.args in
    ap plain (at-end a.s.now a.at a.low a.high (omega arith))
