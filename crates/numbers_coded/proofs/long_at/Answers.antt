-- `numbers_coded::long_at` meets its contract.
use mathlib.Core.Path.{ap, ◌∙◌}
use native.Mathlib.Omega.{arith}
use Rattle.numbers_coded.specs.At.{plain}
use Rattle.numbers_coded.proofs.AtLaws.{long-none, long-more}
use Rattle.numbers_coded.proofs.long_at.Goals as goal

pub returns-then-hi-lo : goal.returns-then-hi-lo
returns-then-hi-lo c =
    let k = c.before in
    let l = k.before.before.least_after-lo in
    let m = k.before.most_after-hi in
    let p = k.before.before.before.before in
    let a = p.args in
    ap plain (long-none a.s.now a.at a.low a.high a.g l.result m.result p.requires.0 p.requires.1 l.ensures m.ensures (omega arith))

pub returns : goal.returns
returns c =
    let k = c.before in
    let l = k.before.before.least_after-lo in
    let m = k.before.most_after-hi in
    let p = k.before.before.before.before in
    let a = p.args in
    c.rest_at.ensures ∙ ap plain (long-more a.s.now a.at a.low a.high a.g l.result m.result p.requires.0 p.requires.1 l.ensures m.ensures (omega arith))
