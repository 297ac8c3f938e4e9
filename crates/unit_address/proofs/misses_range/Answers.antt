use Rattle.numbers.proofs.Kit.{arith}
use Rattle.unit_address.proofs.SealLaws.{misses-no-bytes, misses-no-seal, misses-below, misses-not, misses-from}
use Rattle.unit_address.proofs.misses_range.Goals as goal

pub returns-then-n-eq0 : goal.returns-then-n-eq0
returns-then-n-eq0 c = let a = c.args in misses-no-bytes a.seal a.size a.p a.n c.if-n-eq0.true

pub returns-then-size-eq0 : goal.returns-then-size-eq0
returns-then-size-eq0 c = let a = c.args in misses-no-seal a.seal a.size a.p a.n c.if-n-eq0.false c.if-size-eq0.true

pub returns-then-end-seal : goal.returns-then-end-seal
returns-then-end-seal c =
    let a = c.args in
    misses-below a.seal a.size a.p a.n c.if-n-eq0.false c.if-size-eq0.false (omega arith)

pub returns-then-first-seal : goal.returns-then-first-seal
returns-then-first-seal c =
    let a = c.args in
    misses-not a.seal a.size a.p a.n c.if-n-eq0.false c.if-size-eq0.false (omega arith) (omega arith)

pub returns-then-last-seal : goal.returns-then-last-seal
returns-then-last-seal c =
    let a = c.args in
    misses-not a.seal a.size a.p a.n c.if-n-eq0.false c.if-size-eq0.false (omega arith) (omega arith)

pub returns : goal.returns
returns c =
    let a = c.args in
    misses-from a.seal a.size a.p a.n c.if-n-eq0.false c.if-size-eq0.false c.if-first-seal.false
