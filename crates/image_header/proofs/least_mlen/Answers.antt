use Rattle.image_header.proofs.HeadLaws.{least_other, least-wide, least-far, least-near}
use Rattle.numbers.proofs.Kit.{arith}
use Rattle.image_header.proofs.least_mlen.Goals as goal

pub returns-then-version-ne3 : goal.returns-then-version-ne3
returns-then-version-ne3 c = let a = c.args in least_other a.version a.elen a.rlen c.if-version-ne3.true

pub returns-then-elen-ne5 : goal.returns-then-elen-ne5
returns-then-elen-ne5 c = let a = c.args in least-wide a.version a.elen a.rlen (c.if-version-ne3.false) c.if-elen-ne5.true

pub returns-then-rlen-ge10 : goal.returns-then-rlen-ge10
returns-then-rlen-ge10 c = let a = c.args in least-far a.version a.elen a.rlen (c.if-version-ne3.false) c.if-rlen-ge10.true

pub returns : goal.returns
returns c = let a = c.args in least-near a.version a.elen a.rlen (c.if-version-ne3.false) c.if-elen-ne5.false (omega (arith, c.if-rlen-ge10.false))
