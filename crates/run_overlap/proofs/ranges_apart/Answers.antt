use Rattle.std.proofs.Common.{rules}
use Rattle.run_overlap.proofs.OverlapLaws.{free-range}
use Rattle.run_overlap.proofs.ranges_apart.Goals as goal

pub returns-then-p-n : goal.returns-then-p-n
returns-then-p-n c = let a = c.args in rw (free-range a.p a.n a.q a.o) (search rules)

pub returns-else-p-n : goal.returns-else-p-n
returns-else-p-n c = let a = c.args in rw (free-range a.p a.n a.q a.o) (search rules)
