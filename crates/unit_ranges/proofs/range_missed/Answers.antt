use Rattle.numbers.proofs.Kit.{sym, ◌∙◌}
use Rattle.machine.specs.Tests.{within}
use Rattle.unit_ranges.proofs.RangeLaws.{span-missed}
use Rattle.unit_ranges.proofs.range_missed.Goals as goal

pub returns-then-misses_range : goal.returns-then-misses_range
returns-then-misses_range c =
    let r = c.misses_range in
    let a = c.args in
    span-missed a.base a.stride a.rows a.bytes (within a.start a.size) a.p a.n c.requires.spanned (sym r.ensures ∙ c.if-misses_range.true)
