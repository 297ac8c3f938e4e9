use Rattle.numbers.proofs.Kit.{arith, lt-ltb, le-ltb}
use Rattle.image.specs.ImageFormat.{top_mlen}
use Rattle.image_header.proofs.top_mlen.Goals as goal

pub returns-then-version-lt3 : goal.returns-then-version-lt3
unfolding top_mlen
returns-then-version-lt3 c = rw (lt-ltb c.args.version 3 c.if-version-lt3.true)

pub returns-else-version-lt3 : goal.returns-else-version-lt3
unfolding top_mlen
returns-else-version-lt3 c = rw (le-ltb c.args.version 3 (omega (arith, c.if-version-lt3.false)))
