use Rattle.numbers.proofs.Kit.{sym, arith}
use Rattle.text_lines.proofs.WriteLaws.{decimal-one, decimal-more, length-one, length_more, wrote-more, wrote_as}
use Rattle.text_lines.proofs.+put_decimal.Goals as goal

pub put_byte-requires : goal.put_byte-requires
put_byte-requires t c = omega (arith, length-one c.args.n c.if-n-lt10.true)

pub returns-then-n-lt10 : goal.returns-then-n-lt10
returns-then-n-lt10 t c = wrote_as (sym (decimal-one c.args.n c.if-n-lt10.true)) c.put_byte.ensures

pub put_decimal-next-requires : goal.put_decimal-next-requires
put_decimal-next-requires t c = (omega arith, omega (arith, length_more c.args.n c.if-n-lt10.false))

pub put_byte-requires-else-n-lt10 : goal.put_byte-requires-else-n-lt10
put_byte-requires-else-n-lt10 t c = omega (arith, length_more c.args.n c.if-n-lt10.false)

pub returns-else-n-lt10 : goal.returns-else-n-lt10
returns-else-n-lt10 t c = wrote-more (sym (decimal-more c.args.n c.if-n-lt10.false)) c.put_decimal-next.ensures c.put_byte-else-n-lt10.ensures
