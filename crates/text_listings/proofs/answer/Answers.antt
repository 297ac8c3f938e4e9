use Rattle.numbers.proofs.Kit.{sym, arith}
use Rattle.text_lines.proofs.WriteLaws.{wrote-more, wrote_as}
use Rattle.text_listings.proofs.RoomLaws.{text-long, text-short, eight-size}
use Rattle.text_listings.proofs.answer.Goals as goal

pub put_refused-at-requires : goal.put_refused-at-requires
put_refused-at-requires c = omega (arith, eight-size, c.requires)

pub put_byte-requires : goal.put_byte-requires
put_byte-requires c = let w = c.put_refused-at.ensures in omega (arith, eight-size, c.requires, w.to, w.same)

pub returns-then-text-gt65536 : goal.returns-then-text-gt65536
returns-then-text-gt65536 c =
    let a = c.args in
    wrote-more (sym (text-long a.back a.text.now c.if-text-gt65536.true)) c.put_refused-at.ensures c.put_byte.ensures

pub returns : goal.returns
returns c =
    let a = c.args in
    wrote_as (sym (text-short a.back a.text.now c.if-text-gt65536.false)) c.put_replies.ensures
