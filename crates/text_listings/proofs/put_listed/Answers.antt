use Rattle.numbers.proofs.Kit.{sym, ap, arith, length}
use Rattle.text_lines.proofs.WriteLaws.{wrote_as}
use Rattle.text_listings.proofs.ListLaws.{listed-line, listed-none}
use Rattle.text_listings.proofs.put_listed.Goals as goal

pub put_line-requires : goal.put_line-requires
put_line-requires c =
    let h = listed-line c.args.word c.in-Ok.ensures in
    record {
      has_line = (c.number_of-number.ensures, h.0);
      word_in_bounds = omega (arith, c.requires, ap length h.1);
    }

pub returns-in-Ok : goal.returns-in-Ok
returns-in-Ok c = wrote_as (sym (listed-line c.args.word c.in-Ok.ensures).1) c.put_line.ensures

pub put_refused-requires : goal.put_refused-requires
put_refused-requires c = omega (arith, c.requires, ap length (listed-none c.args.word c.in-Err.error c.in-Err.ensures))

pub returns-in-Err : goal.returns-in-Err
returns-in-Err c = wrote_as (sym (listed-none c.args.word c.in-Err.error c.in-Err.ensures)) c.put_refused.ensures
