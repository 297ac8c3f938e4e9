-- `image_header::field_from` meets its contract.
use Rattle.numbers.proofs.Kit.{sym, subst}
use Rattle.image_header.specs.Fields.{RowOk}
use Rattle.image_header.proofs.ReadyLaws.{row_ok, field-bad, field-sizes, field-good}
use Rattle.image_header.proofs.field_from.Goals as goal

pub number_in-requires : goal.number_in-requires
number_in-requires c = subst RowOk (sym (c.requires.1.row_is c.requires.0)) (row_ok c.args.t c.requires.1.sizes-ok)

pub returns-in-Err : goal.returns-in-Err
returns-in-Err c = let a = c.args in field-bad a.s.now a.at a.t c.in-Err.ensures

pub row_of-requires : goal.row_of-requires
row_of-requires c =
    let a = c.args in
    field-sizes a.s.now a.at a.t c.in-Ok.n c.in-Ok.ensures _ c.put_field-x.ensures _ c.after.ensures c.requires.0 c.requires.1

pub returns : goal.returns
returns c =
    let a = c.args in
    field-good a.s.now a.at a.t c.in-Ok.n c.in-Ok.ensures _ c.put_field-x.ensures _ c.after.ensures _ c.row_of.ensures
