-- `image_header::row_of` meets its contract.
use Rattle.numbers.proofs.Kit.{◌∙◌, add-one}
use Rattle.image_header.specs.Fields.{row_at}
use Rattle.image_header.proofs.FieldLaws.{row_last}
use Rattle.image_header.proofs.row_of.Goals as goal

pub returns-in-0 : goal.returns-in-0
unfolding row_at
returns-in-0 c = c.span.ensures ∙ rw c.in-0.is

pub returns-in-1 : goal.returns-in-1
unfolding row_at
returns-in-1 c = c.span-in-1.ensures ∙ rw (c.least_rule.ensures, c.in-1.is)

pub returns-in-2 : goal.returns-in-2
unfolding row_at
returns-in-2 c = c.span-in-2.ensures ∙ rw c.in-2.is

pub returns-in-3 : goal.returns-in-3
unfolding row_at
returns-in-3 c =
    c.span-in-3.ensures ∙ rw (add-one c.args.t.elen, c.top_rlen.ensures, c.in-3.is)

pub returns-in-4 : goal.returns-in-4
unfolding row_at
returns-in-4 c = c.span-in-4.ensures ∙ rw (c.top_mlen.ensures, c.least_mlen.ensures, c.in-4.is)

pub returns-in-5 : goal.returns-in-5
unfolding row_at
returns-in-5 c = rw c.in-5.is

pub returns-in-6 : goal.returns-in-6
unfolding row_at
returns-in-6 c = c.span-in-6.ensures ∙ rw (c.power.ensures, c.in-6.is)

pub returns-in-7 : goal.returns-in-7
unfolding row_at
returns-in-7 c = c.span-in-7.ensures ∙ rw (c.smaller.ensures, c.power-in-7-2.ensures, c.power-in-7.ensures, c.in-7.is)

pub returns-in-8 : goal.returns-in-8
unfolding row_at
returns-in-8 c = c.span-in-8.ensures ∙ rw (c.power-in-8.ensures, c.in-8.is)

pub returns-in-9 : goal.returns-in-9
unfolding row_at
returns-in-9 c = rw c.in-9.is

pub returns-in-10 : goal.returns-in-10
unfolding row_at
returns-in-10 c = rw c.in-10.is

pub returns-in_default : goal.returns-in_default
returns-in_default c = c.span-in_default.ensures ∙ row_last c.args.t _ c.power-in_default.ensures c.in_default.in_default-own.rest
