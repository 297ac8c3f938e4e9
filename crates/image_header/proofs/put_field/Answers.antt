-- `image_header::put_field` meets its contract.
use Rattle.image_header.specs.Fields.{put_field}
use Rattle.image_header.proofs.FieldLaws.{last-field}
use Rattle.image_header.proofs.put_field.Goals as goal

pub returns-in-0 : goal.returns-in-0
unfolding put_field
returns-in-0 c = rw c.in-0.is

pub returns-in-1 : goal.returns-in-1
unfolding put_field
returns-in-1 c = rw c.in-1.is

pub returns-in-2 : goal.returns-in-2
unfolding put_field
returns-in-2 c = rw c.in-2.is

pub returns-in-3 : goal.returns-in-3
unfolding put_field
returns-in-3 c = rw c.in-3.is

pub returns-in-4 : goal.returns-in-4
unfolding put_field
returns-in-4 c = rw c.in-4.is

pub returns-in-5 : goal.returns-in-5
unfolding put_field
returns-in-5 c = rw c.in-5.is

pub returns-in-6 : goal.returns-in-6
unfolding put_field
returns-in-6 c = rw c.in-6.is

pub returns-in-7 : goal.returns-in-7
unfolding put_field
returns-in-7 c = rw c.in-7.is

pub returns-in-8 : goal.returns-in-8
unfolding put_field
returns-in-8 c = rw c.in-8.is

pub returns-in-9 : goal.returns-in-9
unfolding put_field
returns-in-9 c = rw c.in-9.is

pub returns-in-10 : goal.returns-in-10
unfolding put_field
returns-in-10 c = rw c.in-10.is

pub returns-in_default : goal.returns-in_default
unfolding put_field
returns-in_default c =
    rw (last-field c.args.t.next c.requires c.in_default.in_default-own.rest)
