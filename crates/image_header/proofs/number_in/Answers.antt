-- `image_header::number_in` meets its contract.
use Rattle.numbers.proofs.Kit.{◌∙◌}
use Rattle.image_header.specs.Fields.{number_in}
use Rattle.image_header.proofs.number_in.Goals as goal

pub returns-in-Span : goal.returns-in-Span
unfolding number_in
returns-in-Span c = c.number_at.ensures ∙ rw c.in-Span.is

pub returns-in-Mtype : goal.returns-in-Mtype
unfolding number_in
returns-in-Mtype c = c.mtype_at.ensures ∙ rw c.in-Mtype.is

pub returns-in-Count : goal.returns-in-Count
unfolding number_in
returns-in-Count c = c.count_at.ensures ∙ rw c.in-Count.is

pub returns-in-Ranges : goal.returns-in-Ranges
unfolding number_in
returns-in-Ranges c = c.ranges_at.ensures ∙ rw c.in-Ranges.is
