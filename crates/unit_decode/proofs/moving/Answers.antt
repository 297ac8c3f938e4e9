use mathlib.Core.Path.{◌∙◌}
use Rattle.machine.specs.Listing.{listing}
use Rattle.unit_table.proofs.TableLaws.{meant-at, too_large}
use Rattle.unit_decode.proofs.moving.Goals as goal

pub move_out-requires : goal.move_out-requires
move_out-requires c = tt

pub move_in-requires : goal.move_in-requires
move_in-requires c = tt

pub move_out-requires-in-235 : goal.move_out-requires-in-235
move_out-requires-in-235 c = tt

pub move_in-requires-in-236 : goal.move_in-requires-in-236
move_in-requires-in-236 c = tt

pub returns-in-229 : goal.returns-in-229
unfolding listing
returns-in-229 c = c.move_out.ensures ∙ meant-at c.args.number 229 c.args.word c.in-229.is

pub returns-in-230 : goal.returns-in-230
unfolding listing
returns-in-230 c = c.move_in.ensures ∙ meant-at c.args.number 230 c.args.word c.in-230.is

pub returns-in-235 : goal.returns-in-235
unfolding listing
returns-in-235 c = c.move_out-in-235.ensures ∙ meant-at c.args.number 235 c.args.word c.in-235.is

pub returns-in-236 : goal.returns-in-236
unfolding listing
returns-in-236 c = c.move_in-in-236.ensures ∙ meant-at c.args.number 236 c.args.word c.in-236.is

pub returns-in_default : goal.returns-in_default
unfolding listing
returns-in_default c = too_large c.args.number c.args.word c.requires c.in_default.in_default-own.rest
