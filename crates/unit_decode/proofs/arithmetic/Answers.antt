use mathlib.Core.Path.{◌∙◌}
use Rattle.machine.specs.Listing.{listing}
use Rattle.unit_table.proofs.TableLaws.{meant-at, left_out}
use Rattle.unit_decode.proofs.arithmetic.Goals as goal

pub multiply-requires : goal.multiply-requires
multiply-requires c = tt

pub float_multiply-requires : goal.float_multiply-requires
float_multiply-requires c = tt

pub multiply-requires-in-35 : goal.multiply-requires-in-35
multiply-requires-in-35 c = tt

pub multiply-requires-in-37 : goal.multiply-requires-in-37
multiply-requires-in-37 c = tt

pub combine-requires : goal.combine-requires
combine-requires c = tt

pub combine-requires-in-40 : goal.combine-requires-in-40
combine-requires-in-40 c = tt

pub combine-requires-in-42 : goal.combine-requires-in-42
combine-requires-in-42 c = tt

pub combine-requires-in-43 : goal.combine-requires-in-43
combine-requires-in-43 c = tt

pub combine-requires-in-45 : goal.combine-requires-in-45
combine-requires-in-45 c = tt

pub combine-requires-in-47 : goal.combine-requires-in-47
combine-requires-in-47 c = tt

pub combine-requires-in-48 : goal.combine-requires-in-48
combine-requires-in-48 c = tt

pub combine-requires-in-50 : goal.combine-requires-in-50
combine-requires-in-50 c = tt

pub combine-requires-in-52 : goal.combine-requires-in-52
combine-requires-in-52 c = tt

pub scale-requires : goal.scale-requires
scale-requires c = tt

pub scale-requires-in-55 : goal.scale-requires-in-55
scale-requires-in-55 c = tt

pub scale-requires-in-57 : goal.scale-requires-in-57
scale-requires-in-57 c = tt

pub scale_immediate-requires : goal.scale_immediate-requires
scale_immediate-requires c = tt

pub scale_immediate-requires-in-59 : goal.scale_immediate-requires-in-59
scale_immediate-requires-in-59 c = tt

pub scale_immediate-requires-in-60 : goal.scale_immediate-requires-in-60
scale_immediate-requires-in-60 c = tt

pub returns-in-33 : goal.returns-in-33
unfolding listing
returns-in-33 c = c.multiply.ensures ∙ meant-at c.args.number 33 c.args.word c.in-33.is

pub returns-in-34 : goal.returns-in-34
unfolding listing
returns-in-34 c = c.float_multiply.ensures ∙ meant-at c.args.number 34 c.args.word c.in-34.is

pub returns-in-35 : goal.returns-in-35
unfolding listing
returns-in-35 c = c.multiply-in-35.ensures ∙ meant-at c.args.number 35 c.args.word c.in-35.is

pub returns-in-37 : goal.returns-in-37
unfolding listing
returns-in-37 c = c.multiply-in-37.ensures ∙ meant-at c.args.number 37 c.args.word c.in-37.is

pub returns-in-38 : goal.returns-in-38
unfolding listing
returns-in-38 c = c.combine.ensures ∙ meant-at c.args.number 38 c.args.word c.in-38.is

pub returns-in-40 : goal.returns-in-40
unfolding listing
returns-in-40 c = c.combine-in-40.ensures ∙ meant-at c.args.number 40 c.args.word c.in-40.is

pub returns-in-42 : goal.returns-in-42
unfolding listing
returns-in-42 c = c.combine-in-42.ensures ∙ meant-at c.args.number 42 c.args.word c.in-42.is

pub returns-in-43 : goal.returns-in-43
unfolding listing
returns-in-43 c = c.combine-in-43.ensures ∙ meant-at c.args.number 43 c.args.word c.in-43.is

pub returns-in-45 : goal.returns-in-45
unfolding listing
returns-in-45 c = c.combine-in-45.ensures ∙ meant-at c.args.number 45 c.args.word c.in-45.is

pub returns-in-47 : goal.returns-in-47
unfolding listing
returns-in-47 c = c.combine-in-47.ensures ∙ meant-at c.args.number 47 c.args.word c.in-47.is

pub returns-in-48 : goal.returns-in-48
unfolding listing
returns-in-48 c = c.combine-in-48.ensures ∙ meant-at c.args.number 48 c.args.word c.in-48.is

pub returns-in-50 : goal.returns-in-50
unfolding listing
returns-in-50 c = c.combine-in-50.ensures ∙ meant-at c.args.number 50 c.args.word c.in-50.is

pub returns-in-52 : goal.returns-in-52
unfolding listing
returns-in-52 c = c.combine-in-52.ensures ∙ meant-at c.args.number 52 c.args.word c.in-52.is

pub returns-in-53 : goal.returns-in-53
unfolding listing
returns-in-53 c = c.scale.ensures ∙ meant-at c.args.number 53 c.args.word c.in-53.is

pub returns-in-55 : goal.returns-in-55
unfolding listing
returns-in-55 c = c.scale-in-55.ensures ∙ meant-at c.args.number 55 c.args.word c.in-55.is

pub returns-in-57 : goal.returns-in-57
unfolding listing
returns-in-57 c = c.scale-in-57.ensures ∙ meant-at c.args.number 57 c.args.word c.in-57.is

pub returns-in-58 : goal.returns-in-58
unfolding listing
returns-in-58 c = c.scale_immediate.ensures ∙ meant-at c.args.number 58 c.args.word c.in-58.is

pub returns-in-59 : goal.returns-in-59
unfolding listing
returns-in-59 c = c.scale_immediate-in-59.ensures ∙ meant-at c.args.number 59 c.args.word c.in-59.is

pub returns-in-60 : goal.returns-in-60
unfolding listing
returns-in-60 c = c.scale_immediate-in-60.ensures ∙ meant-at c.args.number 60 c.args.word c.in-60.is

pub returns-in_default : goal.returns-in_default
unfolding listing
returns-in_default c = left_out c.args.number c.args.word c.requires c.in_default.in_default-own.rest
