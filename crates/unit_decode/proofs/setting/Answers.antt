use mathlib.Core.Path.{◌∙◌}
use native.Mathlib.Omega.{arith}
use Rattle.machine.specs.Listing.{listing}
use Rattle.unit_table.proofs.TableLaws.{meant-at, above}
use Rattle.unit_decode.proofs.setting.Goals as goal

pub set_type_immediate-requires : goal.set_type_immediate-requires
set_type_immediate-requires c = tt

pub set_type-requires : goal.set_type-requires
set_type-requires c = tt

pub set_tile_immediate-requires : goal.set_tile_immediate-requires
set_tile_immediate-requires c = tt

pub set_tile-requires : goal.set_tile-requires
set_tile-requires c = tt

pub set_tile_immediate-requires-in-5 : goal.set_tile_immediate-requires-in-5
set_tile_immediate-requires-in-5 c = tt

pub set_tile-requires-in-6 : goal.set_tile-requires-in-6
set_tile-requires-in-6 c = tt

pub set_tile_immediate-requires-in-7 : goal.set_tile_immediate-requires-in-7
set_tile_immediate-requires-in-7 c = tt

pub set_tile-requires-in_default : goal.set_tile-requires-in_default
set_tile-requires-in_default c = tt

pub returns-in-1 : goal.returns-in-1
unfolding listing
returns-in-1 c = c.set_type_immediate.ensures ∙ meant-at c.args.number 1 c.args.word c.in-1.is

pub returns-in-2 : goal.returns-in-2
unfolding listing
returns-in-2 c = c.set_type.ensures ∙ meant-at c.args.number 2 c.args.word c.in-2.is

pub returns-in-3 : goal.returns-in-3
unfolding listing
returns-in-3 c = c.set_tile_immediate.ensures ∙ meant-at c.args.number 3 c.args.word c.in-3.is

pub returns-in-4 : goal.returns-in-4
unfolding listing
returns-in-4 c = c.set_tile.ensures ∙ meant-at c.args.number 4 c.args.word c.in-4.is

pub returns-in-5 : goal.returns-in-5
unfolding listing
returns-in-5 c = c.set_tile_immediate-in-5.ensures ∙ meant-at c.args.number 5 c.args.word c.in-5.is

pub returns-in-6 : goal.returns-in-6
unfolding listing
returns-in-6 c = c.set_tile-in-6.ensures ∙ meant-at c.args.number 6 c.args.word c.in-6.is

pub returns-in-7 : goal.returns-in-7
unfolding listing
returns-in-7 c = c.set_tile_immediate-in-7.ensures ∙ meant-at c.args.number 7 c.args.word c.in-7.is

pub returns-in_default : goal.returns-in_default
unfolding listing
returns-in_default c = let n = c.args.number in
    let l = above n 1 7 (omega arith) c.in_default.in_default-own.rest in
    c.set_tile-in_default.ensures ∙ meant-at n 8 c.args.word (omega (arith, l))
