use Rattle.numbers.proofs.Kit.{ap, ◌∙◌, length}
use Rattle.machine.specs.Answers.{verdict}
use Rattle.unit_geometry.specs.declared.Placed.{Placed}
use Rattle.unit_checks.proofs.ArithmeticLaws.{accumulator-room, rows-room, searched}
use Rattle.unit_checks.proofs.written.accumulator_marks.Goals as goal

pub tile_of-c-requires : goal.tile_of-c-requires
tile_of-c-requires c =
    record {
      ready = c.requires.marks_ready.of-machine;
      r_bound = c.requires.accumulator_fits.is-accumulator;
    }

pub first_unmarked-requires : goal.first_unmarked-requires
first_unmarked-requires c = let r = rows-room (length c.args.marks.now) c.tile_of-c.result c.args.width (accumulator-room c.args.m c.args.marks.now c.requires.marks_ready c.args.r c.args.width c.requires.accumulator_fits c.tile_of-c.result c.tile_of-c.ensures) in record { rows_in = r.0; w_bound = r.1 }

pub returns : goal.returns
returns c =
    let a = c.args in
    c.first_unmarked.ensures ∙ ap (λ (p : Placed). verdict (searched a.marks.now p a.width)) c.tile_of-c.ensures
