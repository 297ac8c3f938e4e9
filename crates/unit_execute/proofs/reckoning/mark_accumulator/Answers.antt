use Rattle.numbers.proofs.Kit.{ap, ◌∙◌, ◌+◌, ◌*◌, ◌≤◌, arith, length}
use Rattle.unit_geometry.specs.declared.Placed.{Placed}
use Rattle.unit_checks.proofs.ArithmeticLaws.{accumulator-room, rows-room}
use Rattle.numbers.specs.Tile.{mark_tile}
use Rattle.unit_execute.proofs.reckoning.mark_accumulator.Goals as goal
use Rattle.unit_execute.proofs.reckoning.mark_accumulator.Goals.{After-tile_of-c}

pub tile_of-c-requires : goal.tile_of-c-requires
tile_of-c-requires c =
    record {
      ready = c.requires.marks_ready.of-machine;
      r_bound = c.requires.accumulator_fits.is-accumulator;
    }

-- the tile lies in its register
room : (c : After-tile_of-c) → (c.tile_of-c.result.start + c.tile_of-c.result.rows * c.tile_of-c.result.pitch ≤ length c.args.marks.now) × (c.tile_of-c.result.columns * c.args.width ≤ c.tile_of-c.result.pitch)
room c =
    accumulator-room c.args.m c.args.marks.now c.requires.marks_ready c.args.r c.args.width c.requires.accumulator_fits c.tile_of-c.result c.tile_of-c.ensures

pub overflow_mul-c : goal.overflow_mul-c
overflow_mul-c c = let r = room (goal.at.overflow_mul-c c).After-tile_of-c in omega arith

pub mark_tile-requires : goal.mark_tile-requires
mark_tile-requires c =
    (rows-room (length c.args.marks.now) c.tile_of-c.result c.args.width (room (goal.at.mark_tile-requires c).After-tile_of-c)).0

pub returns : goal.returns
returns c =
    let a = c.args in
    c.mark_tile.ensures ∙ ap (λ (p : Placed). mark_tile (λ i. p.start + i * p.pitch) p.rows (p.columns * a.width) a.marks.now) c.tile_of-c.ensures
