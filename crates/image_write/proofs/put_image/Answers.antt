-- `image_write::put_image` meets its contract.
use Rattle.numbers.proofs.Kit.{◌≡◌, true, [], ◌∷◌, ◌++◌, ◌+◌, ◌≤◌, arith, length}
use Rattle.numbers_format.specs.Numbers.{encode_all}
use Rattle.machine.specs.Faults.{seals_fit}
use Rattle.unit_ranges.specs.Ranges.{seals_in}
use Rattle.image.specs.Cells.{cells_of, runs}
use Rattle.image.specs.Images.{version, fields, header_of, runs_bytes}
use Rattle.image_write.proofs.WriteLaws.{seals-fit, two-valued, same_size, size_is, image-put}
use Rattle.image_write.proofs.put_image.Goals as goal
use Rattle.image_write.proofs.put_image.Goals.{Start}

-- the image fits the room, by its parts
fits : (st : Start) → let a = st.args in
    length (encode_all (version (header_of a.m (seals_in a.block.now))) []) + (length (encode_all (fields (header_of a.m (seals_in a.block.now)) ++ (a.count ∷ [])) []) + length (runs_bytes (runs (cells_of a.registers.now a.marks.now)))) ≤ length a.room.now
fits st =
    let a = st.args in
    omega (arith, st.requires.marks_in_bounds, size_is a.m (seals_in a.block.now) a.registers.now a.marks.now st.requires.marks_value a.count st.requires.count_value)

fit : (st : Start) → seals_fit (seals_in st.args.block.now) ≡ true
fit st = let a = st.args in seals-fit a.m (seals_in a.block.now) a.registers.now a.marks.now st.requires.marks_value

pub put_version-start-requires : goal.put_version-start-requires
put_version-start-requires c =
    record {
      block_value = fit (goal.at.put_version-start-requires c).Start;
      block_in_bounds = omega (arith, fits (goal.at.put_version-start-requires c).Start);
    }

pub put_header-at-requires : goal.put_header-at-requires
put_header-at-requires c =
    record {
      block_value = fit (goal.at.put_header-at-requires c).Start;
      count_in_bounds = omega (arith, fits (goal.at.put_header-at-requires c).Start, c.put_version-start.ensures.value, c.put_version-start.auto.room);
    }

pub put_runs-requires : goal.put_runs-requires
put_runs-requires c =
    let a = c.args in
    let R = a.registers.now in
    let M = a.marks.now in
    let s = c.requires.marks_value in
    record {
      marks_in_bounds = omega (arith, fits (goal.at.put_runs-requires c).Start, c.put_version-start.ensures.value, c.put_version-start.auto.room, c.put_header-at.ensures.value, c.put_header-at.auto.room);
      registers_len = same_size a.m (seals_in a.block.now) R M s;
      two_valued = two-valued a.m (seals_in a.block.now) R M s;
    }

pub returns : goal.returns
returns c =
    let a = c.args in
    image-put a.m (seals_in a.block.now) a.registers.now a.marks.now c.requires.marks_value a.count c.requires.count_value a.room.now
    c.put_version-start.new.room c.put_header-at.new.room c.put_runs.new.room c.put_version-start.result c.put_header-at.result
    c.put_version-start.ensures.room_after c.put_version-start.ensures.value c.put_header-at.ensures.room_after c.put_header-at.ensures.value c.put_runs.ensures
