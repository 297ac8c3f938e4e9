-- `image_write::measure_of` meets its contract.
use Rattle.numbers.proofs.Kit.{◌+◌, ◌≤◌, arith}
use Rattle.unit_ranges.specs.Ranges.{seals_in}
use Rattle.image_write.proofs.WriteLaws.{seals-fit, two-valued, few-marks, count-is, image-size-is}
use Rattle.image_write.proofs.measure_of.Goals as goal
use Rattle.image_write.proofs.measure_of.Goals.{After-header_size}

pub tally_of-tally-requires : goal.tally_of-tally-requires
tally_of-tally-requires c =
    let a = c.args in
    let s = c.requires in
    let R = a.registers.now in
    let M = a.marks.now in
    record {
      marks_len_bound = omega (arith, few-marks a.m (seals_in a.block.now) R M s);
      two_valued = two-valued a.m (seals_in a.block.now) R M s;
    }

pub version_size-requires : goal.version_size-requires
version_size-requires c =
    let a = c.args in
    seals-fit a.m (seals_in a.block.now) a.registers.now a.marks.now c.requires

pub header_size-requires : goal.header_size-requires
header_size-requires c =
    let a = c.args in
    seals-fit a.m (seals_in a.block.now) a.registers.now a.marks.now c.requires

-- the numbers and the runs are few
few : (c : After-header_size) → c.version_size.result + c.header_size.result + c.tally_of-tally.result.bytes ≤ 4000000
few c =
    let a = c.args in
    omega (arith, few-marks a.m (seals_in a.block.now) a.registers.now a.marks.now c.requires, c.tally_of-tally.ensures.few, c.version_size.ensures.1, c.header_size.ensures.1)

pub overflow_add-result-2 : goal.overflow_add-result-2
overflow_add-result-2 c = omega (arith, few c)

pub returns : goal.returns
returns c =
    let t = c.tally_of-tally in
    let a = c.args in
    let s = c.requires in
    let R = a.registers.now in
    let M = a.marks.now in
    record {
      count_value = count-is a.m (seals_in a.block.now) R M s t.result.runs t.result.bytes t.ensures;
      size_value = image-size-is a.m (seals_in a.block.now) R M s t.result.runs t.result.bytes t.ensures c.version_size.result c.header_size.result c.version_size.ensures.0 c.header_size.ensures.0;
    }
