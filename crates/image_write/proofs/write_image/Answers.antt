-- `image_write::write_image` meets its contract.
use Rattle.numbers.proofs.Kit.{◌≡◌, sym, ◌∙◌, true, false, arith}
use Rattle.unit_ranges.specs.Ranges.{seals_in}
use Rattle.image.specs.Images.{sound_with}
use Rattle.image_write.proofs.WriteLaws.{write-refused, write-short, write_done}
use Rattle.image_write.proofs.write_image.Goals as goal

pub returns-then-not-is_sound : goal.returns-then-not-is_sound
returns-then-not-is_sound c =
    let a = c.args in
    let R = a.registers.now in
    let M = a.marks.now in
    let s : sound_with a.m (seals_in a.block.now) R M ≡ false = sym c.is_sound.ensures ∙ c.if-not-is_sound.true in
    write-refused a.m (seals_in a.block.now) R M a.room.now s

pub measure_of-measure-requires : goal.measure_of-measure-requires
measure_of-measure-requires c =
    let a = c.args in
    let R = a.registers.now in
    let M = a.marks.now in
    let s : sound_with a.m (seals_in a.block.now) R M ≡ true = sym c.is_sound.ensures ∙ c.if-not-is_sound.false in
    s

pub returns-then-room-measure : goal.returns-then-room-measure
returns-then-room-measure c =
    let a = c.args in
    let R = a.registers.now in
    let M = a.marks.now in
    let s : sound_with a.m (seals_in a.block.now) R M ≡ true = sym c.is_sound.ensures ∙ c.if-not-is_sound.false in
    let z = c.measure_of-measure in
    write-short a.m (seals_in a.block.now) R M a.room.now s z.result.size z.ensures.size_value c.if-room-measure.true

pub put_image-requires : goal.put_image-requires
put_image-requires c =
    let a = c.args in
    let R = a.registers.now in
    let M = a.marks.now in
    let s : sound_with a.m (seals_in a.block.now) R M ≡ true = sym c.is_sound.ensures ∙ c.if-not-is_sound.false in
    let z = c.measure_of-measure in
    record {
      marks_value = s;
      count_value = z.ensures.count_value;
      marks_in_bounds = omega (arith, z.ensures.size_value, c.if-room-measure.false);
    }

pub returns : goal.returns
returns c =
    let a = c.args in
    let R = a.registers.now in
    let M = a.marks.now in
    let s : sound_with a.m (seals_in a.block.now) R M ≡ true = sym c.is_sound.ensures ∙ c.if-not-is_sound.false in
    let z = c.measure_of-measure in
    let p = c.put_image in
    write_done a.m (seals_in a.block.now) R M a.room.now s z.result.size z.ensures.size_value (omega (arith, c.if-room-measure.false)) p.new.room p.ensures
