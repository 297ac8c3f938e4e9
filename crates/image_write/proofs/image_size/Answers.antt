-- `image_write::image_size` meets its contract.
use Rattle.numbers.proofs.Kit.{◌≡◌, sym, ◌∙◌, true, false}
use Rattle.unit_ranges.specs.Ranges.{seals_in}
use Rattle.image.specs.Images.{sound_with}
use Rattle.image_write.proofs.WriteLaws.{size-refused, size-done}
use Rattle.image_write.proofs.image_size.Goals as goal

pub returns-then-not-is_sound : goal.returns-then-not-is_sound
returns-then-not-is_sound c =
    let a = c.args in
    let R = a.registers.now in
    let M = a.marks.now in
    let s : sound_with a.m (seals_in a.block.now) R M ≡ false = sym c.is_sound.ensures ∙ c.if-not-is_sound.true in
    size-refused a.m (seals_in a.block.now) R M s

pub measure_of-measure-requires : goal.measure_of-measure-requires
measure_of-measure-requires c =
    let a = c.args in
    let R = a.registers.now in
    let M = a.marks.now in
    let s : sound_with a.m (seals_in a.block.now) R M ≡ true = sym c.is_sound.ensures ∙ c.if-not-is_sound.false in
    s

pub returns : goal.returns
returns c =
    let a = c.args in
    let R = a.registers.now in
    let M = a.marks.now in
    let s : sound_with a.m (seals_in a.block.now) R M ≡ true = sym c.is_sound.ensures ∙ c.if-not-is_sound.false in
    size-done a.m (seals_in a.block.now) R M s c.measure_of-measure.result.size c.measure_of-measure.ensures.size_value
