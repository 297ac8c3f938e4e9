-- `image_write::put_header` meets its contract.
use Rattle.numbers.proofs.Kit.{sym, ap, ◌∙◌, [], arith, sets}
use Rattle.numbers_format.specs.Numbers.{encode, encode_all}
use Rattle.unit_ranges.specs.Ranges.{seals_in}
use Rattle.image.specs.Images.{seal_fields, header_of}
use Rattle.image_write.specs.Parts.{plain_fields}
use Rattle.image_write.proofs.PutLaws.{put_three}
use Rattle.image_write.proofs.SealLaws.{header-parts, header-long, last-long}
use Rattle.image_write.proofs.put_header.Goals as goal

pub put_fields-first-requires : goal.put_fields-first-requires
put_fields-first-requires c =
    let a = c.args in
    omega (arith, c.requires.count_in_bounds, header-long a.m (seals_in a.block.now) a.count)

pub put_seals-last-requires : goal.put_seals-last-requires
put_seals-last-requires c =
    let a = c.args in
    record {
      block_value = c.requires.block_value;
      block_in_bounds = omega (arith, c.requires.count_in_bounds, c.put_fields-first.ensures.value, c.put_fields-first.auto.room, header-long a.m (seals_in a.block.now) a.count);
    }

pub put_number-requires : goal.put_number-requires
put_number-requires c =
    let a = c.args in
    omega (arith, c.requires.count_in_bounds, c.put_fields-first.ensures.value, c.put_fields-first.auto.room, c.put_seals-last.ensures.value, c.put_seals-last.auto.room, header-long a.m (seals_in a.block.now) a.count, last-long a.count)

pub returns : goal.returns
returns c =
    let a = c.args in
    let rs = seals_in a.block.now in
    record {
      value = omega (arith, c.put_number.ensures.0, c.put_seals-last.ensures.value, c.put_fields-first.ensures.value, header-long a.m rs a.count, last-long a.count);
      room_after = sym (put_three a.room.now (encode_all (plain_fields (header_of a.m [])) []) (encode_all (seal_fields rs) []) (encode a.count) []
          c.put_fields-first.new.room c.put_seals-last.new.room c.put_number.new.room a.start c.put_fields-first.result c.put_seals-last.result c.put_number.result
          c.put_fields-first.ensures.room_after c.put_fields-first.ensures.value c.put_seals-last.ensures.room_after c.put_seals-last.ensures.value c.put_number.ensures.1 c.put_number.ensures.0)
          ∙ ap (sets a.room.now a.start) (sym (header-parts a.m rs a.count));
    }
