-- `image_write::put_fields` meets its contract.
use Rattle.numbers.proofs.Kit.{ap, ◌∙◌, List, [], ℕ, arith, length, sets}
use Rattle.numbers_format.specs.Numbers.{encode_all}
use Rattle.image_write.proofs.put_fields.Goals as goal

pub put_numbers-requires : goal.put_numbers-requires
put_numbers-requires c =
    let e = c.fields_of-numbers.ensures in
    record {
      numbers_len_bound = omega (arith, ap length e);
      numbers_in_bounds = omega (arith, ap (λ (ns : List ℕ). length (encode_all ns [])) e, c.requires);
    }

pub returns : goal.returns
returns c =
    let p = c.put_numbers in
    let e = c.fields_of-numbers.ensures in
    let a = c.args in
    record {
      value = omega (arith, p.ensures.value, ap (λ (ns : List ℕ). length (encode_all ns [])) e);
      room_after = p.ensures.room_after ∙ ap (λ (ns : List ℕ). sets a.room.now a.start (encode_all ns [])) e;
    }
