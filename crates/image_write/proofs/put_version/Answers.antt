use Rattle.numbers.proofs.Kit.{◌≡◌, sym, ap, ◌∙◌, List, [], ℕ, arith, length, take, length-take, sets}
use Rattle.numbers_format.specs.Numbers.{encode_all}
use Rattle.std.proofs.Common.{rules}
use Rattle.image_write.proofs.put_version.Goals as goal
use Rattle.image_write.proofs.put_version.Goals.{After-version_of-version}

-- three numbers, of which some are taken
long : (c : After-version_of-version) → length c.version_of-version.result.numbers ≡ 3
long c = search rules

taken : (c : After-version_of-version) → let v = c.version_of-version.result in length (take v.count v.numbers) ≡ v.count
taken c = let v = c.version_of-version in omega (arith, length-take v.result.count v.result.numbers, long c, v.ensures.0)

pub slice_bounds-put_numbers-end : goal.slice_bounds-put_numbers-end
slice_bounds-put_numbers-end c = sym (taken (goal.at.slice_bounds-put_numbers-end c).After-version_of-version)

pub put_numbers-requires : goal.put_numbers-requires
put_numbers-requires c =
    let v = c.version_of-version in
    let same = ap (λ (ns : List ℕ). length (encode_all ns [])) v.ensures.1 in
    record {
      numbers_len_bound = omega (arith, taken (goal.at.put_numbers-requires c).After-version_of-version, v.ensures.0);
      numbers_in_bounds = omega (arith, same, c.requires.block_in_bounds);
    }

pub returns : goal.returns
returns c =
    let p = c.put_numbers in
    let v = c.version_of-version in
    let a = c.args in
    record {
      value = omega (arith, p.ensures.value, ap (λ (ns : List ℕ). length (encode_all ns [])) v.ensures.1);
      room_after = p.ensures.room_after ∙ ap (λ (ns : List ℕ). sets a.room.now 0 (encode_all ns [])) v.ensures.1;
    }
