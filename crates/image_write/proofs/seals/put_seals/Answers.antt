use Rattle.numbers.proofs.Kit.{◌≡◌, sym, ap, ap₂, ◌∙◌, List, [], ℕ, ◌*◌, arith, length, take, sets}
use Rattle.numbers_format.specs.Numbers.{encode_all}
use Rattle.unit_ranges.specs.Ranges.{seals_in}
use Rattle.image.specs.Images.{bounds}
use Rattle.image_write.specs.Parts.{count_field}
use Rattle.image_write.proofs.PutLaws.{sets-append}
use Rattle.image_write.proofs.SealLaws.{seals-many, all-taken, taken-many, seal-parts, seal-long}
use Rattle.image_write.proofs.seals.put_seals.Goals as goal
use Rattle.image_write.proofs.seals.put_seals.Goals.{After-bounds_of-numbers, After-count_of-count}

taken : (c : After-bounds_of-numbers) → let n = c.count_of-count.result in length (take (2 * n) c.bounds_of-numbers.result) ≡ 2 * n
taken c =
    taken-many c.args.block.now c.requires.block_value c.count_of-count.result c.bounds_of-numbers.result c.count_of-count.ensures.0 c.bounds_of-numbers.ensures

part : (c : After-bounds_of-numbers) → take (2 * c.count_of-count.result) c.bounds_of-numbers.result ≡ bounds (seals_in c.args.block.now)
part c =
    all-taken c.args.block.now c.requires.block_value c.count_of-count.result c.bounds_of-numbers.result c.count_of-count.ensures.0 c.bounds_of-numbers.ensures

many : (n : After-count_of-count) → length (seals_in n.args.block.now) ≡ n.count_of-count.result
many n = seals-many n.args.block.now n.requires.block_value ∙ sym n.count_of-count.ensures.0

pub put_count-at-requires : goal.put_count-at-requires
put_count-at-requires c =
    omega (arith, c.requires.block_in_bounds, seal-long (seals_in c.args.block.now) c.count_of-count.result (many (goal.at.put_count-at-requires c).After-count_of-count))

pub slice_bounds-put_numbers-end : goal.slice_bounds-put_numbers-end
slice_bounds-put_numbers-end c = sym (taken (goal.at.slice_bounds-put_numbers-end c).After-bounds_of-numbers)

pub put_numbers-requires : goal.put_numbers-requires
put_numbers-requires c =
    let same = ap (λ (ns : List ℕ). length (encode_all ns [])) (part (goal.at.put_numbers-requires c).After-bounds_of-numbers) in
    record {
      numbers_len_bound = omega (arith, taken (goal.at.put_numbers-requires c).After-bounds_of-numbers, c.count_of-count.ensures.1);
      numbers_in_bounds = omega (arith, same, c.requires.block_in_bounds, c.put_count-at.ensures.value, c.put_count-at.auto.room, seal-long (seals_in c.args.block.now) c.count_of-count.result (many (goal.at.put_numbers-requires c).After-count_of-count));
    }

pub returns : goal.returns
returns c =
    let a = c.args in
    let rs = seals_in a.block.now in
    let same = ap (λ (ns : List ℕ). length (encode_all ns [])) (part (goal.at.returns c).After-bounds_of-numbers) in
    record {
      value = omega (arith, same, c.put_numbers.ensures.value, c.put_count-at.ensures.value, seal-long rs c.count_of-count.result (many (goal.at.returns c).After-count_of-count));
      room_after = c.put_numbers.ensures.room_after
          ∙ ap (λ (ns : List ℕ). sets c.put_count-at.new.room c.put_count-at.result (encode_all ns [])) (part (goal.at.returns c).After-bounds_of-numbers)
          ∙ ap₂ (λ (x : List ℕ) (y : ℕ). sets x y (encode_all (bounds rs) [])) c.put_count-at.ensures.room_after c.put_count-at.ensures.value
          ∙ sym (sets-append (encode_all (count_field c.count_of-count.result) []) (encode_all (bounds rs) []) a.room.now a.start)
          ∙ ap (sets a.room.now a.start) (sym (seal-parts rs c.count_of-count.result (many (goal.at.returns c).After-count_of-count)));
    }
