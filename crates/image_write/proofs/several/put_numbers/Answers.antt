-- `image_write::several::put_numbers` meets its contract. The invariant: what is still to be put makes of the room what the whole makes.
use Rattle.numbers.proofs.Kit.{refl, sym, ap, ◌∙◌, List, [], ℕ, ◌+◌, arith, length, drop, get_or, sets, length-sets}
use Rattle.numbers_format.specs.Numbers.{encode, encode_all}
use Rattle.image_write.proofs.PutLaws.{size-more, all_end, put-more}
use Rattle.image_write.proofs.several.put_numbers.Goals as goal

pub loop-n-init : goal.loop-n-init
loop-n-init c = (omega arith, refl, refl, refl)

pub loop-n-preserved : goal.loop-n-preserved
loop-n-preserved c =
    let l = c.loop-n in
    let a = c.args in
    let t = c.loop-n-test.true in
    let p = c.put_number-at in
    let n = get_or a.numbers.now l.n-index 0 in (
      omega arith,
      ap length p.ensures.1 ∙ length-sets l.room l.at (encode n) ∙ l.invariant.1,
      omega (arith, p.ensures.0, size-more a.numbers.now l.n-index t, l.invariant.2),
      ap (λ (x : ℕ). sets p.new.room x (encode_all (drop (l.n-index + 1) a.numbers.now) [])) p.ensures.0
          ∙ ap (λ (r : List ℕ). sets r (l.at + length (encode n)) (encode_all (drop (l.n-index + 1) a.numbers.now) [])) p.ensures.1
          ∙ sym (put-more a.numbers.now l.room l.n-index l.at t) ∙ l.invariant.3,
    )

pub returns : goal.returns
returns c =
    let l = c.loop-n in
    let a = c.args in
    let none_left = all_end a.numbers.now l.n-index (omega (arith, c.loop-n-test.false)) in
    record {
      value = omega (arith, ap length none_left, l.invariant.2);
      room_after = sym (ap (sets l.room l.at) none_left) ∙ l.invariant.3;
    }
