use Rattle.numbers.proofs.Kit.{ap, ◌∙◌, arith, length, sets}
use Rattle.image_write.proofs.SealLaws.{count_none, count-some}
use Rattle.image_write.proofs.seals.put_count.Goals as goal

pub returns-then-count-eq1 : goal.returns-then-count-eq1
returns-then-count-eq1 c =
    let a = c.args in
    let e = count_none a.count c.if-count-eq1.true in
    record {
      value = omega (arith, ap length e);
      room_after = ap (sets a.room.now a.at) e;
    }

pub put_number-requires : goal.put_number-requires
put_number-requires c =
    omega (arith, c.requires, ap length (count-some c.args.count c.if-count-eq1.false))

pub returns : goal.returns
returns c =
    let a = c.args in
    let e = count-some a.count c.if-count-eq1.false in
    record {
      value = omega (arith, c.put_number.ensures.0, ap length e);
      room_after = c.put_number.ensures.1 ∙ ap (sets a.room.now a.at) e;
    }
