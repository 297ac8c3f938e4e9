use Rattle.numbers.proofs.Kit.{[], ◌∷◌, ◌++◌, ◌+◌, arith, get_or}
use Rattle.numbers.specs.Reduce.{signed}
use Rattle.text_lines.specs.Lines.{number_text, spaced}
use Rattle.text_lines.specs.Parts.{signed_all}
use Rattle.text_lines.proofs.WriteLaws.{Ahead, ahead-start, ahead_step, ahead-as, ahead-room, tail_text, tail_more, row_first}
use Rattle.text_lines.proofs.put_row.Goals as goal
use Rattle.text_lines.proofs.put_row.Goals.{After-put_byte-next, In-Some, In-loop-x}

-- what is left at first, in a turn, and after its space
left : (c : In-Some) → Ahead c.args.out.now c.args.at c.args.out.now c.args.at (number_text (signed c.args.q c.in-Some.first.now) ++ tail_text c.args.q c.in-Some.others.now 0) (spaced (signed_all c.args.q c.args.row.now))
left c = ahead-as (row_first c.args.q c.args.row.now c.in-Some.first.now c.in-Some.others.now c.in-Some.ensures.cases.0) ahead-start

left-space : (c : In-loop-x) → Ahead c.args.out.now c.args.at c.loop-x.out c.loop-x.next
    ((32 ∷ []) ++ (number_text (signed c.args.q (get_or c.in-Some.others.now c.loop-x.x-index 0)) ++ tail_text c.args.q c.in-Some.others.now (c.loop-x.x-index + 1))) (spaced (signed_all c.args.q c.args.row.now))
left-space c = ahead-as (tail_more c.args.q c.in-Some.others.now c.loop-x.x-index (omega arith)) c.loop-x.invariant

left-number : (c : After-put_byte-next) → Ahead c.args.out.now c.args.at c.put_byte-next.new.out c.put_byte-next.result
    (number_text (signed c.args.q (get_or c.in-Some.others.now c.loop-x.x-index 0)) ++ tail_text c.args.q c.in-Some.others.now (c.loop-x.x-index + 1)) (spaced (signed_all c.args.q c.args.row.now))
left-number c = ahead_step (left-space (goal.at.After-put_byte-next c).In-loop-x) c.put_byte-next.ensures

pub put_byte-next-requires : goal.put_byte-next-requires
put_byte-next-requires c =
    let others = c.in-Some.others.now in
    let j = c.loop-x.x-index in
    let g = ahead-room (32 ∷ []) (number_text (signed c.args.q (get_or others j 0)) ++ tail_text c.args.q others (j + 1)) (left-space (goal.at.put_byte-next-requires c).In-loop-x) c.requires in
    omega arith

pub loop-x-preserved : goal.loop-x-preserved
loop-x-preserved c = ahead_step (left-number (goal.at.loop-x-preserved c).After-put_byte-next) c.put_signed-next-in-loop-x.ensures
