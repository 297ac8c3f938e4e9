use Rattle.numbers.proofs.Kit.{◌≡◌, ap, List, [], ◌∷◌, ◌++◌, ℕ, ◌+◌, ◌-◌, ◌*◌, ◌≤◌, arith, length, take, drop}
use Rattle.numbers.proofs.PutLaws.{row_fits}
use Rattle.text_lines.specs.Lines.{spaced, lines}
use Rattle.text_lines.specs.Parts.{signed_all, rows_of}
use Rattle.text_lines.proofs.WriteLaws.{Ahead, ahead_step, ahead-as, ahead-room, rest_lines, lines_more}
use Rattle.text_lines.proofs.put_lines.Goals as goal
use Rattle.text_lines.proofs.put_lines.Goals.{After-put_row-next, In-loop-i}

-- in a turn: the row that is written, and what is left after its line feed
abbrev row : In-loop-i → List ℕ
row c = let a = c.args in let from : ℕ = c.loop-i.i * a.cols in spaced (signed_all a.q (take (from + a.cols - from) (drop from a.c.now)))

abbrev rest : In-loop-i → List ℕ
rest c = let a = c.args in let i = c.loop-i.i in rest_lines a.q a.c.now a.rows a.cols (i + 1) (i * a.cols + a.cols)

fits : (c : In-loop-i) → c.loop-i.i * c.args.cols + c.args.cols ≤ length c.args.c.now
fits c = omega (arith, c.requires.0, row_fits c.loop-i.i c.args.rows c.args.cols (omega arith))

left : (c : In-loop-i) → Ahead c.args.out.now c.args.at c.loop-i.out c.loop-i.next (row c ++ ((10 ∷ []) ++ rest c)) (lines (rows_of c.args.rows c.args.cols (signed_all c.args.q c.args.c.now)))
left c =
    let a = c.args in
    let l = c.loop-i in
    ahead-as (lines_more a.q a.c.now a.rows a.cols l.i (l.i * a.cols) (omega arith)) l.invariant

left-feed : (c : After-put_row-next) → Ahead c.args.out.now c.args.at c.put_row-next.new.out c.put_row-next.result ((10 ∷ []) ++ rest (goal.at.After-put_row-next c).In-loop-i)
    (lines (rows_of c.args.rows c.args.cols (signed_all c.args.q c.args.c.now)))
left-feed c = ahead_step (left (goal.at.After-put_row-next c).In-loop-i) c.put_row-next.ensures

pub put_row-next-requires : goal.put_row-next-requires
put_row-next-requires c = let d = (goal.at.put_row-next-requires c).In-loop-i in ahead-room (row d) ((10 ∷ []) ++ rest d) (left d) c.requires.1

pub put_byte-next-requires : goal.put_byte-next-requires
put_byte-next-requires c =
    let d = (goal.at.put_byte-next-requires c).After-put_row-next in
    let g = ahead-room (10 ∷ []) (rest (goal.at.put_byte-next-requires c).In-loop-i) (left-feed d) c.requires.1 in
    omega arith

pub loop-i-preserved : goal.loop-i-preserved
loop-i-preserved c =
    let a = c.args in
    let i = c.loop-i.i in
    let e : i * a.cols + a.cols ≡ (i + 1) * a.cols = omega arith in
    ahead-as (ap (λ (from : ℕ). rest_lines a.q a.c.now a.rows a.cols (i + 1) from) e) (ahead_step (left-feed (goal.at.loop-i-preserved c).After-put_row-next) c.put_byte-next.ensures)
