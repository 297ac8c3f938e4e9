use mathlib.Core.Path.{sym, ap}
use mathlib.Core.List.{◌++◌}
use Prim.Native.Nat.{ℕ, ◌+◌}
use native.Mathlib.Omega.{arith}
use lib.ListN.{drop, get_or}
use Rattle.text_lines.proofs.WriteLaws.{Ahead, ahead_step, ahead-as}
use Rattle.text_write.specs.Parts.{piece_text, scale_after, text_from}
use Rattle.text_write.proofs.TextLaws.{text-on}
use Rattle.text_write.proofs.put_row.Goals as goal
use Rattle.text_write.proofs.put_row.Goals.{In-loop-c}

left : (c : In-loop-c) → Ahead c.args.out.now c.args.at c.loop-c.out c.loop-c.next
    (piece_text (get_or c.args.text.now c.loop-c.c-index 0) c.loop-c.scale c.args.word
    ++ text_from (drop (c.loop-c.c-index + 1) c.args.text.now) (scale_after (get_or c.args.text.now c.loop-c.c-index 0) c.loop-c.scale) c.args.word)
    (text_from c.args.text.now 128 c.args.word)
left c =
    let l = c.loop-c in
    let a = c.args in
    ahead-as (text-on a.text.now l.c-index l.scale a.word (omega arith)) l.invariant

pub loop-c-preserved : goal.loop-c-preserved
loop-c-preserved c =
    let l = c.loop-c in
    let a = c.args in
    ahead-as (ap (λ (z : ℕ). text_from (drop (l.c-index + 1) a.text.now) z a.word) (sym c.scale_after-scale.ensures)) (ahead_step (left (goal.at.loop-c-preserved c).In-loop-c) c.put_piece-next.ensures)
