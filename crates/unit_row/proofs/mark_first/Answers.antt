use Rattle.numbers.proofs.Kit.{◌≡◌, sym, ap, ◌∙◌, ◌++◌, arith, drop, length, length-take, take-append-drop, ℕ, ◌<◌}
use Rattle.std.proofs.lemmas.List.{set-append_left}
use Rattle.numbers.specs.Tile.{mark_row}
use Rattle.numbers.proofs.PutLaws.{mark_row-next}
use Rattle.unit_row.proofs.mark_first.Goals as goal

pub loop-mark-init : goal.loop-mark-init
unfolding mark_row
loop-mark-init c = take-append-drop c.args.n c.args.dst.now

pub loop-mark-preserved : goal.loop-mark-preserved
loop-mark-preserved c =
    let l = c.loop-mark in
    let d = c.args.dst.now in
    let h : l.mark-index < length l.mark-items = omega arith in
    sym (set-append_left l.mark-items (drop c.args.n d) l.mark-index 1 h) ∙ mark_row-next l.mark-index d (l.mark-items ++ drop c.args.n d) l.invariant

pub returns : goal.returns
returns c =
    let l = c.loop-mark in
    let d = c.args.dst.now in
    let e : l.mark-index ≡ c.args.n = omega (arith, length-take c.args.n d) in
    l.invariant ∙ ap (λ (n : ℕ). mark_row 0 n d) e
