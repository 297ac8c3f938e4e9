use Rattle.numbers.proofs.Kit.{◌≡◌, sym, ap, ap₂, ◌∙◌, List, [], ◌∷◌, ◌++◌, ℕ, ◌+◌, ◌*◌, ◌-◌, ◌≤◌, ◌<◌, arith, length, take, drop, length-drop, length-take}
use Rattle.text_lines.proofs.WriteLaws.{Ahead, ahead_step, ahead-as}
use Rattle.text_assembly.specs.Programs.{reply_to, lines_of, replies}
use Rattle.text_read.specs.Parts.{feed_at}
use Rattle.text_listings.proofs.RoomLaws.{replies-next, room_next, line-is, feed-bound}
use Rattle.text_listings.proofs.put_replies.Goals as goal
use Rattle.text_listings.proofs.put_replies.Goals.{After-line_end-to}

-- the line of a turn
abbrev here : After-line_end-to → List ℕ
here w = take (w.line_end-to.result - w.loop-from.from) (drop w.loop-from.from w.args.text.now)

abbrev rest : After-line_end-to → List ℕ
rest w = replies w.args.back (lines_of (drop (w.line_end-to.result + 1) w.args.text.now))

in-text : (w : After-line_end-to) → (w.loop-from.from ≤ w.line_end-to.result) × (w.line_end-to.result ≤ length w.args.text.now)
in-text w =
    let t = w.args.text.now in
    let f = w.loop-from.from in
    let b = feed-bound (drop f t) in
    let l : f < length t = omega arith in
    (omega (arith, w.line_end-to.ensures), omega (arith, w.line_end-to.ensures, length-drop f t))

left : (w : After-line_end-to) → Ahead w.args.out.now 0 w.loop-from.out w.loop-from.at
    (reply_to w.args.back (here w) ++ ((10 ∷ []) ++ rest w)) (replies w.args.back (lines_of w.args.text.now))
left w =
    let l = w.loop-from in
    let a = w.args in
    let e = w.line_end-to.ensures in
    ahead-as (replies-next a.back a.text.now l.from (omega arith)
    ∙ ap₂ (λ (x : List ℕ) (y : ℕ). reply_to a.back x ++ ((10 ∷ []) ++ replies a.back (lines_of (drop (y + 1) a.text.now)))) (sym (line-is a.text.now l.from w.line_end-to.result e)) (sym e))
    l.invariant.1

space : (w : After-line_end-to) → w.loop-from.at + (length (reply_to w.args.back (here w)) + 1) + 12 * (length w.args.text.now - (w.line_end-to.result + 1)) ≤ 786432
space w =
    let l = w.loop-from in
    let a = w.args in
    let e = w.line_end-to.ensures in
    let r = room_next a.back a.text.now l.from (omega arith) w.requires.0 in
    let s : length (reply_to a.back (here w)) ≡ length (reply_to a.back (take (feed_at (drop l.from a.text.now)) (drop l.from a.text.now))) = ap (λ (x : List ℕ). length (reply_to a.back x)) (line-is a.text.now l.from w.line_end-to.result e) in
    omega (arith, l.invariant.0)

short : (w : After-line_end-to) → length (here w) ≤ 65536
short w =
    let l = w.loop-from in
    let a = w.args in
    omega (arith, length-take (w.line_end-to.result - l.from) (drop l.from a.text.now), length-drop l.from a.text.now, w.requires.0)

pub slice_bounds-put_reply-end : goal.slice_bounds-put_reply-end
slice_bounds-put_reply-end c = let b = in-text (goal.at.slice_bounds-put_reply-end c).After-line_end-to in omega arith

pub put_reply-next-requires : goal.put_reply-next-requires
put_reply-next-requires c =
    let d = (goal.at.put_reply-next-requires c).After-line_end-to in
    let p = c.requires in
    let s = space d in
    (short d, omega (arith, p.1, c.loop-from.invariant.1.same))

pub put_byte-at-requires : goal.put_byte-at-requires
put_byte-at-requires c =
    let r = c.put_reply-next.ensures in
    let s = space (goal.at.put_byte-at-requires c).After-line_end-to in
    omega (arith, r.to, r.same, c.requires.1, c.loop-from.invariant.1.same)

pub loop-from-preserved : goal.loop-from-preserved
loop-from-preserved c =
    let d = (goal.at.loop-from-preserved c).After-line_end-to in
    let r = c.put_reply-next.ensures in
    let b = c.put_byte-at.ensures in
    let s = space d in
    (omega (arith, r.to, b.to), ahead_step (ahead_step (left d) r) b)
