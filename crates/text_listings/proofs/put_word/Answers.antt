use Rattle.numbers.proofs.Kit.{◌≡◌, sym, ap, ◌∙◌, [], ◌∷◌, ◌++◌, ℕ, ◌+◌, ◌-◌, arith}
use Rattle.text_lines.proofs.WriteLaws.{Ahead, ahead_step, ahead-as, ahead-end, ahead-room}
use Rattle.text_assembly.specs.Words.{hex_digits, word_text}
use Rattle.text_listings.proofs.ListLaws.{digits-next}
use Rattle.text_listings.proofs.put_word.Goals as goal
use Rattle.text_listings.proofs.put_word.Goals.{After-hex_digit}

left : (c : After-hex_digit) → Ahead c.args.out.now c.args.at c.loop-n.out c.loop-n.next
    ((c.hex_digit.result ∷ []) ++ hex_digits (8 - (c.loop-n.n + 1)) c.args.word) (hex_digits 8 c.args.word)
left c =
    let l = c.loop-n in
    let a = c.args in
    let e : 8 - (l.n + 1) ≡ 7 - l.n = omega arith in
    ahead-as (digits-next l.n a.word (omega arith) ∙ ap (λ (z : ℕ). (z ∷ []) ++ hex_digits (8 - (l.n + 1)) a.word) (sym c.hex_digit.ensures)) l.invariant

pub put_byte-next-requires : goal.put_byte-next-requires
unfolding word_text
put_byte-next-requires c =
    let g = ahead-room (c.hex_digit.result ∷ []) (hex_digits (8 - (c.loop-n.n + 1)) c.args.word) (left (goal.at.put_byte-next-requires c).After-hex_digit) c.requires in
    omega arith

pub loop-n-preserved : goal.loop-n-preserved
loop-n-preserved c = ahead_step (left (goal.at.loop-n-preserved c).After-hex_digit) c.put_byte-next.ensures

pub returns : goal.returns
unfolding word_text
returns c =
    let l = c.loop-n in
    let z : 8 - l.n ≡ 0 = omega arith in
    ahead-end (ahead-as (ap (λ (x : ℕ). hex_digits x c.args.word) z) l.invariant)
