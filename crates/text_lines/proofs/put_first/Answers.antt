use Rattle.numbers.proofs.Kit.{List, [], ◌∷◌, ◌++◌, ℕ}
use Rattle.text_lines.specs.Lines.{decimal, steps_word, first_line}
use Rattle.text_lines.proofs.WriteLaws.{Ahead, ahead-start, ahead_step, ahead-end}
use Rattle.text_lines.proofs.put_first.Goals as goal
use Rattle.text_lines.proofs.put_first.Goals.{After-put_decimal-b, After-put_decimal-d, After-put_text-a, After-put_text-c, Start}

-- what is left to write after each call
abbrev rest3 : Start → List ℕ
rest3 s = decimal s.args.steps ++ (10 ∷ [])

abbrev rest2 : Start → List ℕ
rest2 s = steps_word ++ rest3 s

abbrev rest1 : Start → List ℕ
rest1 s = decimal s.args.answer ++ rest2 s

abbrev Left : Start → List ℕ → ℕ → List ℕ → Type 0
Left s x next rest = Ahead s.args.out.now 0 x next rest (first_line s.args.answer s.args.steps)

left1 : (c : After-put_text-a) → Left c.before.before.before.before.before c.put_text-a.new.out c.put_text-a.result (rest1 c.before.before.before.before.before)
left1 c = ahead_step ahead-start c.put_text-a.ensures

left2 : (c : After-put_decimal-b) → Left c.before.before.before.before.before.before.before.before.before c.put_decimal-b.new.out c.put_decimal-b.result (rest2 c.before.before.before.before.before.before.before.before.before)
left2 c = ahead_step (left1 (goal.at.After-put_decimal-b c).After-put_text-a) c.put_decimal-b.ensures

left3 : (c : After-put_text-c) → Left c.before.before.before.before.before.before.before.before.before.before.before.before.before.before.before c.put_text-c.new.out c.put_text-c.result (rest3 c.before.before.before.before.before.before.before.before.before.before.before.before.before.before.before)
left3 c = ahead_step (left2 (goal.at.After-put_text-c c).After-put_decimal-b) c.put_text-c.ensures

left4 : (c : After-put_decimal-d) → Left c.before.before.before.before.before.before.before.before.before.before.before.before.before.before.before.before.before.before.before c.put_decimal-d.new.out c.put_decimal-d.result (10 ∷ [])
left4 c = ahead_step (left3 (goal.at.After-put_decimal-d c).After-put_text-c) c.put_decimal-d.ensures

pub returns : goal.returns
returns c = ahead-end (ahead_step (left4 (goal.at.returns c).After-put_decimal-d) c.put_byte.ensures)
