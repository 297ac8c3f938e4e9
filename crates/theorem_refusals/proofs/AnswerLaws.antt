-- The answer of checks, one by one.
use Rattle.numbers.proofs.Kit.{◌≡◌, refl, sym, ap, ◌∙◌, Bool, true, false, cond, List, [], ◌∷◌, ◌++◌, Err}
use Rattle.machine.specs.Answers.{Answer, Check, verdict, is_done, Done}
use Rattle.machine.proofs.TestLaws.{false-true}
use Rattle.machine.proofs.CheckLaws.{Passed}

pub answer-first : (c : Check) (cs : List Check) (a : Answer) → a ≡ verdict (c ∷ []) → is_done a ≡ false → a ≡ verdict (c ∷ cs)
answer-first c cs a h d = go c.holds h
  where
    go : (t : Bool) → a ≡ cond t Done (Err c.answer) → a ≡ cond t (verdict cs) (Err c.answer)
    go true h = absurd (false-true (sym d ∙ ap is_done h))
    go false h = h

pub answer-holds : (c : Check) (a : Answer) → a ≡ verdict (c ∷ []) → is_done a ≡ true → is_done (Err c.answer) ≡ false → c.holds ≡ true
answer-holds c a h d n = go c.holds h
  where
    go : (t : Bool) → a ≡ cond t Done (Err c.answer) → t ≡ true
    go true h = refl
    go false h = sym n ∙ sym (ap is_done h) ∙ d

-- those before have passed, and this one fails
pub answer-after : (cs : List Check) → Passed cs → (c : Check) → c.holds ≡ false → (rest : List Check) → Err c.answer ≡ verdict (cs ++ (c ∷ rest))
answer-after [] p c h rest = rw h
answer-after (d ∷ cs) p c h rest = rw p.0 (answer-after cs p.1 c h rest)
