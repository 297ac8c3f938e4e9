use Rattle.numbers.proofs.Kit.{◌≡◌, sym, ap, ◌∙◌, ◌∷◌, ℕ, suc, ◌-◌}
use Rattle.numbers.specs.Reduce.{signed}
use Rattle.text_lines.specs.Lines.{decimal, number_text}
use Rattle.text_lines.proofs.WriteLaws.{wrote-more, wrote_as, minus-text, plus-text}
use Rattle.text_lines.proofs.put_signed.Goals as goal
use Rattle.text_lines.proofs.put_signed.Goals.{Else-is_minus, Then-is_minus}

-- the text of the number, with a minus and without
below : (c : Then-is_minus) → number_text (signed c.args.q c.args.x) ≡ 45 ∷ decimal (suc (c.args.q - suc c.args.x))
below c = minus-text c.args.q c.args.x (sym c.is_minus.ensures ∙ c.if-is_minus.true)

above : (c : Else-is_minus) → number_text (signed c.args.q c.args.x) ≡ decimal c.args.x
above c = plus-text c.args.q c.args.x (sym c.is_minus.ensures ∙ c.if-is_minus.false)

pub returns-then-is_minus : goal.returns-then-is_minus
returns-then-is_minus c =
    wrote-more (ap (λ (y : ℕ). 45 ∷ decimal y) c.magnitude.ensures ∙ sym (below (goal.at.returns-then-is_minus c).Then-is_minus))
    c.put_byte-next.ensures c.put_decimal.ensures

pub returns-else-is_minus : goal.returns-else-is_minus
returns-else-is_minus c = wrote_as (sym (above (goal.at.returns-else-is_minus c).Else-is_minus)) c.put_decimal-else-is_minus.ensures
