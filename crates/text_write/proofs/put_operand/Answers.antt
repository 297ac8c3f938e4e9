use mathlib.Core.Path.{◌≡◌, sym, ap, ◌∙◌}
use mathlib.Core.List.{◌∷◌}
use Prim.Native.Nat.{ℕ, ◌-◌}
use Rattle.text_lines.specs.Lines.{decimal}
use Rattle.text_lines.proofs.WriteLaws.{wrote-more, wrote_as}
use Rattle.text_assembly.specs.Lines.{shown}
use Rattle.text_read.specs.Parts.{meant_by}
use Rattle.text_write.proofs.TextLaws.{minus-text, plus-text}
use Rattle.text_write.proofs.put_operand.Goals as goal
use Rattle.text_write.proofs.put_operand.Goals.{Else-is_minus, Then-is_minus}

below : (c : Then-is_minus) → shown (meant_by c.args.operand) c.args.value ≡ 45 ∷ decimal (32 - c.args.value)
below c = minus-text (meant_by c.args.operand) c.args.value (sym c.is_minus.ensures ∙ c.if-is_minus.true)

above : (c : Else-is_minus) → shown (meant_by c.args.operand) c.args.value ≡ decimal c.args.value
above c = plus-text (meant_by c.args.operand) c.args.value (sym c.is_minus.ensures ∙ c.if-is_minus.false)

pub returns-then-is_minus : goal.returns-then-is_minus
returns-then-is_minus c =
    wrote-more (ap (λ (y : ℕ). 45 ∷ decimal y) c.saturating_sub.ensures ∙ sym (below (goal.at.returns-then-is_minus c).Then-is_minus)) c.put_byte-next.ensures c.put_decimal.ensures

pub returns : goal.returns
returns c = wrote_as (sym (above (goal.at.returns c).Else-is_minus)) c.put_decimal-2.ensures
