use Rattle.numbers.proofs.Kit.{◌≡◌, sym, ap, ◌∙◌, true, ℕ, ◌+◌, arith, drop, get_or}
use Rattle.product_text.specs.Text.{digit, value_from}
use Rattle.product_text.specs.Parts.{kept}
use Rattle.product_text.proofs.ReadLaws.{digits_more}
use Rattle.product_text.proofs.read_natural.Goals as goal

pub loop-d-preserved : goal.loop-d-preserved
loop-d-preserved c =
    let w = c.args.digits.now in
    let l = c.loop-d in
    let e : digit (get_or w l.d-index 0) ≡ true = sym c.is_ascii_digit.ensures.value ∙ c.if-not-is_ascii_digit.false in
    (omega (arith, c.more-v.ensures), l.invariant.1 ∙ digits_more w l.d-index l.v (omega arith) e ∙ ap (λ (x : ℕ). kept (value_from x (drop (l.d-index + 1) w))) (sym c.more-v.ensures))
