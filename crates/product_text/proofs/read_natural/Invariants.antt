use Rattle.numbers.proofs.Kit.{◌≡◌, ◌≤◌, drop}
use Rattle.product_text.specs.Text.{value_from}
use Rattle.product_text.specs.Parts.{kept}
use Rattle.product_text.proofs.read_natural.Given as goal

abbrev pub invariant-loop-d : goal.invariant-loop-d
invariant-loop-d l = (l.v ≤ 0x1_0000_0000) × (kept (value_from 0 l.digits) ≡ kept (value_from l.v (drop l.d-index l.digits)))
