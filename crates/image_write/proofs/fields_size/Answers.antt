-- `image_write::fields_size` meets its contract.
use Rattle.numbers.proofs.Kit.{ap, ◌∙◌, List, [], ℕ, arith, length}
use Rattle.numbers_format.specs.Numbers.{encode_all}
use Rattle.image_write.proofs.fields_size.Goals as goal

pub returns : goal.returns
returns c =
    let e = c.fields_of-numbers.ensures in
    (c.numbers_size.ensures.0 ∙ ap (λ (ns : List ℕ). length (encode_all ns [])) e, omega (arith, c.numbers_size.ensures.1, ap length e))
