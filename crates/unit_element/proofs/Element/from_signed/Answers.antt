-- The low bytes of the residue at 64 bits.
use Rattle.numbers.proofs.Kit.{ap, ◌∙◌, ℕ, ◌%◌, ◌^◌}
use Rattle.numbers.specs.Reduce.{signed}
use Rattle.numbers.proofs.ElementLaws.{cut}
use Rattle.unit_element.proofs.Laws.{width_small}
use Rattle.unit_element.proofs.Element.from_signed.Goals as goal

pub returns : goal.returns
returns g c =
    let w = g.Self.Element.BYTES in
    let n = g.N.Element in
    c.low.ensures ∙ ap (λ (v : ℕ). v % 256 ^ w) c.sign_extended.ensures
    ∙ cut w 8 (width_small w g.met.Self.Element.is_width) (signed (256 ^ n.BYTES) (n.number c.args.x))
