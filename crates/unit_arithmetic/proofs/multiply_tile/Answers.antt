-- The three tiles lie one after another in the registers.
use Rattle.numbers.proofs.Kit.{ap, ◌∙◌, ◌*◌, length}
use Rattle.unit_arithmetic.specs.declared.product.Product.{Product}
use Rattle.unit_arithmetic.specs.Effect.{product_tile}
use Rattle.unit_arithmetic.specs.Products.{added}
use Rattle.unit_arithmetic.proofs.RoomLaws.{product-lies, wider}
use Rattle.unit_arithmetic.proofs.multiply_tile.Goals as goal

pub multiply_blocks-requires : goal.multiply_blocks-requires
multiply_blocks-requires c =
    let a = c.args in
    let r = c.requires in
    record {
      widths = (r.width, (r.width_2, wider a.factor a.width r.width_2));
      lies_in = rw c.product.ensures (product-lies a.t a.factor a.width a.d a.a a.b (length a.registers.now) r.d_bound r.registers r.factor_bound r.m_le_rows r.n_le_most_pitch);
    }

pub returns : goal.returns
unfolding product_tile
returns c =
    let a = c.args in
    c.multiply_blocks.ensures ∙ ap (λ (q : Product). added q a.width (a.factor * a.width) a.registers.now) c.product.ensures
