-- The three tiles lie one after another in the registers.
use Rattle.numbers.proofs.Kit.{ap, ◌∙◌, arith, length}
use Rattle.unit_arithmetic.specs.declared.product.Product.{Product}
use Rattle.unit_arithmetic.proofs.RoomLaws.{product-lies}
use Rattle.unit_floats.specs.Rows.{float_tile, floats_added}
use Rattle.unit_floats.proofs.multiply_tile.Goals as goal

pub multiply_blocks-requires : goal.multiply_blocks-requires
multiply_blocks-requires c =
    let a = c.args in
    let r = c.requires in
    record { lies_in = rw c.product.ensures (product-lies a.t 1 4 a.d a.a a.b (length a.registers.now) r.d_bound r.registers (omega arith) r.m_le_rows (omega (arith, r.n_bound, r.registers), r.n_bound)) }

pub returns : goal.returns
unfolding float_tile
returns c = c.multiply_blocks.ensures ∙ ap (λ (q : Product). floats_added q c.args.registers.now) c.product.ensures
