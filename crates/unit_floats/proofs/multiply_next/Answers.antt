-- By whether two rows are left of whole blocks.
use Rattle.numbers.proofs.Kit.{◌*◌, ◌≤◌, mul-le-mul_right, arith}
use Rattle.numbers.specs.Binary32.{float_product}
use Rattle.unit_sums.proofs.TurnLaws.{rule-one}
use Rattle.unit_floats.proofs.multiply_next.Goals as goal

pub multiply_two-requires-clause-k_in_bounds : goal.multiply_two-requires-clause-k_in_bounds
multiply_two-requires-clause-k_in_bounds c =
    let p = c.args.p in
    let h = c.requires.lies_in in
    let f : 2 * p.pitch ≤ p.m * p.pitch = mul-le-mul_right p.pitch (omega arith) in
    let g : 2 * (4 * p.pitch) ≤ p.m * (4 * p.pitch) = mul-le-mul_right (4 * p.pitch) (omega arith) in
    (omega (arith, h), omega (arith, h))

pub multiply_row-requires-clause-k_in_bounds : goal.multiply_row-requires-clause-k_in_bounds
multiply_row-requires-clause-k_in_bounds c =
    let p = c.args.p in
    let h = c.requires.lies_in in
    let f : 1 * p.pitch ≤ p.m * p.pitch = mul-le-mul_right p.pitch c.requires.m_nonzero.0 in
    let g : 1 * (4 * p.pitch) ≤ p.m * (4 * p.pitch) = mul-le-mul_right (4 * p.pitch) c.requires.m_nonzero.0 in
    (omega (arith, h), omega (arith, h))

pub returns : goal.returns
returns c =
    let p = c.args.p in
    record {
      result_nonzero = (omega arith, c.requires.m_nonzero.0);
      s_after = rule-one (float_product p.k) 4 4 p.pitch (4 * p.pitch) p.n p.a p.b p.c c.args.s.now c.multiply_row.new.s c.multiply_row.ensures;
    }
