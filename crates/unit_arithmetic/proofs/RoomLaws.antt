-- Where the tiles lie in the registers.
use Rattle.numbers.proofs.Kit.{inl, inr, ℕ, zero, suc, ◌+◌, ◌*◌, ◌≤◌, ◌<◌, mul-le-mul_right, arith}
use Rattle.machine.specs.Geometry.{acc_at}
use Rattle.numbers.specs.Bounds.{most_pitch}
use Rattle.unit_element.specs.Element.{Width}
use Rattle.unit_arithmetic.specs.declared.Tiles.{Tiles}
use Rattle.unit_arithmetic.specs.Effect.{shape}
use Rattle.unit_arithmetic.specs.Products.{LiesIn}
use Rattle.unit_arithmetic.specs.Tiles.{Registers, product_of}

-- a row of an accumulator lies in the registers
pub acc-row : (rows pitch a i : ℕ) → a < 2 → i < rows → acc_at (shape rows pitch) a i + 4 * pitch ≤ 16 * (rows * pitch)
acc-row rows pitch a i la li = omega (arith, mul-le-mul_right (4 * pitch) li, mul-le-mul_right (rows * pitch) la)

-- the output is no narrower
pub wider : (f w : ℕ) → Width (f * w) → w ≤ f * w
wider zero w h = absurd (omega (arith, width_some (zero * w) h))
  where
    width_some : (v : ℕ) → Width v → zero < v
    width_some v (inl e) = omega arith
    width_some v (inr (inl e)) = omega arith
    width_some v (inr (inr (inl e))) = omega arith
    width_some v (inr (inr (inr e))) = omega arith
wider (suc f) w h = omega arith

in-eight : (r e z : ℕ) → r < 8 → e ≤ z → r * z + e ≤ 8 * z
in-eight r e z h l = omega (arith, mul-le-mul_right z h)

-- the three tiles of a product lie one after another in the registers
pub product-lies : (t : Tiles) (f w d a b len : ℕ) → (d < 2) × ((a < 8) × (b < 8)) → Registers t len → f ≤ 4 → (t.m ≤ t.rows) × ((t.k ≤ t.rows) × (t.k ≤ most_pitch))
    → (t.n ≤ most_pitch) × ((t.n * w ≤ t.pitch) × (t.k * w ≤ t.pitch)) → LiesIn (product_of t d a b) w (f * w) len
product-lies t f w d a b len regs bytes lf sizes cols =
    let size : ℕ = t.rows * t.pitch in
    let x : a * size + t.m * t.pitch ≤ 8 * size = in-eight a (t.m * t.pitch) size regs.1.0 (mul-le-mul_right t.pitch sizes.0) in
    let y : b * size + t.k * t.pitch ≤ 8 * size = in-eight b (t.k * t.pitch) size regs.1.1 (mul-le-mul_right t.pitch sizes.1.0) in
    let z : (8 + 4 * d) * size + t.m * (4 * t.pitch) ≤ len = omega (arith, mul-le-mul_right size regs.0, mul-le-mul_right t.pitch sizes.0, bytes) in
    let wide : t.n * (f * w) ≤ 4 * t.pitch = omega (arith, mul-le-mul_right (t.n * w) lf, cols) in
    record {
      pitch-bound = bytes.1.0;
      terms-bound = sizes.1.1;
      columns-bound = cols.0;
      a-row = cols.1.1;
      b-row = cols.1.0;
      c-row = wide;
      a-before = omega (arith, cols);
      b-before = omega arith;
      c-inside = omega arith;
      c-ends = omega arith;
    }
