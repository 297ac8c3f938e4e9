use Rattle.numbers.proofs.Kit.{◌≡◌, refl, ap, ◌∙◌, true, ℕ, zero, ◌+◌, ◌*◌, ◌^◌, ◌≤◌, ◌<◌, zero-mul, le-mul_of_pos_right, mul-le-mul_right, mul-pos}
use Rattle.numbers.proofs.Kit.{arith, length, length-take, length-drop}
use Rattle.std.proofs.Common.{rules}
use Rattle.numbers.specs.Tile.{get_le, put_tile}
use Rattle.numbers.proofs.PutLaws.{row_fits, put_tile-none}
use Rattle.machine.specs.Memory.{row_at, inside}
use Rattle.machine.specs.Operation.{element}
use Rattle.unit_tile.proofs.CopyLaws.{row_reached, row_found}
use Rattle.unit_transfer.proofs.WalkLaws.{width_some, register-at, register-inside, row-gathered}
use Rattle.unit_transfer.proofs.scatter_tile.Goals as goal
use Rattle.unit_transfer.proofs.scatter_tile.Goals.{After-row_address-to, In-loop-j}

pub returns-then-t-eq0 : goal.returns-then-t-eq0
returns-then-t-eq0 c =
    let a = c.args in
    put_tile-none (row_at a.t.base a.t.stride) a.t.columns a.t.rows a.t.width (λ j i. element a.registers.now (λ i. a.t.start + i * a.t.pitch) a.t.width i j) a.memory.now
    (ap (λ (n : ℕ). n * a.t.width) c.if-t-eq0.true ∙ zero-mul a.t.width)

pub loop-j-init : goal.loop-j-init
unfolding put_tile
loop-j-init c = refl

-- in a turn: there are elements, and few columns, so that their number is a signed one; a row of the registers is short
sizes : (c : In-loop-j) →
    let a = c.args in
    (zero < a.t.rows * a.t.width) × (a.t.columns < 2 ^ 63) × (a.t.pitch + a.t.pitch < 2 ^ 64)
sizes c =
    let a = c.args in
    let v : zero < a.t.width = width_some a.t.width c.requires.width in
    let some : zero < a.t.rows = omega (arith, c.if-t-eq0.false) in
    let p : 1 * a.t.pitch ≤ a.t.rows * a.t.pitch = mul-le-mul_right a.t.pitch some in
    let q : a.t.columns ≤ a.t.columns * a.t.width = le-mul_of_pos_right {m = a.t.width} a.t.columns v in
    (mul-pos some v, omega (arith, c.well_formed.1.0.1, c.requires.pitch_in_bounds, c.requires.width_bound), omega (arith, c.well_formed.1.0.1, c.requires.pitch_in_bounds))

pub row_address-to-requires : goal.row_address-to-requires
row_address-to-requires c =
    let t = c.args.t in
    let z = sizes (goal.at.row_address-to-requires c).In-loop-j in
    let r = row_reached (length c.args.memory.now) t.base t.stride t.columns (t.rows * t.width) c.loop-j.j c.as_signed.result c.requires.width_value z.0 (omega arith) c.loop-j-test.true c.as_signed.type_inv c.as_signed.ensures
    (omega (arith, c.well_formed.0.1)) z.1 in
    record {
      row_bound = r.0;
      row_bound_2 = r.1.0;
      stride_value = r.1.1;
    }

-- where the row starts in memory, and that it lies there; the column lies in the registers
here : (c : After-row_address-to) →
    let a = c.args in
    let j = c.loop-j.j in
    let from : ℕ = a.t.start + j * a.t.width in
    (c.row_address-to.result ≡ row_at a.t.base a.t.stride j) × (c.row_address-to.result + a.t.rows * a.t.width ≤ length a.memory.now)
    × (inside (length a.registers.now) from a.t.pitch a.t.rows a.t.width ≡ true) × ((i : ℕ) → row_at from a.t.pitch i ≡ a.t.start + i * a.t.pitch + j * a.t.width)
    × (from + a.t.width ≤ a.t.start + a.t.pitch)
here c =
    let a = c.args in
    let j = c.loop-j.j in
    let z = sizes (goal.at.After-row_address-to c).In-loop-j in
    let size : ℕ = length a.registers.now in
    let f = row_found (length a.memory.now) a.t.base a.t.stride a.t.columns (a.t.rows * a.t.width) j c.as_signed.result c.requires.width_value z.0 (omega arith) c.loop-j-test.true c.as_signed.type_inv c.as_signed.ensures
    c.row_address-to.result c.row_address-to.ensures in (
      f.0,
      f.1,
      register-inside size a.t.start a.t.pitch a.t.rows a.t.columns a.t.width c.requires.pitch_in_bounds c.requires.width_bound z.2 j c.loop-j-test.true,
      register-at size a.t.start a.t.pitch a.t.rows a.t.columns a.t.width c.requires.pitch_in_bounds c.requires.width_bound z.2 j c.loop-j-test.true,
      omega (arith, c.requires.width_bound, row_fits j a.t.columns a.t.width c.loop-j-test.true),
    )

pub slice_bounds-gather-count : goal.slice_bounds-gather-count
slice_bounds-gather-count c = let h = here (goal.at.slice_bounds-gather-count c).After-row_address-to in omega arith

pub slice_bounds-gather-start : goal.slice_bounds-gather-start
slice_bounds-gather-start c = let h = here (goal.at.slice_bounds-gather-start c).After-row_address-to in search rules

pub gather-requires : goal.gather-requires
gather-requires c =
    let h = here (goal.at.gather-requires c).After-row_address-to in
    record {
      width = c.requires.width;
      w_in_bounds = simp (length-take, length-drop) (omega arith);
      w_value = h.2;
    }

pub overflow_mul-from : goal.overflow_mul-from
overflow_mul-from c =
    let h = here (goal.at.overflow_mul-from c).After-row_address-to in
    let z = sizes (goal.at.overflow_mul-from c).In-loop-j in
    omega (arith, c.well_formed.1.0.1, c.requires.pitch_in_bounds)

pub overflow_add-from : goal.overflow_add-from
overflow_add-from c =
    let h = here (goal.at.overflow_add-from c).After-row_address-to in
    let z = sizes (goal.at.overflow_add-from c).In-loop-j in
    omega (arith, c.well_formed.1.0.1, c.requires.pitch_in_bounds)

pub loop-j-preserved : goal.loop-j-preserved
loop-j-preserved c =
    let a = c.args in
    let h = here (goal.at.loop-j-preserved c).After-row_address-to in
    row-gathered (row_at a.t.base a.t.stride) c.loop-j.j a.t.rows a.t.width (λ j i. element a.registers.now (λ i. a.t.start + i * a.t.pitch) a.t.width i j) a.memory.now c.loop-j.memory c.gather.new.dst
    a.registers.now _ _ _ c.loop-j.invariant h.0 (omega arith) refl (λ i m. ap (λ (q : ℕ). get_le a.registers.now q a.t.width) (h.3 i)) c.gather.ensures
