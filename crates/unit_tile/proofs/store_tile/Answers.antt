use Rattle.numbers.proofs.Kit.{◌≡◌, refl, ◌+◌, ◌*◌, ◌≤◌, ◌<◌, zero, le-mul_of_pos_right, arith, length, length-take, length-drop}
use Rattle.std.proofs.Common.{rules}
use Rattle.numbers.specs.Tile.{put_tile}
use Rattle.numbers.proofs.PutLaws.{row_fits, put_tile-none}
use Rattle.machine.specs.Memory.{row_at}
use Rattle.machine.specs.Operation.{element}
use Rattle.unit_tile.proofs.CopyLaws.{row_more, row_reached, row_found}
use Rattle.unit_tile.proofs.store_tile.Goals as goal
use Rattle.unit_tile.proofs.store_tile.Goals.{After-as_signed, After-row_address-to}

pub returns-then-bytes-eq0 : goal.returns-then-bytes-eq0
returns-then-bytes-eq0 c =
    let a = c.args in
    put_tile-none (row_at a.t.base a.t.stride) a.t.rows a.t.columns a.t.width (element a.registers.now (λ i. a.t.start + i * a.t.pitch) a.t.width) a.memory.now c.if-bytes-eq0.true

pub loop-i-init : goal.loop-i-init
unfolding put_tile
loop-i-init c = refl

-- there are few rows, since each of them takes a byte or more of the registers
pub row_address-to-requires : goal.row_address-to-requires
row_address-to-requires c =
    let t = c.args.t in
    let some : zero < t.columns * t.width = omega (arith, c.if-bytes-eq0.false) in
    let few = le-mul_of_pos_right {m = t.pitch} t.rows (omega arith) in
    let r = row_reached (length c.args.memory.now) t.base t.stride t.rows (t.columns * t.width) c.loop-i.i c.as_signed.result c.requires.width_value some (omega arith) c.loop-i-test.true c.as_signed.type_inv c.as_signed.ensures
    (omega (arith, c.well_formed.0.1)) (omega (arith, c.well_formed.1.0.1)) in
    record {
      row_bound = r.0;
      row_bound_2 = r.1.0;
      stride_value = r.1.1;
    }

-- where the row starts in memory, and that it lies there; it lies in the registers
here : (c : After-row_address-to) →
    let t = c.args.t in
    (c.row_address-to.result ≡ row_at t.base t.stride c.loop-i.i) × (c.row_address-to.result + t.columns * t.width ≤ length c.args.memory.now)
    × (t.start + c.loop-i.i * t.pitch + t.columns * t.width ≤ length c.args.registers.now)
here c =
    let t = c.args.t in
    let some : zero < t.columns * t.width = omega (arith, c.if-bytes-eq0.false) in
    let f = row_found (length c.args.memory.now) t.base t.stride t.rows (t.columns * t.width) c.loop-i.i c.as_signed.result c.requires.width_value some (omega arith) c.loop-i-test.true c.as_signed.type_inv c.as_signed.ensures
    c.row_address-to.result c.row_address-to.ensures in
    (f.0, f.1, omega (arith, c.requires.pitch_in_bounds, c.requires.width_bound, row_fits c.loop-i.i t.rows t.pitch c.loop-i-test.true))

pub overflow_add-from : goal.overflow_add-from
overflow_add-from c = let h = here (goal.at.overflow_add-from c).After-row_address-to in omega arith

pub slice_bounds-write_row-count : goal.slice_bounds-write_row-count
slice_bounds-write_row-count c = let h = here (goal.at.slice_bounds-write_row-count c).After-row_address-to in omega arith

pub slice_bounds-write_row-start : goal.slice_bounds-write_row-start
slice_bounds-write_row-start c = let h = here (goal.at.slice_bounds-write_row-start c).After-row_address-to in search rules

pub slice_bounds-write_row-end-in-loop-i : goal.slice_bounds-write_row-end-in-loop-i
slice_bounds-write_row-end-in-loop-i c = let h = here (goal.at.slice_bounds-write_row-end-in-loop-i c).After-row_address-to in search rules

pub write_row-requires : goal.write_row-requires
write_row-requires c = let h = here (goal.at.write_row-requires c).After-row_address-to in simp (length-take, length-drop) (omega arith)

pub loop-i-preserved : goal.loop-i-preserved
loop-i-preserved c =
    let h = here (goal.at.loop-i-preserved c).After-row_address-to in
    row_more _ _ _ _ _ _ _ _ _ _ _ _ _ (λ q. omega (arith, c.type_inv.registers q)) c.loop-i.invariant h.0 refl h.2 (omega arith) refl (omega arith) c.write_row.ensures
