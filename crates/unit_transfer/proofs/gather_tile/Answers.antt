use Rattle.numbers.proofs.Kit.{◌≡◌, refl, ap, ◌∙◌, true, ℕ, zero, ◌+◌, ◌*◌, ◌≤◌, ◌<◌, zero-mul, arith, length, length-take, length-drop}
use Rattle.numbers.specs.Tile.{get_le, put_tile}
use Rattle.numbers.proofs.PutLaws.{row_fits, put_tile-none}
use Rattle.machine.specs.Memory.{row_at, inside}
use Rattle.machine.specs.Operation.{element}
use Rattle.unit_transfer.proofs.WalkLaws.{width_some, column-at, column-inside, column-ends, row-gathered}
use Rattle.unit_transfer.proofs.gather_tile.Goals as goal
use Rattle.unit_transfer.proofs.gather_tile.Goals.{In-loop-i}

pub returns-then-t-eq0 : goal.returns-then-t-eq0
returns-then-t-eq0 c =
    let a = c.args in
    put_tile-none (λ i. a.t.start + i * a.t.pitch) a.t.rows a.t.columns a.t.width (λ i j. element a.memory.now (row_at a.t.base a.t.stride) a.t.width j i) a.registers.now
    (ap (λ (n : ℕ). n * a.t.width) c.if-t-eq0.true ∙ zero-mul a.t.width)

pub loop-i-init : goal.loop-i-init
unfolding put_tile
loop-i-init c = refl

-- in a turn: the row lies in the registers; its column lies in memory
here : (c : In-loop-i) →
    let a = c.args in
    let i = c.loop-i.i in
    let from : ℕ = a.t.base + i * a.t.width in
    (a.t.start + i * a.t.pitch + a.t.pitch ≤ length a.registers.now) × (a.t.columns * a.t.width ≤ a.t.pitch) × (inside (length a.memory.now) from a.t.stride a.t.columns a.t.width ≡ true)
    × (from + a.t.width ≤ length a.memory.now) × ((j : ℕ) → j < a.t.columns → row_at from a.t.stride j ≡ row_at a.t.base a.t.stride j + i * a.t.width)
here c =
    let a = c.args in
    let i = c.loop-i.i in
    let len : ℕ = length a.memory.now in
    let v : zero < a.t.width = width_some a.t.width c.requires.width in
    let some : zero < a.t.columns = omega (arith, c.if-t-eq0.false) in
    let h = c.requires.width_value in (
      omega (arith, c.requires.pitch_in_bounds, row_fits i a.t.rows a.t.pitch c.loop-i-test.true),
      c.requires.width_bound,
      column-inside len a.t.base a.t.stride a.t.columns a.t.rows a.t.width h v some i c.loop-i-test.true,
      column-ends len a.t.base a.t.stride a.t.columns a.t.rows a.t.width h v some i c.loop-i-test.true,
      column-at len a.t.base a.t.stride a.t.columns a.t.rows a.t.width h v some i c.loop-i-test.true,
    )

pub overflow_mul-to : goal.overflow_mul-to
overflow_mul-to c = let h = here (goal.at.overflow_mul-to c).In-loop-i in omega arith

pub overflow_add-to : goal.overflow_add-to
overflow_add-to c = let h = here (goal.at.overflow_add-to c).In-loop-i in omega arith

pub overflow_add-from : goal.overflow_add-from
overflow_add-from c = let h = here (goal.at.overflow_add-from c).In-loop-i in omega arith

pub gather-requires : goal.gather-requires
gather-requires c =
    let h = here (goal.at.gather-requires c).In-loop-i in
    record {
      width = c.requires.width;
      w_in_bounds = simp (length-take, length-drop) (omega arith);
      w_value = h.2;
    }

pub loop-i-preserved : goal.loop-i-preserved
loop-i-preserved c =
    let a = c.args in
    let h = here (goal.at.loop-i-preserved c).In-loop-i in
    row-gathered (λ i. a.t.start + i * a.t.pitch) c.loop-i.i a.t.columns a.t.width (λ i j. element a.memory.now (row_at a.t.base a.t.stride) a.t.width j i) a.registers.now c.loop-i.registers c.gather.new.dst
    a.memory.now _ _ _ c.loop-i.invariant refl (omega arith) refl (λ j m. ap (λ (q : ℕ). get_le a.memory.now q a.t.width) (h.4 j m)) c.gather.ensures
