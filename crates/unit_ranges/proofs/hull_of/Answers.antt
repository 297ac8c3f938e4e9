use Rattle.numbers.proofs.Kit.{◌≡◌, ap, ◌∙◌, ℕ, ◌+◌, ◌-◌, ◌^◌, ◌<◌, arith, leb-true}
use Rattle.numbers.specs.Tile.{get_le}
use Rattle.machine.specs.Geometry.{Range}
use Rattle.unit_ranges.specs.Ranges.{range_at}
use Rattle.unit_ranges.proofs.RangeLaws.{Held, held, each-ends, around-next}
use Rattle.unit_ranges.proofs.hull_of.Goals as goal
use Rattle.unit_ranges.proofs.hull_of.Goals.{After-read, Start}

-- the block's length
long : (s : Start) → Held s.args.block.now
long s = held s.args.block.now s.requires.block_value

pub slot_at-at-requires : goal.slot_at-at-requires
slot_at-at-requires c = omega (arith, c.loop-i-test.true, c.requires.count_value, (long (goal.at.slot_at-at-requires c).Start).few)

pub read-start-requires : goal.read-start-requires
read-start-requires c = omega (arith, (long (goal.at.read-start-requires c).Start).long, c.slot_at-at.ensures.1)

pub read-requires : goal.read-requires
read-requires c = omega (arith, (long (goal.at.read-requires c).Start).long, c.slot_at-at.ensures.1)

-- the range that is read
told : (c : After-read) → let r : Range = range_at c.args.block.now c.loop-i.i in
    (c.read-start.result ≡ r.start) × (c.read.result ≡ r.size) × (c.read-start.result + c.read.result < 2 ^ 64)
told c =
    let b = c.args.block.now in
    let i = c.loop-i.i in
    let e = c.slot_at-at.ensures.0 in
    let x = c.read-start.ensures ∙ ap (λ (p : ℕ). get_le b p 8) e in
    let y = c.read.ensures ∙ ap (λ (p : ℕ). get_le b (p + 8) 8) e in
    let z = leb-true ((range_at b i).start + (range_at b i).size) (2 ^ 64 - 1) (each-ends b c.requires.block_value i (omega (arith, c.loop-i-test.true, c.requires.count_value))) in
    (x, y, omega (arith, x, y, z))

pub overflow_add-end : goal.overflow_add-end
overflow_add-end c = let e = told c in omega (arith, e.2)

pub loop-i-preserved : goal.loop-i-preserved
loop-i-preserved c =
    let l = c.loop-i in
    let e = told (goal.at.loop-i-preserved c).After-read in
    let m = c.min-low.ensures in
    let h = c.max-high.ensures in
    around-next c.args.block.now l.i l.low l.high c.min-low.result c.max-high.result l.invariant
    (omega (arith, m)) (omega (arith, h)) (omega (arith, m, e.0)) (omega (arith, h, e.0, e.1))
