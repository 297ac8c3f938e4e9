use Rattle.numbers.proofs.Kit.{◌≡◌, ap, ap₂, ◌∙◌, true, false, ℕ, ◌+◌, arith, add-one}
use Rattle.numbers.specs.Tile.{get_le}
use Rattle.machine.specs.Tests.{within}
use Rattle.machine.specs.Geometry.{Range}
use Rattle.machine.specs.Memory.{rows_miss}
use Rattle.unit_address.proofs.TestLaws.{test-failed, test-passed}
use Rattle.unit_ranges.specs.Ranges.{range_at, first_ranges}
use Rattle.unit_ranges.proofs.RangeLaws.{Held, held, none-met, missed-too, met, in_block}
use Rattle.numbers.proofs.Kit.{not}
use Rattle.unit_ranges.proofs.each_missed.Goals as goal
use Rattle.unit_ranges.proofs.each_missed.Goals.{After-range_missed, Start}

pub loop-i-init : goal.loop-i-init
loop-i-init c = let a = c.args in none-met a.base a.stride a.rows a.bytes

-- the block's length
long : (s : Start) → Held s.args.block.now
long s = held s.args.block.now s.requires.block_value

pub read-start-requires : goal.read-start-requires
read-start-requires c = let h = long (goal.at.read-start-requires c).Start in omega (arith, h.long, c.slot_at-at.ensures.1)

pub read-size-requires : goal.read-size-requires
read-size-requires c = let h = long (goal.at.read-size-requires c).Start in omega (arith, h.long, c.slot_at-at.ensures.1)

-- the range that is read
told : (c : After-range_missed) → let r : Range = range_at c.args.block.now c.loop-i.i in
    c.range_missed.result ≡ rows_miss (within r.start r.size) c.args.base c.args.stride c.args.rows c.args.bytes
told c =
    let e = c.slot_at-at.ensures.0 in
    c.range_missed.ensures
    ∙ ap₂ (λ (x y : ℕ). rows_miss (within x y) c.args.base c.args.stride c.args.rows c.args.bytes)
    (c.read-start.ensures ∙ ap (λ (p : ℕ). get_le c.args.block.now p 8) e)
    (c.read-size.ensures ∙ ap (λ (p : ℕ). get_le c.args.block.now (p + 8) 8) e)

pub returns-then-not-range_missed : goal.returns-then-not-range_missed
returns-then-not-range_missed c =
    let k = c.count_of-i-end in
    let a = c.args in
    in_block a.base a.stride a.rows a.bytes a.block.now c.requires.block_value k.result k.ensures.0 false
    (met a.base a.stride a.rows a.bytes a.block.now k.result c.loop-i.i c.loop-i-test.true (test-failed c.range_missed.result _ (told (goal.at.returns-then-not-range_missed c).After-range_missed) (ap not c.if-not-range_missed.true)))

pub loop-i-preserved : goal.loop-i-preserved
loop-i-preserved c =
    let l = c.loop-i in
    let a = c.args in
    rw add-one (missed-too a.base a.stride a.rows a.bytes (first_ranges l.i a.block.now) (range_at a.block.now l.i) l.invariant
    (test-passed c.range_missed.result _ (told (goal.at.loop-i-preserved c).After-range_missed) (ap not c.if-not-range_missed.false)))

pub returns : goal.returns
returns c =
    let l = c.loop-i in
    let k = c.count_of-i-end in
    let e : l.i ≡ k.result = omega arith in
    let a = c.args in
    in_block a.base a.stride a.rows a.bytes a.block.now c.requires.block_value l.i (e ∙ k.ensures.0) true l.invariant
