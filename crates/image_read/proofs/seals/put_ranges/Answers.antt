-- `image_read::seals::put_ranges` meets its contract. The invariant: the ranges that are left make of the block what all make.
use Rattle.numbers.proofs.Kit.{◌≡◌, refl, ap, ◌∙◌, List, ℕ, ◌+◌, ◌-◌, arith}
use Rattle.image_header.specs.Fields.{range_at, ranges_found}
use Rattle.image_header.proofs.HeadLaws.{range-good, range-bad}
use Rattle.image_read.specs.Parts.{put_ranges}
use Rattle.image_read.proofs.SealLaws.{stands-not, stands-next, put_next, put-none}
use Rattle.image_read.proofs.seals.put_ranges.Goals as goal

pub loop-i-init : goal.loop-i-init
loop-i-init c =
    let all : c.args.count - 0 ≡ c.args.count = omega arith in
    (refl, omega arith, rw all c.requires.stand.ends, rw all)

pub returns-in_default : goal.returns-in_default
returns-in_default c =
    let l = c.loop-i in
    let a = c.args in
    absurd (stands-not a.s.now a.count l.i l.at _ c.loop-i-test.true (range-bad (range_at a.s.now l.at) c.in_default.ensures) l.invariant.2)

pub put_range-requires : goal.put_range-requires
put_range-requires c =
    record {
      block_len = c.loop-i.invariant.0 ∙ c.requires.block_len;
      i_bound = omega (arith, c.loop-i-test.true, c.requires.stand.few);
    }

pub loop-i-preserved : goal.loop-i-preserved
loop-i-preserved c =
    let r = c.in-Ok.range in
    let l = c.loop-i in
    let a = c.args in
    let e = range-good (range_at a.s.now l.at) c.in-Ok.ensures in (
      c.put_range.auto.block ∙ l.invariant.0,
      omega (arith, c.loop-i-test.true),
      stands-next a.s.now a.count l.i l.at r.start r.size r.at c.loop-i-test.true e l.invariant.2,
      ap (λ (b : List ℕ). put_ranges (l.i + 1) (ranges_found a.s.now (a.count - (l.i + 1)) r.at) b) c.put_range.ensures
          ∙ put_next a.s.now a.count l.i l.at r.start r.size r.at c.loop-i-test.true e l.block ∙ l.invariant.3,
    )

pub returns : goal.returns
returns c =
    let l = c.loop-i in
    let a = c.args in
    put-none a.s.now a.count l.i l.at (omega arith) l.block ∙ l.invariant.3
