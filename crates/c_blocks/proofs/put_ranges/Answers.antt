use Rattle.numbers.proofs.Kit.{refl, sym, ap, ap₂, ◌∙◌, ℕ, suc, ◌+◌, arith}
use Rattle.unit_ranges.specs.Ranges.{put_range}
use Rattle.c_blocks.proofs.BlockLaws.{ranges-at}
use Rattle.c_blocks.proofs.put_ranges.Goals as goal
use Rattle.c_blocks.proofs.put_ranges.Invariants.{put}

pub loop-i-init : goal.loop-i-init
loop-i-init c = (refl, refl)

pub put_range-requires : goal.put_range-requires
put_range-requires c =
    record {
      block_len = c.loop-i.invariant.0 ∙ c.requires.block_len;
      i_bound = omega (arith, c.requires.count_bound.0);
    }

pub loop-i-preserved : goal.loop-i-preserved
loop-i-preserved c =
    let l = c.loop-i in
    let a = c.args in (
      c.put_range.auto.block ∙ l.invariant.0,
      c.put_range.ensures
          ∙ ap₂ (put_range l.i) (sym (ranges-at a.seals.now l.i (omega (arith, c.requires.count_bound.1)))) l.invariant.1
          ∙ ap (λ (n : ℕ). put a.seals.now n a.block.now) {x = suc l.i} {y = l.i + 1} (omega arith),
    )

pub shape_of-block : goal.shape_of-block
shape_of-block c = c.loop-i.invariant.0

pub returns : goal.returns
returns c =
    let l = c.loop-i in
    let a = c.args in
    l.invariant.1 ∙ ap (λ (n : ℕ). put a.seals.now n a.block.now) {x = l.i} {y = a.count} (omega arith)
