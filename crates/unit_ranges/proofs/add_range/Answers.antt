use Rattle.numbers.proofs.Kit.{ap, ◌∙◌, ℕ, ◌+◌, arith}
use Rattle.numbers.specs.Tile.{put_le}
use Rattle.machine.specs.Geometry.{range}
use Rattle.unit_ranges.specs.Ranges.{put_range}
use Rattle.unit_ranges.proofs.RangeLaws.{held}
use Rattle.unit_ranges.proofs.PutLaws.{count-is, added}
use Rattle.unit_ranges.proofs.add_range.Goals as goal

pub write-requires : goal.write-requires
write-requires c =
    omega (arith, (held c.args.block.now c.requires.block_value).long)

pub put_range-requires : goal.put_range-requires
put_range-requires c =
    record {
      block_len = c.write.auto.s ∙ (held c.args.block.now c.requires.block_value).long;
      i_bound = omega (arith, c.requires.block_len_bound, count-is c.args.block.now c.requires.block_value, c.count_of-count.ensures.0);
    }

pub returns : goal.returns
returns c =
    let a = c.args in
    added a.block.now c.write.new.s c.put_range.new.block (range a.start a.size) (λ q. omega (arith, c.slice_known-2-1.given q)) (λ q. omega (arith, c.type_inv.block q)) c.requires.block_value c.requires.block_len_bound
    (c.write.ensures ∙ ap (λ (n : ℕ). put_le 80 8 (n + 1) a.block.now) c.count_of-count.ensures.0)
    (c.put_range.ensures ∙ ap (λ (n : ℕ). put_range n (range a.start a.size) c.write.new.s) c.count_of-count.ensures.0)
