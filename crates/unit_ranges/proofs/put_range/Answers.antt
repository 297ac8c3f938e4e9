use Rattle.unit_ranges.specs.Ranges.{put_range}
use Rattle.unit_ranges.proofs.put_range.Goals as goal

pub returns : goal.returns
unfolding put_range
returns c =
    rw (c.write-2.ensures, c.write.ensures, c.slot_at-at.ensures.0)
