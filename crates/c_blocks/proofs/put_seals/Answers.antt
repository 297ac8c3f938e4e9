use Rattle.numbers.proofs.Kit.{refl, ap, ◌∙◌, ℕ, ◌+◌, ◌-◌, ◌/◌, length, get_or}
use Rattle.numbers.specs.Upto.{upto}
use Rattle.machine.specs.Geometry.{range}
use Rattle.machine.specs.Starting.{ranges}
use Rattle.unit_ranges.specs.Ranges.{put_range}
use Rattle.c_blocks.proofs.BlockLaws.{put-seals-is}
use Rattle.c_blocks.proofs.put_seals.Goals as goal

pub returns : goal.returns
returns c =
    let a = c.args in
    let n : ℕ = length a.seals.now / 2 in
    c.clear_slots.ensures
    ∙ ap (upto (8 - n) (λ i. put_range (n + i) (range 0 0))) (c.put_ranges.ensures ∙ ap (upto n (λ i. put_range i (get_or (ranges a.seals.now) i (range 0 0)))) c.write.ensures)
    ∙ put-seals-is a.seals.now a.block.now n refl c.requires.seals_len_bound
