use Rattle.numbers.proofs.Kit.{ap, ◌∙◌, List, ℕ, ◌+◌, ◌-◌}
use Rattle.machine.specs.Geometry.{range}
use Rattle.image.specs.Images.{Seals}
use Rattle.image_header.specs.Fields.{ranges_found}
use Rattle.numbers.specs.Upto.{upto}
use Rattle.unit_ranges.specs.Ranges.{put_range}
use Rattle.image_read.specs.Parts.{put_ranges}
use Rattle.image_read.proofs.SealLaws.{found-many, seals-put}
use Rattle.image_read.proofs.seals.put_seals.Goals as goal

pub returns : goal.returns
returns c =
    let a = c.args in
    let rs : Seals = ranges_found a.s.now a.count a.first in
    c.clear_slots.ensures
    ∙ ap (λ (b : List ℕ). upto (8 - a.count) (λ i. put_range (a.count + i) (range 0 0)) b) (c.put_ranges.ensures ∙ ap (put_ranges 0 rs) c.write.ensures)
    ∙ seals-put rs a.count c.requires.stand.few (found-many a.s.now a.count a.first c.requires.stand.ends) a.block.now
