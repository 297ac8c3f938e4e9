use Rattle.numbers.proofs.Kit.{◌≡◌, sym, ◌∙◌, arith, length}
use Rattle.unit_ranges.specs.Ranges.{seals_in}
use Rattle.image.specs.Images.{header_of}
use Rattle.image_write.proofs.PutLaws.{version-four, version-three, version-two, version-one}
use Rattle.image_write.proofs.SealLaws.{seals-many}
use Rattle.image_write.proofs.version_of.Goals as goal
use Rattle.image_write.proofs.version_of.Goals.{After-count_of}

-- as many ranges as were counted
many : (c : After-count_of) → length (seals_in c.args.block.now) ≡ c.count_of.result
many c = seals-many c.args.block.now c.requires ∙ sym c.count_of.ensures.0

pub returns-then-count_of-ne1 : goal.returns-then-count_of-ne1
returns-then-count_of-ne1 c =
    let a = c.args in
    (omega arith, version-four (header_of a.m (seals_in a.block.now)) c.exponent.result c.exponent.ensures.0 (λ e. c.if-count_of-ne1.true (sym (many (goal.at.returns-then-count_of-ne1 c).After-count_of) ∙ e)))

pub returns-then-is_beyond : goal.returns-then-is_beyond
returns-then-is_beyond c =
    let a = c.args in
    (omega arith, version-three (header_of a.m (seals_in a.block.now)) (many (goal.at.returns-then-is_beyond c).After-count_of ∙ c.if-count_of-ne1.false) c.exponent-then-is_beyond.result c.exponent-then-is_beyond.ensures.0 (sym c.is_beyond.ensures ∙ c.if-is_beyond.true))

pub returns-then-m-eq1 : goal.returns-then-m-eq1
returns-then-m-eq1 c =
    let a = c.args in
    (omega arith, version-two (header_of a.m (seals_in a.block.now)) (many (goal.at.returns-then-m-eq1 c).After-count_of ∙ c.if-count_of-ne1.false) (sym c.is_beyond.ensures ∙ c.if-is_beyond.false) c.if-m-eq1.true)

pub returns : goal.returns
returns c =
    let a = c.args in
    (omega arith, version-one (header_of a.m (seals_in a.block.now)) (many (goal.at.returns c).After-count_of ∙ c.if-count_of-ne1.false) (sym c.is_beyond.ensures ∙ c.if-is_beyond.false) c.if-m-eq1.false)
