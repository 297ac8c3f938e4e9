-- `image_check::check_image` meets its contract.
use Rattle.numbers.proofs.Kit.{ap, ◌∙◌, length}
use Rattle.image_check.specs.declared.scan.Scanned.{Scanned}
use Rattle.image_check.specs.Parts.{verdict_in}
use Rattle.image_check.proofs.CheckLaws.{verdict-is}
use Rattle.image_check.proofs.check_image.Goals as goal

pub returns : goal.returns
returns c =
    let s = c.args.s.now in
    c.verdict_of.ensures ∙ ap (λ (x : Scanned). verdict_in x (length s)) c.scan.ensures ∙ verdict-is s
