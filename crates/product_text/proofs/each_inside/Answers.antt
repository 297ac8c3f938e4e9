use Rattle.std.proofs.Common.{rules}
use Rattle.numbers.proofs.Kit.{◌∙◌}
use borrow.Author.Tests.{tests}
use Rattle.std.proofs.lemmas.Iterator.{YieldsList-from_slice}
use Rattle.std.proofs.lemmas.Iterator.Search.{all_from_yields_List}
use Rattle.product_text.specs.Parts.{inside}
use Rattle.product_text.proofs.ProblemLaws.{all-of}
use Rattle.product_text.proofs.each_inside.Goals as goal

pub returns : goal.returns
returns c =
    let a = c.args in
    all_from_yields_List (inside a.h) _ _ c.all.result c.all.ensures.ran (YieldsList-from_slice a.xs.now cc) (λ x b q k. search (rules, tests)) ∙ all-of (inside a.h) a.xs.now
