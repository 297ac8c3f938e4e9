use Rattle.std.proofs.Common.{rules, tests}
use Rattle.std.proofs.lemmas.Iterator.{YieldsList-from_slice, YieldsList-from_take}
use Rattle.std.proofs.lemmas.Iterator.Search.{any_from_yields_List}
use mathlib.Core.Path.{◌∙◌}
use lib.Dec.{eqb}
use Rattle.text_read.proofs.ReadLaws.{space-is}
use Rattle.text_read.proofs.has_space.Goals as goal

pub returns : goal.returns
returns c =
    let line = c.args.line.now in
    any_from_yields_List (λ b. eqb b 32) _ _ _ c.any.ensures.ran (YieldsList-from_take c.args.n (YieldsList-from_slice line cc) cc) (λ x b q k. search (rules, tests)) ∙ space-is c.args.n line
