use mathlib.Core.Path.{◌≡◌, ap, ◌∙◌}
use mathlib.Core.List.{List}
use Prim.Native.Nat.{ℕ}
use native.Mathlib.Omega.{arith}
use lib.ListN.{length}
use Rattle.text_lines.proofs.WriteLaws.{wrote_as}
use Rattle.text_assembly.specs.Lines.{line}
use Rattle.text_write.specs.Parts.{text_from, line_text}
use Rattle.text_write.proofs.TextLaws.{row-text}
use Rattle.text_write.proofs.put_line.Goals as goal
use Rattle.text_write.proofs.put_line.Goals.{After-row_at-row}

text : (c : After-row_at-row) → text_from c.row_at-row.result.text.now 128 c.args.word ≡ line_text (line c.args.word)
text c = ap (λ (t : List ℕ). text_from t 128 c.args.word) c.row_at-row.ensures.text ∙ row-text c.row_of.result c.args.word ∙ c.row_of.ensures.1

pub put_row-requires : goal.put_row-requires
put_row-requires c = omega (arith, c.requires.word_in_bounds, ap length (text (goal.at.put_row-requires c).After-row_at-row))

pub returns : goal.returns
returns c = wrote_as (text (goal.at.returns c).After-row_at-row) c.put_row.ensures
