use mathlib.Core.Path.{ap₂, ap, ◌∙◌}
use mathlib.Core.List.{List}
use Prim.Native.Nat.{ℕ}
use native.Mathlib.Omega.{arith}
use lib.ListN.{length}
use Rattle.text_read.specs.Table.{row_at}
use Rattle.text_read.specs.Parts.{as_line, row_from}
use Rattle.text_read.proofs.RowLaws.{row-apt, row_reads}
use Rattle.text_read.proofs.read_at.Goals as goal

pub read_row-requires : goal.read_row-requires
read_row-requires c =
    let r = row-apt c.args.k c.requires in
    (omega (arith, r.short, ap length c.row_at-row.ensures.text), omega (arith, r.small, c.row_at-row.ensures.bits, c.from.ensures))

pub returns : goal.returns
returns c =
    let line = c.args.line.now in
    c.read_row.ensures
    ∙ ap as_line (ap₂ (λ (text : List ℕ) (bits : ℕ). row_from text line 0 128 bits) c.row_at-row.ensures.text (c.from.ensures ∙ c.row_at-row.ensures.bits) ∙ row_reads (row_at c.args.k) line)
