use mathlib.Core.Path.{◌≡◌, ap₂, ◌∙◌}
use mathlib.Core.List.{[]}
use Prim.Native.Nat.{ℕ, ◌/◌, ◌%◌}
use native.Mathlib.Omega.{arith}
use lib.ListN.{get_or}
use Rattle.machine.specs.Listing.{bits}
use Rattle.unit_table.specs.Table.{numbers}
use Rattle.text_answers.proofs.number_of.Goals as goal

pub returns : goal.returns
returns c =
    let w = c.args.word in
    let high : w / 0x1000_0000 ≡ bits 31 28 w = omega arith in
    let middle : w / 0x200_0000 % 8 ≡ bits 27 25 w = omega arith in
    c.entry.ensures ∙ ap₂ (λ (h m : ℕ). get_or (get_or (get_or numbers h []) m []) (bits 14 12 w) 0) high middle
