-- The rows of the listing as code has them: the bits that a row fixes, and its text.
use Rattle.std.specs.Prelude.{◌≡◌, true, List, [], map, ℕ, ◌+◌, leb, take, get_or}
use Rattle.machine.specs.declared.Wrong.TheVariants.{Unlisted}
use Rattle.machine.specs.declared.Instruction.TheVariants.{Illegal}
use Rattle.machine.specs.Listing.{Row, listing}
use Rattle.text_assembly.specs.Bytes.{bytes}
use Rattle.text_assembly.specs.Lines.{fixed_sum}

abbrev pub base_of : Row → ℕ
base_of r = 0b1110111 + fixed_sum r.code.fixed

-- the rows as bits, how long a text is, and 25 bytes with the text at their front
abbrev pub IsTable : List (ℕ × ℕ × List ℕ) → Type 0
IsTable rows =
    (map (λ (r : ℕ × ℕ × List ℕ). r.0) rows ≡ map base_of listing)
    × (map (λ (r : ℕ × ℕ × List ℕ). take r.1 r.2) rows ≡ map (λ (r : Row). bytes r.text) listing)
    × (map (λ (r : ℕ × ℕ × List ℕ). leb r.1 25) rows ≡ map (λ (r : Row). true) listing)

-- row k; there are 79
abbrev pub no_row : Row
no_row = record { code = record { number = 0; fixed = [] }; text = ""; means = λ word. Illegal Unlisted }

unfoldable pub row_at : ℕ → Row
row_at k = get_or listing k no_row
