-- Digits as code reads them, and the room that a reply takes.
use Rattle.std.specs.Prelude.{◌*◌, Some, None}
use Rattle.std.specs.Prelude as Prelude
use Rattle.numbers.specs.Kit.{cond, List, ℕ, max, length}
use Rattle.text_assembly.specs.Words.{is_hex, hex_value}

-- the value of a digit
abbrev pub digit_at : ℕ → Prelude.Option ℕ
digit_at b = cond (is_hex b) (Some (hex_value b)) None

-- a reply and its line feed take no more than this: the shortest lines, of no byte and of one, are answered by twelve bytes
abbrev pub room : List ℕ → ℕ
room s = 12 * max 1 (length s)
