use Rattle.numbers.proofs.Kit.{◌≡◌, ◌-◌, ◌^◌, ◌<◌, drop}
use Rattle.numbers_format.specs.Parser.{later}
use Rattle.text_assembly.specs.Words.{hex_from, read_word}
use Rattle.text_listings.proofs.read_word.Given as goal

abbrev pub invariant-loop-i : goal.invariant-loop-i
invariant-loop-i l = (l.word < 16 ^ l.i) × (read_word l.line ≡ later l.i (hex_from (8 - l.i) l.word (drop l.i l.line)))
