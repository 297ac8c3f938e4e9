use Rattle.numbers.proofs.Kit.{◌-◌}
use Rattle.text_lines.proofs.WriteLaws.{Ahead}
use Rattle.text_assembly.specs.Words.{hex_digits}
use Rattle.text_listings.proofs.put_word.Given as goal

abbrev pub invariant-loop-n : goal.invariant-loop-n
invariant-loop-n l = Ahead l.initial.out l.at l.out l.next (hex_digits (8 - l.n) l.word) (hex_digits 8 l.word)
