-- Computed examples of lines and of reading them.
use Rattle.std.specs.Prelude.{◌≡◌, ◌∷◌}
use Rattle.numbers.specs.Kit.{refl, true, false, List, [], Option, none, some, ℕ}
use Prim.Native.String.{String}
use Rattle.machine.specs.Listing.{listing, decode}
use Rattle.numbers_format.specs.Parser.{Parsed}
use Rattle.numbers_format.specs.Parser.Parsed.{whole, stopped}
use Rattle.text_lines.specs.Lines.{decimal}
use Rattle.text_assembly.specs.Bytes.{bytes}
use Rattle.text_assembly.specs.Lines.{line}
use Rattle.text_assembly.specs.Reading.{read_line}
use Rattle.text_assembly.specs.Words.{read_word}
use Rattle.text_assembly.specs.Programs.{reply_to, lines_of}

abbrev is : String → Option (List ℕ)
is s = some (bytes s)

-- the words of 01's bench sheet, a load, a store, a multiply, the smallest immediate; a word of another opcode, and a register field out of range
lines : line 0x000472f7 ∷ line 0x100572f7 ∷ line 0x2003f077 ∷ line 0x04b50077 ∷ line 0x02b52077 ∷ line 0x08106077 ∷ line 0x410060f7 ∷ line 0x00000000 ∷ line 0x04b50477 ∷ []
    ≡ is "msettypei x5, 8" ∷ is "msettype x5, x10" ∷ is "msettilemi x0, 7" ∷ is "mlae8.m tr0, (x10), x11" ∷ is "msce32.m acc0, (x10), x11" ∷ is "mqma.mm acc0, tr0, tr1" ∷ is "memulc.mi acc1, acc0, -16" ∷ none ∷ none ∷ []
unfolding line listing decimal
lines = refl

abbrev reading : String → Parsed ℕ
reading s = read_line (bytes s)

-- nothing; a mnemonic that is cut short, and the draft's slip mg; a number with a leading zero, and numbers out of range; no minus before 0;
-- no brackets; a space at the end
read : reading "msettypei x5, 8" ∷ reading "memulc.mi acc1, acc0, -16" ∷ reading "" ∷ reading "mqma" ∷ reading "mgma.mm acc0, tr0, tr1" ∷ reading "msettypei x05, 8"
    ∷ reading "msettypei x32, 8" ∷ reading "msettypei x5, 8192" ∷ reading "memulc.mi acc0, acc0, -0" ∷ reading "memulc.mi acc0, acc0, -17" ∷ reading "mlae8.m tr0, x1, x2" ∷ reading "mqma.mm acc0, tr0, tr7 " ∷ []
    ≡ whole 0x000472f7 ∷ whole 0x410060f7 ∷ stopped 0 ∷ stopped 4 ∷ stopped 1 ∷ stopped 12
    ∷ stopped 12 ∷ stopped 17 ∷ stopped 23 ∷ stopped 24 ∷ stopped 13 ∷ stopped 22 ∷ []
unfolding read_line listing
read = refl

-- eight digits; upper case; cut short; too long
words : read_word (bytes "000472f7") ∷ read_word (bytes "000472F7") ∷ read_word (bytes "000472f") ∷ read_word (bytes "000472f70") ∷ []
    ≡ whole 0x000472f7 ∷ stopped 6 ∷ stopped 7 ∷ stopped 8 ∷ []
unfolding read_word
words = refl

-- an empty line is a line; a line feed at the very end starts none; bytes after the last one are a line
split : lines_of (bytes "a\n\nb\n") ∷ lines_of (bytes "a\n\nb") ∷ lines_of [] ∷ []
    ≡ (bytes "a" ∷ [] ∷ bytes "b" ∷ []) ∷ (bytes "a" ∷ [] ∷ bytes "b" ∷ []) ∷ [] ∷ []
split = refl

-- a word without a line, and one with; a line that is cut short, and no line at all
replied : reply_to false (bytes "00000000") ∷ reply_to false (bytes "08106077") ∷ reply_to false (bytes "0810607") ∷ reply_to true (bytes "mqma") ∷ reply_to true [] ∷ []
    ≡ bytes "answer 10 0" ∷ bytes "mqma.mm acc0, tr0, tr1" ∷ bytes "answer 17 8" ∷ bytes "answer 17 5" ∷ bytes "answer 17 1" ∷ []
unfolding line listing decode decimal read_line read_word
replied = refl
