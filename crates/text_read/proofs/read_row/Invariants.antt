use mathlib.Core.Path.{◌≡◌}
use Prim.Native.Nat.{◌+◌, ◌*◌, ◌≤◌}
use lib.ListN.{length, drop}
use Rattle.text_read.specs.Parts.{row_from}
use Rattle.text_read.proofs.read_row.Given as goal

abbrev pub invariant-loop-c : goal.invariant-loop-c
invariant-loop-c l =
    (l.so_far.at ≤ length l.line) × (l.so_far.scale ≤ 0x10_0000) × (l.so_far.word ≤ 0x1_0000_0000 + l.c-index * 0x2_0000_0000)
    × (row_from l.text l.line 0 128 l.bits ≡ row_from (drop l.c-index l.text) (drop l.so_far.at l.line) l.so_far.at l.so_far.scale l.so_far.word)
