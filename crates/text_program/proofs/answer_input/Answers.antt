use Rattle.std.proofs.Common.{arith}
use lib.Seq.{length-take-le}
use mathlib.Core.Path.{sym}
use Rattle.text_program.proofs.answer_input.Goals as goal

pub slice_bounds-out-end : goal.slice_bounds-out-end
slice_bounds-out-end g c = let h = c.requires.in_room _ _ _ _ c.answer-written.ensures in omega (arith, c.answer-written.array_long)

pub slice_bounds-write_all-end : goal.slice_bounds-write_all-end
slice_bounds-write_all-end g c =
    let h = c.requires.in_room _ _ _ _ c.answer-written.ensures in
    sym (length-take-le c.answer-written.result c.answer-written.new.arg3 (omega (arith, c.answer-written.array_long)))
