-- By cases of the width.
use Rattle.numbers.proofs.Kit.{◌∙◌, arith}
use Rattle.product_memory.proofs.MemoryLaws.{put_low}
use Rattle.product_memory.proofs.put_element.Goals as goal

pub returns-in-1 : goal.returns-in-1
returns-in-1 c = let a = c.args in c.write.ensures ∙ rw c.low.ensures (put_low a.at 1 a.width a.value a.memory.now c.in-1.is)

pub returns-in-2 : goal.returns-in-2
returns-in-2 c = let a = c.args in c.write-in-2.ensures ∙ rw c.low-in-2.ensures (put_low a.at 2 a.width a.value a.memory.now c.in-2.is)

pub returns-in_default : goal.returns-in_default
returns-in_default c = let a = c.args in c.write-in_default.ensures ∙ rw c.low-in_default.ensures (put_low a.at 4 a.width a.value a.memory.now (omega (arith, c.requires.short)))
