-- 02, Twelve: "a range may be added between steps but never taken off": of a machine whose ranges lie in its block.
use Rattle.numbers.specs.Kit.{cond, List, [], ℕ}
use Rattle.machine.specs.declared.Machine.{Machine}
use Rattle.machine.specs.declared.Reply.{Reply}
use Rattle.machine.specs.Answers.{reply, done, Answer}
use Rattle.machine.specs.Geometry.{bench_of}
use Rattle.machine.specs.Sealing.{SealOutcome, add_seal}
use Rattle.unit_ranges.specs.Ranges.{seals_in, put_seals}

-- what it answers, and the block after it
pub record BlockSealed : Type 0 where
  pub answer : Reply
  pub block : List ℕ

abbrev pub block_sealed : Answer → List ℕ → BlockSealed
block_sealed r block = record { answer = reply r; block = block }

-- the ranges that add_seal leaves are written over the block; memory is not looked at. A refusal changes nothing
unfoldable pub seal_block : (start size : ℕ) → Machine → (block registers marks : List ℕ) → BlockSealed
seal_block start size m block registers marks =
    let o : SealOutcome = add_seal start size (bench_of m (seals_in block) registers marks []) in
    record { answer = o.answer; block = cond (done o.answer) (put_seals o.bench.seals block) block }
