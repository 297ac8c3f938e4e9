-- 02, Twelve: "a range may be added between steps but never taken off".
use Rattle.std.specs.Prelude.{◌∷◌, ◌++◌}
use Rattle.numbers.specs.Kit.{cond, List, [], ℕ, ltb, length}
use Rattle.machine.specs.declared.Refusal.TheVariants.{BadArguments, TooManySeals}
use Rattle.machine.specs.declared.Reply.{Reply}
use Rattle.machine.specs.Answers.{reply, is_done, Check, ◌otherwise◌, verdict, Answer}
use Rattle.machine.specs.Geometry.{range, Bench, bench_of}
use Rattle.machine.specs.Starting.{seal_ends, most_seals}
use Rattle.machine.specs.Faults.{sound_bench}

-- what adding a range answers and leaves
pub record SealOutcome : Type 0 where
  pub answer : Reply
  pub bench : Bench

-- "a ninth range gets 16 ..; a range whose end exceeds 2^64 - 1 gets 8, which comes first; a state that holds more than eight gets 8"
abbrev pub seal_checks : (start size : ℕ) → Bench → List Check
seal_checks start size B =
    (sound_bench B otherwise BadArguments)
    ∷ (seal_ends start size otherwise BadArguments)
    ∷ (ltb (length B.seals) most_seals otherwise TooManySeals) ∷ []

-- the range enters behind the others
abbrev pub with_seal : (start size : ℕ) → Bench → Bench
with_seal start size B = bench_of B.machine (B.seals ++ (range start size ∷ [])) B.registers B.marks B.memory

-- "A refusal changes nothing lent or held."
unfoldable pub add_seal : (start size : ℕ) → Bench → SealOutcome
add_seal start size B =
    let a : Answer = verdict (seal_checks start size B) in
    record { answer = reply a; bench = cond (is_done a) (with_seal start size B) B }
