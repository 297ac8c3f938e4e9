-- The answers of a start and of adding a range, and what they leave: 01, "What a machine is" and "Numbers of the answers"; 02, Eight, Ten and
-- Twelve. The proofs stand in proofs/.
use Rattle.std.specs.Prelude.{◌≡◌, ◌∷◌, ◌++◌, ◌*◌, ◌<◌}
use Rattle.numbers.specs.Kit.{List, [], ℕ, length, replicate}
use Rattle.machine.specs.Answers.{bare}
use Rattle.machine.specs.Geometry.{Range, range, Bench, bench_of}
use Rattle.machine.specs.Starting.{ranges, no_machine, fresh_machine, StartOutcome, start_machine}
use Rattle.machine.specs.Sealing.{SealOutcome, add_seal}
use Rattle.theorem_refusals.specs.Faults.{Permitted, OfTheirSize, KnownRule, RangeEnds, EachEnds, NotAtFault, Exactly}

-- ---- a start

-- "Starting a machine gives 8 for the same RLEN, MLEN and buffer faults, and for a seal whose end exceeds 2^64 - 1"; 02, Eight: "an unknown
-- rule"; Ten: "an ELEN other than 32 or 64, or not below RLEN": none of these; and no number too many, which is no range
pub record Startable (rlen mlen elen rule : ℕ) (seals registers marks : List ℕ) : Type 0 where
  pub lengths : Permitted rlen mlen elen
  pub buffers : OfTheirSize mlen registers marks
  pub known-rule : KnownRule rule
  pub in_pairs : (n : ℕ) × (length seals ≡ n * 2)
  pub each-ends : EachEnds (ranges seals)

-- 02, Twelve: "a ninth range"
abbrev pub HasNinth : (seals : List ℕ) → Type 0
HasNinth seals = 8 < length (ranges seals)

-- "a ninth range gets 16, at the start too; a range whose end exceeds 2^64 - 1 gets 8, which comes first". "Starting sets every mark to 0, all
-- tile sizes and mtype to 0, and leaves the register bytes as they were lent."; the machine holds the ranges, in order of entry. A refused start
-- returns the numbers of no machine, which are all 0
pub record StartsExactly (rlen mlen elen rule : ℕ) (seals registers marks : List ℕ) (o : StartOutcome) : Type 0 where
  pub given : Exactly o.answer.number 16 (Startable rlen mlen elen rule seals registers marks) (HasNinth seals)
  pub started : o.answer.number ≡ 0 → o ≡ record {
    answer = bare 0;
    machine = fresh_machine rlen mlen elen rule;
    seals = ranges seals;
    registers = registers;
    marks = replicate (length marks) 0;
  }
  pub refused : ¬ (o.answer.number ≡ 0)
      → o ≡ record { answer = bare o.answer.number; machine = no_machine; seals = []; registers = registers; marks = marks }

-- for every number, list of ranges and buffer
abbrev pub StartAnswersExactly : Type 0
StartAnswersExactly = (rlen mlen elen rule : ℕ) (seals registers marks : List ℕ)
    → StartsExactly rlen mlen elen rule seals registers marks (start_machine rlen mlen elen rule seals registers marks)

-- ---- adding a range

-- "a state that holds more than eight gets 8", as every state at fault does; "a range whose end exceeds 2^64 - 1 gets 8": neither
pub record Addable (r : Range) (B : Bench) : Type 0 where
  pub not-at-fault : NotAtFault B
  pub ends : RangeEnds r

-- "a ninth range gets 16"; the range enters behind the others, and nothing else changes; "A refusal changes nothing lent or held."
pub record AddsExactly (r : Range) (B : Bench) (o : SealOutcome) : Type 0 where
  pub given : Exactly o.answer.number 16 (Addable r B) (length B.seals ≡ 8)
  pub added : o.answer.number ≡ 0
      → o ≡ record { answer = bare 0; bench = bench_of B.machine (B.seals ++ (r ∷ [])) B.registers B.marks B.memory }
  pub refused : ¬ (o.answer.number ≡ 0) → o ≡ record { answer = bare o.answer.number; bench = B }

abbrev pub AddAnswersExactly : Type 0
AddAnswersExactly = (start size : ℕ) (B : Bench) → AddsExactly (range start size) B (add_seal start size B)
