-- The answers and their numbers; and checks, of which the first that fails gives the answer.
use Rattle.std.specs.Prelude.{◌∷◌}
use Rattle.numbers.specs.Kit.{Result, Ok, Err, Bool, cond, List, [], ℕ, eqb}
use Rattle.machine.specs.declared.Refusal.{Refusal}
use Rattle.machine.specs.declared.Reply.{Reply}
use Rattle.machine.specs.declared.Refusal.TheVariants.{IllegalWord, IllegalType, BadWidth, TileTooLarge, Unwritten, OutsideMemory, SealedByte, BadArguments, Overlap, WrongOpcode, LeftOutWord, WrongRegister, RowsOverlap, TooManySeals}

-- what a start, a step or a run answers: that it is done, or what it is refused for
abbrev pub Answer : Type 0
Answer = Result (Unit {0}) Refusal

pattern abbrev pub Done : Answer
Done = Ok tt

-- a number that names no row and no column
abbrev pub bare : ℕ → Reply
bare n = record { number = n; row = 0; column = 0 }

-- 01, the table of "Numbers of the answers"; 10 to 12: 02, One; 13: 02, Seven; 16: 02, Twelve. "Answer 5 names the row and column of the first such element .. Elsewhere both are 0."
abbrev pub reply : Answer → Reply
reply (Ok _) = bare 0
reply (Err IllegalWord) = bare 1
reply (Err IllegalType) = bare 2
reply (Err BadWidth) = bare 3
reply (Err TileTooLarge) = bare 4
reply (Err (Unwritten row column)) = record { number = 5; row = row; column = column }
reply (Err OutsideMemory) = bare 6
reply (Err SealedByte) = bare 7
reply (Err BadArguments) = bare 8
reply (Err Overlap) = bare 9
reply (Err WrongOpcode) = bare 10
reply (Err LeftOutWord) = bare 11
reply (Err WrongRegister) = bare 12
reply (Err RowsOverlap) = bare 13
reply (Err TooManySeals) = bare 16

abbrev pub number : Answer → ℕ
number a = (reply a).number

-- 0: "done"
abbrev pub done : Reply → Bool
done r = eqb r.number 0

abbrev pub is_done : Answer → Bool
is_done a = done (reply a)

-- a test and what is refused where it fails
pub record Check : Type 0 where
  pub holds : Bool
  pub answer : Refusal

infix 2 ◌otherwise◌
abbrev pub ◌otherwise◌ : Bool → Refusal → Check
b otherwise a = record { holds = b; answer = a }

-- the answer of the first check that fails, or Done
abbrev pub verdict : List Check → Answer
verdict [] = Done
verdict (c ∷ cs) = cond c.holds (verdict cs) (Err c.answer)
