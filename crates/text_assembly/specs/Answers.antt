-- The answers to words and lines of text, and their numbers.
use Rattle.numbers.specs.Kit.{Result, Ok, Err, ℕ}
use Rattle.machine.specs.declared.Instruction.{Instruction}
use Rattle.machine.specs.declared.Instruction.TheVariants.{Illegal, SetTypeImmediate, SetType, SetTileImmediate, SetTile, Load, Store, Multiply, Combine, Scale, ScaleImmediate, FloatMultiply, MoveOut, MoveIn}
use Rattle.machine.specs.Answers.{number}
use Rattle.machine.specs.Refusals.{word_answer}
use Rattle.text_assembly.specs.declared.TextError.{TextError}
use Rattle.text_assembly.specs.declared.TextError.TheVariants.{NoLine, BadArguments, NoRoom, BadLine}

-- an answer's number, and the column that it names
pub record TextReply : Type 0 where
  pub number : ℕ
  pub column : ℕ

abbrev pub said : (number column : ℕ) → TextReply
said number column = record { number = number; column = column }

-- 02, Fourteen: "17 with the column, from 1, ..; words without a line get what stepping gives for the code, column 0". 14, of the C functions
-- alone: the line does not fit the lent room
abbrev pub error_reply : TextError → TextReply
error_reply (NoLine wrong) = said (number (Err (word_answer wrong))) 0
error_reply BadArguments = said 8 0
error_reply NoRoom = said 14 0
error_reply (BadLine column) = said 17 column

-- done, or what is wrong
abbrev pub Texted : Type 0
Texted = Result (Unit {0}) TextError

abbrev pub text_reply : Texted → TextReply
text_reply (Ok done) = said 0 0
text_reply (Err e) = error_reply e

-- the answer to a word, by its code
abbrev pub code_answer : Instruction → Texted
code_answer (Illegal wrong) = Err (NoLine wrong)
code_answer (SetTypeImmediate rd immediate) = Ok tt
code_answer (SetType rd rs1) = Ok tt
code_answer (SetTileImmediate dimension rd immediate) = Ok tt
code_answer (SetTile dimension rd rs1) = Ok tt
code_answer (Load form matrix width md rs1 rs2) = Ok tt
code_answer (Store form matrix width ms3 rs1 rs2) = Ok tt
code_answer (Multiply factor md ms1 ms2) = Ok tt
code_answer (Combine sum factor md ms1) = Ok tt
code_answer (Scale factor md ms1 rs2) = Ok tt
code_answer (ScaleImmediate factor md ms1 immediate) = Ok tt
code_answer (FloatMultiply md ms1 ms2) = Ok tt
code_answer (MoveOut form vd ms1 rs2) = Ok tt
code_answer (MoveIn form md vs1 rs2) = Ok tt

abbrev pub code_number : Instruction → ℕ
code_number i = (text_reply (code_answer i)).number
