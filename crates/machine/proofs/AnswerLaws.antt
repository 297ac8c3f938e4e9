-- The numbers of the answers.
use Rattle.numbers.proofs.Kit.{◌^◌, ◌<◌, arith, Err}
use Rattle.machine.specs.declared.Refusal.TheVariants.{IllegalWord, IllegalType, BadWidth, TileTooLarge, Unwritten, OutsideMemory, SealedByte, BadArguments, Overlap, WrongOpcode, LeftOutWord, WrongRegister, RowsOverlap, TooManySeals}
use Rattle.machine.specs.Answers.{number, Answer, Done}

pub number_small : (a : Answer) → number a < 2 ^ 16
number_small Done = omega arith
number_small (Err IllegalWord) = omega arith
number_small (Err IllegalType) = omega arith
number_small (Err BadWidth) = omega arith
number_small (Err TileTooLarge) = omega arith
number_small (Err (Unwritten row column)) = omega arith
number_small (Err OutsideMemory) = omega arith
number_small (Err SealedByte) = omega arith
number_small (Err BadArguments) = omega arith
number_small (Err Overlap) = omega arith
number_small (Err WrongOpcode) = omega arith
number_small (Err LeftOutWord) = omega arith
number_small (Err WrongRegister) = omega arith
number_small (Err RowsOverlap) = omega arith
number_small (Err TooManySeals) = omega arith
