-- A word has a line exactly if its code is answered with 0.
use mathlib.Core.Path.{◌≡◌, refl, sym, ap, ◌∙◌}
use Prim.Native.Nat.{ℕ}
use lib.Dec.{eqb}
use Rattle.machine.specs.declared.Wrong.TheVariants.{Opcode, LeftOut, Unlisted, Register}
use Rattle.machine.specs.declared.Instruction.{Instruction}
use Rattle.machine.specs.declared.Instruction.TheVariants.{Illegal, SetTypeImmediate, SetType, SetTileImmediate, SetTile, Load, Store, Multiply, Combine, Scale, ScaleImmediate, FloatMultiply, MoveOut, MoveIn}
use Rattle.machine.specs.Listing.{decode}
use native.Mathlib.Omega.{arith}
use Rattle.text_assembly.specs.declared.TextError.{TextError}
use Rattle.text_assembly.specs.declared.TextError.TheVariants.{NoLine, BadArguments, NoRoom, BadLine}
use Rattle.text_assembly.specs.Answers.{Texted, error_reply, text_reply, code_answer, code_number}
use Rattle.text_assembly.specs.Lines.{line}
use Rattle.text_assembly.specs.Theorems.{is_legal, has_line}
use Rattle.text_assembly.proofs.LegalLaws.{legal-have-lines}

legal-number : (i : Instruction) → is_legal i ≡ eqb (code_number i) 0
legal-number (Illegal Opcode) = refl
legal-number (Illegal LeftOut) = refl
legal-number (Illegal Unlisted) = refl
legal-number (Illegal Register) = refl
legal-number (SetTypeImmediate rd immediate) = refl
legal-number (SetType rd rs1) = refl
legal-number (SetTileImmediate dimension rd immediate) = refl
legal-number (SetTile dimension rd rs1) = refl
legal-number (Load form matrix width md rs1 rs2) = refl
legal-number (Store form matrix width ms3 rs1 rs2) = refl
legal-number (Multiply factor md ms1 ms2) = refl
legal-number (Combine sum factor md ms1) = refl
legal-number (Scale factor md ms1 rs2) = refl
legal-number (ScaleImmediate factor md ms1 immediate) = refl
legal-number (FloatMultiply md ms1 ms2) = refl
legal-number (MoveOut form vd ms1 rs2) = refl
legal-number (MoveIn form md vs1 rs2) = refl

pub told : (w : ℕ) (a : Texted) → a ≡ code_answer (decode w) → has_line (line w) ≡ eqb (text_reply a).number 0
told w a e = legal-have-lines w ∙ legal-number (decode w) ∙ ap (λ (x : Texted). eqb (text_reply x).number 0) (sym e)

-- an error's number is not 0
pub number-some : (e : TextError) → ¬ ((error_reply e).number ≡ 0)
number-some (NoLine Opcode) h = omega arith
number-some (NoLine LeftOut) h = omega arith
number-some (NoLine Unlisted) h = omega arith
number-some (NoLine Register) h = omega arith
number-some BadArguments h = omega arith
number-some NoRoom h = omega arith
number-some (BadLine column) h = omega arith
