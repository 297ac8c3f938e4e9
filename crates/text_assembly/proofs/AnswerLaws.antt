-- Words that have no line are refused for their code; a word that has one comes back.
use Rattle.numbers.proofs.Kit.{◌≡◌, refl, sym, ap, ◌∙◌, Bool, true, false, cond, List, [], ◌∷◌, Option, none, some, ℕ, arith, Err}
use Rattle.machine.specs.declared.Refusal.TheVariants.{BadArguments}
use Rattle.machine.specs.declared.Wrong.{Wrong}
use Rattle.machine.specs.declared.Wrong.TheVariants.{Opcode, LeftOut, Unlisted, Register}
use Rattle.machine.specs.declared.Instruction.{Instruction}
use Rattle.machine.specs.declared.Instruction.TheVariants.{Illegal, SetTypeImmediate, SetType, SetTileImmediate, SetTile, Load, Store, Multiply, Combine, Scale, ScaleImmediate, FloatMultiply, MoveOut, MoveIn}
use Rattle.machine.specs.Answers.{number, is_done, verdict, ◌otherwise◌, Answer}
use Rattle.machine.specs.Refusals.{word_answer}
use Rattle.machine.specs.Geometry.{Parameters, parameters, Bench}
use Rattle.machine.specs.Faults.{sound_bench, thirty_two}
use Rattle.machine.specs.Listing.{decode}
use Rattle.machine.specs.Vectors.{Vectors, vectors_fit}
use Rattle.machine.specs.Step.{Outcome, VectorOutcome, beside, carried_in, refused_in, vectors_in, stepped_in, step_with}
use Rattle.machine.specs.WordTheorems.{Faultless}
use Rattle.machine.proofs.TestLaws.{false-true}
use Rattle.text_assembly.specs.Answers.{code_number}
use Rattle.text_assembly.specs.Lines.{line}
use Rattle.text_assembly.specs.Reading.{read_line}
use Rattle.text_assembly.specs.Words.{word_text}
use Rattle.text_assembly.specs.Programs.{listed, listed_as, assembled_as}
use Rattle.text_assembly.specs.Theorems.{is_legal, has_line, AcceptedHaveLines, CodesAnswered, LinesGoBack}
use Rattle.text_assembly.proofs.LegalLaws.{legal-have-lines}
use Rattle.text_assembly.proofs.LineLaws.{reads-back}
use Rattle.text_assembly.proofs.HexLaws.{words-read-back}

-- the answer to an illegal word
module _ (W : Vectors) (M : Parameters) (xs : List ℕ) (B : Bench) (wrong : Wrong) where
  abbrev told : Bool → Bool → Answer
  told s t = verdict ((s otherwise BadArguments) ∷ (t otherwise BadArguments) ∷ (false otherwise word_answer wrong) ∷ [])

  abbrev out : Answer → Outcome
  out a = cond (is_done a) (carried_in W M (Illegal wrong) xs B) (refused_in W M (Illegal wrong) xs B a)

  abbrev stepped : Bool → Answer → VectorOutcome
  stepped v a = cond v (beside (vectors_in W M (Illegal wrong) xs B) (out a)) (beside W.file (refused_in W M (Illegal wrong) xs B (Err BadArguments)))

  never : (v s t : Bool) → (stepped v (told s t)).answer.number ≡ 0 → ⊥
  never false s t h = omega arith
  never true false t h = omega arith
  never true true false h = omega arith
  never true true true h = go wrong h
    where
      go : (w : Wrong) → (out (Err (word_answer w))).answer.number ≡ 0 → ⊥
      go Opcode h = omega arith
      go LeftOut h = omega arith
      go Unlisted h = omega arith
      go Register h = omega arith

  coded : (stepped true (told true true)).answer.number ≡ number (Err (word_answer wrong))
  coded = go wrong
    where
      go : (w : Wrong) → (out (Err (word_answer w))).answer.number ≡ number (Err (word_answer w))
      go Opcode = refl
      go LeftOut = refl
      go Unlisted = refl
      go Register = refl

legal : (W : Vectors) (M : Parameters) (i : Instruction) (xs : List ℕ) (B : Bench) → (stepped_in W M i xs B).answer.number ≡ 0 → is_legal i ≡ true
legal W M (Illegal wrong) xs B h = absurd (never W M xs B wrong (vectors_fit W) (sound_bench B) (thirty_two xs) h)
legal W M (SetTypeImmediate rd immediate) xs B h = refl
legal W M (SetType rd rs1) xs B h = refl
legal W M (SetTileImmediate dimension rd immediate) xs B h = refl
legal W M (SetTile dimension rd rs1) xs B h = refl
legal W M (Load form matrix width md rs1 rs2) xs B h = refl
legal W M (Store form matrix width ms3 rs1 rs2) xs B h = refl
legal W M (Multiply factor md ms1 ms2) xs B h = refl
legal W M (Combine sum factor md ms1) xs B h = refl
legal W M (Scale factor md ms1 rs2) xs B h = refl
legal W M (ScaleImmediate factor md ms1 immediate) xs B h = refl
legal W M (FloatMultiply md ms1 ms2) xs B h = refl
legal W M (MoveOut form vd ms1 rs2) xs B h = refl
legal W M (MoveIn form md vs1 rs2) xs B h = refl

illegal : (W : Vectors) (M : Parameters) (i : Instruction) (xs : List ℕ) (B : Bench) → Faultless xs W B → is_legal i ≡ false → (stepped_in W M i xs B).answer.number ≡ code_number i
illegal W M (Illegal wrong) xs B f h = rw (f.2, f.0, f.1) (coded W M xs B wrong)
illegal W M (SetTypeImmediate rd immediate) xs B f h = absurd (false-true (sym h))
illegal W M (SetType rd rs1) xs B f h = absurd (false-true (sym h))
illegal W M (SetTileImmediate dimension rd immediate) xs B f h = absurd (false-true (sym h))
illegal W M (SetTile dimension rd rs1) xs B f h = absurd (false-true (sym h))
illegal W M (Load form matrix width md rs1 rs2) xs B f h = absurd (false-true (sym h))
illegal W M (Store form matrix width ms3 rs1 rs2) xs B f h = absurd (false-true (sym h))
illegal W M (Multiply factor md ms1 ms2) xs B f h = absurd (false-true (sym h))
illegal W M (Combine sum factor md ms1) xs B f h = absurd (false-true (sym h))
illegal W M (Scale factor md ms1 rs2) xs B f h = absurd (false-true (sym h))
illegal W M (ScaleImmediate factor md ms1 immediate) xs B f h = absurd (false-true (sym h))
illegal W M (FloatMultiply md ms1 ms2) xs B f h = absurd (false-true (sym h))
illegal W M (MoveOut form vd ms1 rs2) xs B f h = absurd (false-true (sym h))
illegal W M (MoveIn form md vs1 rs2) xs B f h = absurd (false-true (sym h))

pub accepted-have-lines : AcceptedHaveLines
unfolding step_with
accepted-have-lines grant word xs W B h = legal-have-lines word ∙ legal W (parameters grant B.machine) (decode word) xs B h

pub codes-answered : CodesAnswered
unfolding step_with
codes-answered grant word xs W B f h = illegal W (parameters grant B.machine) (decode word) xs B f (sym (legal-have-lines word) ∙ h)

pub lines-go-back : LinesGoBack
lines-go-back word b h = ap (λ (q : List ℕ). assembled_as (read_line q)) (ap listed_as (words-read-back word b)) ∙ go (line word) refl h
  where
    go : (x : Option (List ℕ)) → line word ≡ x → has_line x ≡ true → assembled_as (read_line (listed word x)) ≡ word_text word
    go none e h = absurd (false-true h)
    go (some s) e h = ap assembled_as (reads-back word s (b, e))
