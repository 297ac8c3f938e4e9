-- Each answer of a step is given exactly when its sentence holds and none before it does.
use Rattle.numbers.proofs.Kit.{◌≡◌, refl, sym, ap, ◌∙◌, subst, ◌↔◌, ◌⊎◌, inl, inr, Bool, true, false, cond, not, ◌||◌, List, [], ◌∷◌, ◌++◌, map, ℕ, arith}
use Rattle.numbers.proofs.Kit.{eqb, length, eqb-true, eqb-false, Err}
use Rattle.numbers.specs.Blocks.{Choice}
use Rattle.machine.specs.declared.Refusal.TheVariants.{IllegalWord, IllegalType, BadWidth, TileTooLarge, Unwritten, OutsideMemory, SealedByte, BadArguments, Overlap, WrongOpcode, LeftOutWord, WrongRegister, RowsOverlap, TooManySeals}
use Rattle.machine.specs.declared.Reply.{Reply}
use Rattle.machine.specs.declared.Wrong.{Wrong}
use Rattle.machine.specs.declared.Wrong.TheVariants.{Opcode, LeftOut, Unlisted, Register}
use Rattle.machine.specs.declared.Instruction.{Instruction}
use Rattle.machine.specs.Tests.{is_in, every}
use Rattle.machine.specs.Answers.{bare, reply, number, is_done, Check, verdict, Answer, Done}
use Rattle.machine.specs.Geometry.{Range, sealed, Parameters, parameters, State, state_of, Bench}
use Rattle.machine.specs.Setting.{mill}
use Rattle.machine.specs.Listing.{bits, decode}
use Rattle.machine.specs.Memory.{row_at, inside, distinct, rows_miss}
use Rattle.machine.specs.Operation.{Operation, illegal, set_type, set_size, cut_size, load, store, multiply, combine, scale, float_multiply, move_out, move_in, operation_in}
use Rattle.machine.specs.Vectors.{Vectors, vectors_fit}
use Rattle.machine.specs.Refusals.{word_answer}
use Rattle.machine.specs.Meanings.{checks}
use Rattle.machine.specs.Faults.{sound_bench, thirty_two}
use Rattle.machine.specs.Step
use Rattle.machine.specs.Step.{Outcome, beside, checks_in, outcome_in, vectors_in, step_with}
use Rattle.machine.specs.WordTheorems.{Faultless, RightOpcode, IsOurs, OutOfRange, RefusedAs}
use Rattle.machine.proofs.TestLaws.{false-true, each_in}
use Rattle.machine.proofs.WordRefusals.{word-refusals, ours-or-not}
use Rattle.theorem_refusals.specs.Given.{TypeIsIllegal, WidthIsBroken, SizeTooLarge, reads, FirstAmong, NotWritten, writes, touches, LiesOutside, InTwoRows, WritesSealed, ◌else◌, Legal, GivenExactly, StepAnswersExactly}
use Rattle.theorem_refusals.proofs.Reflect.{Tells, tells-outside, tells-two-rows, tells-sealed}
use Rattle.theorem_refusals.proofs.Groups.{elements_check, Read, read, all_none, is_set_type, is_illegal, widths_kept, size_tests, memory_checks, behind_sizes, groups, grouped, tells-type, tells-width, tells-size, sizes-verdict}

-- ---- tests one after another: the first that fails gives the answer

skip : (p : Bool) (S X : Type 0) (a b : Answer) (k : ℕ) → Tells p S → ¬ (number b ≡ k) → (number a ≡ k) ↔ X → (number (cond p a b) ≡ k) ↔ (S else X)
skip true S X a b k t n i = (λ e. (t.refutes refl, i.0 e), λ y. i.1 y.1)
skip false S X a b k t n i = (λ e. absurd (n e), λ y. absurd (y.0 (t.shows refl)))

hit : (p : Bool) (S : Type 0) (a b : Answer) (k : ℕ) → Tells p S → ¬ (number a ≡ k) → number b ≡ k → (number (cond p a b) ≡ k) ↔ S
hit true S a b k t n h = (λ e. absurd (n e), λ s. absurd (t.refutes refl s))
hit false S a b k t n h = (λ e. t.shows refl, λ s. h)

all-passed : (p : Bool) (S : Type 0) (b : Answer) → Tells p S → ¬ (number b ≡ 0) → (number (cond p Done b) ≡ 0) ↔ ¬ S
all-passed true S b t n = (λ e. t.refutes refl, λ y. refl)
all-passed false S b t n = (λ e. absurd (n e), λ y. absurd (y (t.shows refl)))

avoid : (p : Bool) (a b : Answer) (k : ℕ) → ¬ (number a ≡ k) → ¬ (number b ≡ k) → ¬ (number (cond p a b) ≡ k)
avoid true a b k n m e = n e
avoid false a b k n m e = m e

-- ---- an operation that is not illegal

module _ (M : Parameters) (seals : List Range) (st : State) (mem : List ℕ) (op : Operation) where
  abbrev p2 : Bool
  p2 = is_set_type op || not (mill st.mtype)

  abbrev p3 : Bool
  p3 = widths_kept M.elen st.mtype op

  abbrev p4 : Bool
  p4 = every (size_tests M (sealed seals) st mem op)

  abbrev p6 : Bool
  p6 = inside (length mem) (touches st op).base (touches st op).stride (touches st op).count (touches st op).size

  abbrev p13 : Bool
  p13 = distinct (row_at (writes st op).base (writes st op).stride) (writes st op).count (writes st op).size

  abbrev p7 : Bool
  p7 = rows_miss (sealed seals) (writes st op).base (writes st op).stride (writes st op).count (writes st op).size

  abbrev a7 : Answer
  a7 = cond p7 Done (Err SealedByte)

  abbrev a13 : Answer
  a13 = cond p13 a7 (Err RowsOverlap)

  abbrev a6 : Answer
  a6 = cond p6 a13 (Err OutsideMemory)

  -- what is found of the elements to be read
  record Fifth : Type 0 where
    passes : Bool
    row : ℕ
    column : ℕ
    tells : Tells passes (NotWritten M st op)
    first : passes ≡ false → FirstAmong st.marks (reads M st op) row column
    is : verdict (behind_sizes M (sealed seals) st mem op) ≡ cond passes a6 (Err (Unwritten row column))

  fifth : Fifth
  fifth = go (read st.marks (reads M st op) (memory_checks M (sealed seals) st mem (touches st op) (writes st op)))
    where
      go : Read st.marks (reads M st op) (memory_checks M (sealed seals) st mem (touches st op) (writes st op)) → Fifth
      go (inl x) = record {
        passes = true;
        row = 0;
        column = 0;
        tells = record { shows = λ e. absurd (false-true (sym e)); refutes = λ e. all_none st.marks (reads M st op) x.0 };
        first = λ e. absurd (false-true (sym e));
        is = x.1;
      }
      go (inr x) = record {
        passes = false;
        row = x.0;
        column = x.1;
        tells = record { shows = λ e. (x.0, x.1, x.2); refutes = λ e. absurd (false-true e) };
        first = λ e. x.2;
        is = x.3;
      }

  module _ (F : Fifth) where
    abbrev a5 : Answer
    a5 = cond F.passes a6 (Err (Unwritten F.row F.column))

    abbrev a4 : Answer
    a4 = cond p4 a5 (Err TileTooLarge)

    abbrev a3 : Answer
    a3 = cond p3 a4 (Err BadWidth)

    abbrev chain : Answer
    chain = cond p2 a3 (Err IllegalType)

    is-chain : verdict (groups M (sealed seals) st mem op) ≡ chain
    is-chain =
        ap (λ (a : Answer). cond p2 (cond p3 a (Err BadWidth)) (Err IllegalType))
        (sizes-verdict (size_tests M (sealed seals) st mem op) (behind_sizes M (sealed seals) st mem op) ∙ ap (λ (a : Answer). cond p4 a (Err TileTooLarge)) F.is)

    t2 : Tells p2 (TypeIsIllegal st op)
    t2 = tells-type M st op

    t3 : Tells p3 (WidthIsBroken M st op)
    t3 = tells-width M st op

    t4 : Tells p4 (SizeTooLarge M st op)
    t4 = tells-size M st op

    t6 : Tells p6 (LiesOutside mem (touches st op))
    t6 = tells-outside mem (touches st op)

    t13 : Tells p13 (InTwoRows (writes st op))
    t13 = tells-two-rows (writes st op)

    t7 : Tells p7 (WritesSealed seals (writes st op))
    t7 = tells-sealed seals (writes st op)

    -- no number but those of the tests that follow
    far7 : (k : ℕ) → eqb 0 k ≡ false → eqb 7 k ≡ false → ¬ (number a7 ≡ k)
    far7 k z h7 = avoid p7 Done (Err SealedByte) k (eqb-false 0 k z) (eqb-false 7 k h7)

    far13 : (k : ℕ) → eqb 0 k ≡ false → eqb 7 k ≡ false → eqb 13 k ≡ false → ¬ (number a13 ≡ k)
    far13 k z h7 h13 = avoid p13 a7 (Err RowsOverlap) k (far7 k z h7) (eqb-false 13 k h13)

    far6 : (k : ℕ) → eqb 0 k ≡ false → eqb 7 k ≡ false → eqb 13 k ≡ false → eqb 6 k ≡ false → ¬ (number a6 ≡ k)
    far6 k z h7 h13 h6 = avoid p6 a13 (Err OutsideMemory) k (far13 k z h7 h13) (eqb-false 6 k h6)

    far5 : (k : ℕ) → eqb 0 k ≡ false → eqb 7 k ≡ false → eqb 13 k ≡ false → eqb 6 k ≡ false → eqb 5 k ≡ false → ¬ (number a5 ≡ k)
    far5 k z h7 h13 h6 h5 = avoid F.passes a6 (Err (Unwritten F.row F.column)) k (far6 k z h7 h13 h6) (eqb-false 5 k h5)

    far4 : (k : ℕ) → eqb 0 k ≡ false → eqb 7 k ≡ false → eqb 13 k ≡ false → eqb 6 k ≡ false → eqb 5 k ≡ false → eqb 4 k ≡ false → ¬ (number a4 ≡ k)
    far4 k z h7 h13 h6 h5 h4 = avoid p4 a5 (Err TileTooLarge) k (far5 k z h7 h13 h6 h5) (eqb-false 4 k h4)

    far3 : (k : ℕ) → eqb 0 k ≡ false → eqb 7 k ≡ false → eqb 13 k ≡ false → eqb 6 k ≡ false → eqb 5 k ≡ false → eqb 4 k ≡ false → eqb 3 k ≡ false → ¬ (number a3 ≡ k)
    far3 k z h7 h13 h6 h5 h4 h3 = avoid p3 a4 (Err BadWidth) k (far4 k z h7 h13 h6 h5 h4) (eqb-false 3 k h3)

    far : (k : ℕ) → eqb 0 k ≡ false → eqb 7 k ≡ false → eqb 13 k ≡ false → eqb 6 k ≡ false → eqb 5 k ≡ false → eqb 4 k ≡ false → eqb 3 k ≡ false → eqb 2 k ≡ false → ¬ (number chain ≡ k)
    far k z h7 h13 h6 h5 h4 h3 h2 = avoid p2 a3 (Err IllegalType) k (far3 k z h7 h13 h6 h5 h4 h3) (eqb-false 2 k h2)

    -- behind the first four
    behind2 : (k : ℕ) (X : Type 0) → eqb 2 k ≡ false → (number a3 ≡ k) ↔ X → (number chain ≡ k) ↔ (TypeIsIllegal st op else X)
    behind2 k X h i = skip p2 (TypeIsIllegal st op) X a3 (Err IllegalType) k t2 (eqb-false 2 k h) i

    behind3 : (k : ℕ) (X : Type 0) → eqb 2 k ≡ false → eqb 3 k ≡ false → (number a4 ≡ k) ↔ X → (number chain ≡ k) ↔ (TypeIsIllegal st op else WidthIsBroken M st op else X)
    behind3 k X h2 h3 i = behind2 k (WidthIsBroken M st op else X) h2 (skip p3 (WidthIsBroken M st op) X a4 (Err BadWidth) k t3 (eqb-false 3 k h3) i)

    behind4 : (k : ℕ) (X : Type 0) → eqb 2 k ≡ false → eqb 3 k ≡ false → eqb 4 k ≡ false → (number a5 ≡ k) ↔ X
        → (number chain ≡ k) ↔ (TypeIsIllegal st op else WidthIsBroken M st op else SizeTooLarge M st op else X)
    behind4 k X h2 h3 h4 i = behind3 k (SizeTooLarge M st op else X) h2 h3 (skip p4 (SizeTooLarge M st op) X a5 (Err TileTooLarge) k t4 (eqb-false 4 k h4) i)

    behind5 : (k : ℕ) (X : Type 0) → eqb 2 k ≡ false → eqb 3 k ≡ false → eqb 4 k ≡ false → eqb 5 k ≡ false → (number a6 ≡ k) ↔ X
        → (number chain ≡ k) ↔ (TypeIsIllegal st op else WidthIsBroken M st op else SizeTooLarge M st op else NotWritten M st op else X)
    behind5 k X h2 h3 h4 h5 i =
        behind4 k (NotWritten M st op else X) h2 h3 h4 (skip F.passes (NotWritten M st op) X a6 (Err (Unwritten F.row F.column)) k F.tells (eqb-false 5 k h5) i)

    abbrev Before6 : Type 0 → Type 0
    Before6 X = TypeIsIllegal st op else WidthIsBroken M st op else SizeTooLarge M st op else NotWritten M st op else X

    two_is : (number chain ≡ 2) ↔ TypeIsIllegal st op
    two_is = hit p2 (TypeIsIllegal st op) a3 (Err IllegalType) 2 t2 (far3 2 refl refl refl refl refl refl refl) refl

    three-is : (number chain ≡ 3) ↔ (TypeIsIllegal st op else WidthIsBroken M st op)
    three-is = behind2 3 (WidthIsBroken M st op) refl (hit p3 (WidthIsBroken M st op) a4 (Err BadWidth) 3 t3 (far4 3 refl refl refl refl refl refl) refl)

    four_is : (number chain ≡ 4) ↔ (TypeIsIllegal st op else WidthIsBroken M st op else SizeTooLarge M st op)
    four_is = behind3 4 (SizeTooLarge M st op) refl refl (hit p4 (SizeTooLarge M st op) a5 (Err TileTooLarge) 4 t4 (far5 4 refl refl refl refl refl) refl)

    five-is : (number chain ≡ 5) ↔ (TypeIsIllegal st op else WidthIsBroken M st op else SizeTooLarge M st op else NotWritten M st op)
    five-is = behind4 5 (NotWritten M st op) refl refl refl (hit F.passes (NotWritten M st op) a6 (Err (Unwritten F.row F.column)) 5 F.tells (far6 5 refl refl refl refl) refl)

    six-is : (number chain ≡ 6) ↔ Before6 (LiesOutside mem (touches st op))
    six-is = behind5 6 (LiesOutside mem (touches st op)) refl refl refl refl (hit p6 (LiesOutside mem (touches st op)) a13 (Err OutsideMemory) 6 t6 (far13 6 refl refl refl) refl)

    thirteen-is : (number chain ≡ 13) ↔ Before6 (LiesOutside mem (touches st op) else InTwoRows (writes st op))
    thirteen-is =
        behind5 13 (LiesOutside mem (touches st op) else InTwoRows (writes st op)) refl refl refl refl
        (skip p6 (LiesOutside mem (touches st op)) (InTwoRows (writes st op)) a13 (Err OutsideMemory) 13 t6 (eqb-false 6 13 refl)
        (hit p13 (InTwoRows (writes st op)) a7 (Err RowsOverlap) 13 t13 (far7 13 refl refl) refl))

    seven_is : (number chain ≡ 7) ↔ Before6 (LiesOutside mem (touches st op) else InTwoRows (writes st op) else WritesSealed seals (writes st op))
    seven_is =
        behind5 7 (LiesOutside mem (touches st op) else InTwoRows (writes st op) else WritesSealed seals (writes st op)) refl refl refl refl
        (skip p6 (LiesOutside mem (touches st op)) (InTwoRows (writes st op) else WritesSealed seals (writes st op)) a13 (Err OutsideMemory) 7 t6 (eqb-false 6 7 refl)
        (skip p13 (InTwoRows (writes st op)) (WritesSealed seals (writes st op)) a7 (Err RowsOverlap) 7 t13 (eqb-false 13 7 refl)
        (hit p7 (WritesSealed seals (writes st op)) Done (Err SealedByte) 7 t7 (eqb-false 0 7 refl) refl)))

    nought-is : (number chain ≡ 0) ↔ Before6 (LiesOutside mem (touches st op) else InTwoRows (writes st op) else ¬ WritesSealed seals (writes st op))
    nought-is =
        behind5 0 (LiesOutside mem (touches st op) else InTwoRows (writes st op) else ¬ WritesSealed seals (writes st op)) refl refl refl refl
        (skip p6 (LiesOutside mem (touches st op)) (InTwoRows (writes st op) else ¬ WritesSealed seals (writes st op)) a13 (Err OutsideMemory) 0 t6 (eqb-false 6 0 refl)
        (skip p13 (InTwoRows (writes st op)) (¬ WritesSealed seals (writes st op)) a7 (Err RowsOverlap) 0 t13 (eqb-false 13 0 refl)
        (all-passed p7 (WritesSealed seals (writes st op)) (Err SealedByte) t7 (eqb-false 7 0 refl))))

    names-it : number chain ≡ 5 → FirstAmong st.marks (reads M st op) (reply chain).row (reply chain).column
    names-it = go p2 p3 p4 F.passes refl
      where
        go : (q2 q3 q4 q5 : Bool) → F.passes ≡ q5
            → number (cond q2 (cond q3 (cond q4 (cond q5 a6 (Err (Unwritten F.row F.column))) (Err TileTooLarge)) (Err BadWidth)) (Err IllegalType)) ≡ 5
            → let a = cond q2 (cond q3 (cond q4 (cond q5 a6 (Err (Unwritten F.row F.column))) (Err TileTooLarge)) (Err BadWidth)) (Err IllegalType) in
            FirstAmong st.marks (reads M st op) (reply a).row (reply a).column
        go false q3 q4 q5 e h = absurd (eqb-false 2 5 refl h)
        go true false q4 q5 e h = absurd (eqb-false 3 5 refl h)
        go true true false q5 e h = absurd (eqb-false 4 5 refl h)
        go true true true true e h = absurd (far6 5 refl refl refl refl h)
        go true true true false e h = F.first e

    -- one of the numbers
    abbrev known : Answer → Bool
    known a = is_in (number a) (0 ∷ 2 ∷ 3 ∷ 4 ∷ 5 ∷ 6 ∷ 7 ∷ 13 ∷ [])

    by-checks : known chain ≡ true
    by-checks = go p2 p3 p4 F.passes p6 p13 p7
      where
        go : (q2 q3 q4 q5 q6 q13 q7 : Bool)
            → known (cond q2 (cond q3 (cond q4 (cond q5 (cond q6 (cond q13 (cond q7 Done (Err SealedByte)) (Err RowsOverlap)) (Err OutsideMemory)) (Err (Unwritten F.row F.column))) (Err TileTooLarge)) (Err BadWidth)) (Err IllegalType)) ≡ true
        go false q3 q4 q5 q6 q13 q7 = refl
        go true false q4 q5 q6 q13 q7 = refl
        go true true false q5 q6 q13 q7 = refl
        go true true true false q6 q13 q7 = refl
        go true true true true false q13 q7 = refl
        go true true true true true false q7 = refl
        go true true true true true true false = refl
        go true true true true true true true = refl

-- ---- the answer of a step

done-is : (a : Answer) → is_done a ≡ true → a ≡ Done
done-is Done h = refl
done-is (Err IllegalWord) h = absurd (false-true h)
done-is (Err IllegalType) h = absurd (false-true h)
done-is (Err BadWidth) h = absurd (false-true h)
done-is (Err TileTooLarge) h = absurd (false-true h)
done-is (Err (Unwritten row column)) h = absurd (false-true h)
done-is (Err OutsideMemory) h = absurd (false-true h)
done-is (Err SealedByte) h = absurd (false-true h)
done-is (Err BadArguments) h = absurd (false-true h)
done-is (Err Overlap) h = absurd (false-true h)
done-is (Err WrongOpcode) h = absurd (false-true h)
done-is (Err LeftOutWord) h = absurd (false-true h)
done-is (Err WrongRegister) h = absurd (false-true h)
done-is (Err RowsOverlap) h = absurd (false-true h)
done-is (Err TooManySeals) h = absurd (false-true h)

bare-is : (a : Answer) → ¬ (number a ≡ 5) → reply a ≡ bare (number a)
bare-is Done h = refl
bare-is (Err IllegalWord) h = refl
bare-is (Err IllegalType) h = refl
bare-is (Err BadWidth) h = refl
bare-is (Err TileTooLarge) h = refl
bare-is (Err (Unwritten row column)) h = absurd (h refl)
bare-is (Err OutsideMemory) h = refl
bare-is (Err SealedByte) h = refl
bare-is (Err BadArguments) h = refl
bare-is (Err Overlap) h = refl
bare-is (Err WrongOpcode) h = refl
bare-is (Err LeftOutWord) h = refl
bare-is (Err WrongRegister) h = refl
bare-is (Err RowsOverlap) h = refl
bare-is (Err TooManySeals) h = refl

illegal-one : (o : Operation) → is_illegal o ≡ true → (w : Wrong) × (o ≡ illegal w)
illegal-one (illegal wrong) h = (wrong, refl)
illegal-one (set_type v) h = absurd (false-true h)
illegal-one (set_size d a) h = absurd (false-true h)
illegal-one (cut_size d) h = absurd (false-true h)
illegal-one (load f k r w base stride) h = absurd (false-true h)
illegal-one (store f k r w base stride) h = absurd (false-true h)
illegal-one (multiply f d a b) h = absurd (false-true h)
illegal-one (combine o f d a) h = absurd (false-true h)
illegal-one (scale f d a x) h = absurd (false-true h)
illegal-one (float_multiply d a b) h = absurd (false-true h)
illegal-one (move_out f a v first count) h = absurd (false-true h)
illegal-one (move_in f d v first count file) h = absurd (false-true h)

module _ (grant : Choice) (word : ℕ) (xs : List ℕ) (W : Vectors) (B : Bench) where
  abbrev M : Parameters
  M = parameters grant B.machine

  abbrev st : State
  st = state_of B.machine B.registers B.marks

  abbrev op : Operation
  op = operation_in W M st xs (decode word)

  abbrev answer : Answer
  answer = cond (vectors_fit W) (verdict (checks_in W M (decode word) xs B)) (Err BadArguments)

  answer-is : (step_with grant word xs W B).answer ≡ reply answer
  unfolding step_with
  answer-is = go (vectors_fit W)
    where
      v : Answer
      v = verdict (checks_in W M (decode word) xs B)

      carried : (t : Bool) → is_done v ≡ t → (cond t (Step.carried_in W M (decode word) xs B) (Step.refused_in W M (decode word) xs B v)).answer ≡ reply v
      carried true e = sym (ap reply (done-is v e))
      carried false e = refl

      go : (t : Bool) → (cond t (beside (vectors_in W M (decode word) xs B) (outcome_in W M (decode word) xs B)) (beside W.file (Step.refused_in W M (decode word) xs B (Err BadArguments)))).answer
          ≡ reply (cond t v (Err BadArguments))
      go true = carried (is_done v) refl
      go false = refl

  abbrev Exactly : Reply → Type 0
  Exactly = GivenExactly grant word xs W B

  abbrev Refused : ℕ → Type 0
  Refused n = RefusedAs n word xs W B

  -- ---- refused before its checks: the state is at fault, or the word is refused for what it is

  nowhere : {X Y : Type 0} → ¬ X → ¬ Legal grant word xs W B → X ↔ Legal grant word xs W B × Y
  nowhere n l = (λ x. absurd (n x), λ y. absurd (l y.0))

  before : (n : ℕ) → is_in n (8 ∷ 10 ∷ 11 ∷ 1 ∷ 12 ∷ []) ≡ true → (n ≡ 8) ↔ ¬ Faultless xs W B → Refused n → ¬ Legal grant word xs W B → Exactly (bare n)
  before n h e r l = record {
    eight = e;
    by_code = r;
    two = nowhere (other 2 refl) l;
    three = nowhere (other 3 refl) l;
    four = nowhere (other 4 refl) l;
    five = nowhere (other 5 refl) l;
    six = nowhere (other 6 refl) l;
    thirteen = nowhere (other 13 refl) l;
    seven = nowhere (other 7 refl) l;
    nought = nowhere (other 0 refl) l;
    no_other = one_of;
    named = λ x. absurd (other 5 refl x);
    elsewhere = λ x. refl;
  }
    where
      other : (k : ℕ) → is_in k (8 ∷ 10 ∷ 11 ∷ 1 ∷ 12 ∷ []) ≡ false → ¬ (n ≡ k)
      other k f x = false-true (sym f ∙ ap (λ (y : ℕ). is_in y (8 ∷ 10 ∷ 11 ∷ 1 ∷ 12 ∷ [])) (sym x) ∙ h)

      one_of : is_in n (0 ∷ 1 ∷ 2 ∷ 3 ∷ 4 ∷ 5 ∷ 6 ∷ 7 ∷ 8 ∷ 10 ∷ 11 ∷ 12 ∷ 13 ∷ []) ≡ true
      one_of = each_in n (8 ∷ 10 ∷ 11 ∷ 1 ∷ 12 ∷ []) (λ (y : ℕ). is_in y (0 ∷ 1 ∷ 2 ∷ 3 ∷ 4 ∷ 5 ∷ 6 ∷ 7 ∷ 8 ∷ 10 ∷ 11 ∷ 12 ∷ 13 ∷ [])) refl h

  at-fault : ¬ Faultless xs W B → Refused 8 → Exactly (reply (Err BadArguments))
  at-fault f r = before 8 refl ((λ e. f), (λ y. refl)) r (λ l. f l.faultless)

  module _ (f : Faultless xs W B) where
    no-fault : (n : ℕ) → ¬ (n ≡ 8) → (n ≡ 8) ↔ ¬ Faultless xs W B
    no-fault n h = (λ e. absurd (h e), λ y. absurd (y f))

    by_word : (w : Wrong) → Refused (number (Err (word_answer w))) → Exactly (reply (Err (word_answer w)))
    by_word Opcode r = before 10 refl (no-fault 10 (eqb-false 10 8 refl)) r (λ l. (r.ten.0 refl).1 l.opcode)
    by_word LeftOut r = before 11 refl (no-fault 11 (eqb-false 11 8 refl)) r (λ l. (r.eleven.0 refl).3 l.of-ours)
    by_word Unlisted r = before 1 refl (no-fault 1 (eqb-false 1 8 refl)) r (λ l. (r.one.0 refl).3 l.of-ours)
    by_word Register r = before 12 refl (no-fault 12 (eqb-false 12 8 refl)) r (λ l. l.in-range (r.twelve.0 refl).2)

    -- ---- by its checks

    module _ (F : Fifth M B.seals st B.memory op) where
      abbrev c : Answer
      c = chain M B.seals st B.memory op F

      legal : Refused (number c) → Legal grant word xs W B
      legal r = record { faultless = f; opcode = right; of-ours = elim (ours-or-not word) [ inl x ↦ x | inr n ↦ absurd (none n) ]; in-range = λ y. not-one 12 refl (r.twelve.1 (f, right, y)) }
        where
          not-one : (k : ℕ) → is_in k (10 ∷ 11 ∷ 1 ∷ 12 ∷ []) ≡ true → ¬ (number c ≡ k)
          not-one k h e =
              let p : ℕ → Bool = λ y. not (is_in y (0 ∷ 2 ∷ 3 ∷ 4 ∷ 5 ∷ 6 ∷ 7 ∷ 13 ∷ [])) in
              false-true (ap not (sym (by-checks M B.seals st B.memory op F)) ∙ ap p e ∙ each_in k (10 ∷ 11 ∷ 1 ∷ 12 ∷ []) p refl h)

          right : RightOpcode word
          right = go (eqb (bits 6 0 word) 0b1110111) refl
            where
              go : (t : Bool) → eqb (bits 6 0 word) 0b1110111 ≡ t → RightOpcode word
              go true e = eqb-true (bits 6 0 word) 0b1110111 e
              go false e = absurd (not-one 10 refl (r.ten.1 (f, eqb-false (bits 6 0 word) 0b1110111 e)))

          none : ¬ IsOurs word → ⊥
          none n = not-one 1 refl (r.one.1 (f, right, (λ o. not-one 11 refl (r.eleven.1 (f, right, o, n))), n))

      with-legal : {X Y : Type 0} → Legal grant word xs W B → X ↔ Y → X ↔ Legal grant word xs W B × Y
      with-legal l i = (λ x. (l, i.0 x), λ y. i.1 y.1)

      checked : Refused (number c) → Exactly (reply c)
      checked r = record {
        eight = no-fault (number c) (far M B.seals st B.memory op F 8 refl refl refl refl refl refl refl refl);
        by_code = r;
        two = with-legal l (two_is M B.seals st B.memory op F);
        three = with-legal l (three-is M B.seals st B.memory op F);
        four = with-legal l (four_is M B.seals st B.memory op F);
        five = with-legal l (five-is M B.seals st B.memory op F);
        six = with-legal l (six-is M B.seals st B.memory op F);
        thirteen = with-legal l (thirteen-is M B.seals st B.memory op F);
        seven = with-legal l (seven_is M B.seals st B.memory op F);
        nought = with-legal l (nought-is M B.seals st B.memory op F);
        no_other = each_in (number c) (0 ∷ 2 ∷ 3 ∷ 4 ∷ 5 ∷ 6 ∷ 7 ∷ 13 ∷ []) (λ (y : ℕ). is_in y (0 ∷ 1 ∷ 2 ∷ 3 ∷ 4 ∷ 5 ∷ 6 ∷ 7 ∷ 8 ∷ 10 ∷ 11 ∷ 12 ∷ 13 ∷ [])) refl (by-checks M B.seals st B.memory op F);
        named = names-it M B.seals st B.memory op F;
        elsewhere = bare-is c;
      }
        where
          l : Legal grant word xs W B
          l = legal r

    abbrev Fine : Answer → Type 0
    Fine a = Refused (number a) → Exactly (reply a)

    -- by the operation of the word
    by-operation : Refused (number (verdict (checks M (sealed B.seals) op st B.memory))) → Exactly (reply (verdict (checks M (sealed B.seals) op st B.memory)))
    by-operation = go (is_illegal op) refl
      where
        F : Fifth M B.seals st B.memory op
        F = fifth M B.seals st B.memory op

        go : (t : Bool) → is_illegal op ≡ t → Fine (verdict (checks M (sealed B.seals) op st B.memory))
        go false h = subst Fine (sym (grouped M (sealed B.seals) st B.memory op h ∙ is-chain M B.seals st B.memory op F)) (checked F)
        go true h = let w = illegal-one op h in subst (λ (o : Operation). Fine (verdict (checks M (sealed B.seals) o st B.memory))) (sym w.1) (by_word w.0)

  exactly : Refused (number answer) → Exactly (reply answer)
  exactly = go (vectors_fit W) (sound_bench B) (thirty_two xs) refl refl refl
    where
      v : Answer
      v = verdict (checks M (sealed B.seals) op st B.memory)

      go : (s t u : Bool) → vectors_fit W ≡ s → sound_bench B ≡ t → thirty_two xs ≡ u
          → let a = cond s (cond t (cond u v (Err BadArguments)) (Err BadArguments)) (Err BadArguments) in Refused (number a) → Exactly (reply a)
      go false t u e g h = at-fault (λ f. false-true (sym e ∙ f.2))
      go true false u e g h = at-fault (λ f. false-true (sym g ∙ f.0))
      go true true false e g h = at-fault (λ f. false-true (sym h ∙ f.1))
      go true true true e g h = by-operation (g, h, e)

pub step-answers-exactly : StepAnswersExactly
step-answers-exactly grant word xs W B =
    let e = answer-is grant word xs W B in
    subst (λ (a : Reply). GivenExactly grant word xs W B a) (sym e)
    (exactly grant word xs W B (subst (λ (a : Reply). RefusedAs a.number word xs W B) e (word-refusals grant word xs W B)))
