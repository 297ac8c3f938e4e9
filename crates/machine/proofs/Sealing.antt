-- Demand 2: over any list of words, each with its scalars, no sealed byte of memory changes, and the seal stays.
use Rattle.numbers.proofs.Kit.{◌≡◌, refl, sym, ap, ◌∙◌, subst, Bool, true, false, cond, ◌||◌, List, [], ◌∷◌, ◌++◌, append-nil, append_assoc, ℕ, length}
use Rattle.numbers.proofs.Kit.{get_or, Err}
use Rattle.numbers.specs.Blocks.{Choice}
use Rattle.machine.specs.declared.Refusal.TheVariants.{BadArguments}
use Rattle.machine.specs.declared.Instruction.{Instruction}
use Rattle.machine.specs.Tests.{within}
use Rattle.machine.proofs.TestLaws.{false-true}
use Rattle.machine.specs.Answers.{is_done, verdict}
use Rattle.machine.proofs.CheckLaws.{Passed, passed, refusals}
use Rattle.machine.specs.Geometry.{Range, range, sealed, Parameters, parameters, State}
use Rattle.machine.specs.Setting.{chosen}
use Rattle.machine.specs.Memory.{row_at}
use Rattle.machine.proofs.MemoryLaws.{misses-at, rows-miss-at}
use Rattle.machine.proofs.StoreLaws.{length-stored, stored-out}
use Rattle.machine.specs.Listing.{decode}
use Rattle.machine.specs.declared.Wrong.TheVariants.{Opcode, LeftOut, Unlisted, Register}
use Rattle.machine.specs.Operation.{Operation}
use Rattle.machine.specs.Meanings.{memory_after, checks}
use Rattle.machine.specs.Geometry.{Bench}
use Rattle.machine.specs.Starting.{StartOutcome}
use Rattle.machine.specs.Sealing.{add_seal, seal_checks, with_seal}
use Rattle.machine.proofs.StartLaws.{accepted}
use Rattle.machine.specs.Theorems.{Extends, Unharmed, SealHolds, SealHoldsFromStart, started_bench}
use Rattle.machine.specs.Step
use Rattle.machine.specs.Step.{VectorOutcome, beside, outcome, outcome_in, vectors_in, step_by, step_with, checks_in, meant_in, given_in}
use Rattle.machine.specs.Vectors.{Vectors, vectors_fit, idle}
use Rattle.machine.specs.declared.Form.TheVariants.{Plain, Transposed}

-- ---- ranges that are added

-- a byte that a range has stays sealed, whatever is added
pub sealed-added : (rs added : List Range) (q : ℕ) → sealed rs q ≡ true → sealed (rs ++ added) q ≡ true
sealed-added [] added q h = absurd (false-true h)
sealed-added (r ∷ rs) added q h = go (within r.start r.size q) h (sealed-added rs added q)
  where
    go : (t : Bool) → t || sealed rs q ≡ true → (sealed rs q ≡ true → sealed (rs ++ added) q ≡ true) → t || sealed (rs ++ added) q ≡ true
    go true h ih = refl
    go false h ih = ih h

pub stay : (rs : List Range) → Extends rs rs
stay rs = record { added = []; behind = sym (append-nil rs) }

pub stay_then : {a b c : List Range} → Extends a b → Extends b c → Extends a c
stay_then {a} x y = record { added = x.added ++ y.added; behind = y.behind ∙ ap (λ (z : List Range). z ++ y.added) x.behind ∙ append_assoc a x.added y.added }

pub stays-sealed : {a b : List Range} → Extends a b → (q : ℕ) → sealed a q ≡ true → sealed b q ≡ true
stays-sealed {a} x q h = subst (λ (z : List Range). sealed z q ≡ true) (sym x.behind) (sealed-added a x.added q h)

-- ---- one operation

-- each check of an operation refuses
pub refusing : (M : Parameters) (isSealed : ℕ → Bool) (o : Operation) (st : State) (mem : List ℕ) → refusals (checks M isSealed o st mem) ≡ true
refusing M z (Operation.illegal Opcode) st mem = refl
refusing M z (Operation.illegal LeftOut) st mem = refl
refusing M z (Operation.illegal Unlisted) st mem = refl
refusing M z (Operation.illegal Register) st mem = refl
refusing M z (Operation.set_type v) st mem = refl
refusing M z (Operation.set_size d a) st mem = refl
refusing M z (Operation.cut_size d) st mem = refl
refusing M z (Operation.load f k r w b s) st mem = refl
refusing M z (Operation.store f k r w b s) st mem = refl
refusing M z (Operation.multiply f d a b) st mem = refl
refusing M z (Operation.combine o f d a) st mem = refl
refusing M z (Operation.scale f d a x) st mem = refl
refusing M z (Operation.float_multiply d a b) st mem = refl
refusing M z (Operation.move_out Plain a v first count) st mem = refl
refusing M z (Operation.move_out Transposed a v first count) st mem = refl
refusing M z (Operation.move_in f d v first count file) st mem = refl

module _ (M : Parameters) (st : State) (mem : List ℕ) where
  pub operation-length : (o : Operation) → length (memory_after M o st mem) ≡ length mem
  operation-length (Operation.illegal wrong) = refl
  operation-length (Operation.set_type v) = refl
  operation-length (Operation.set_size d a) = refl
  operation-length (Operation.cut_size d) = refl
  operation-length (Operation.load f k r w b s) = refl
  operation-length (Operation.store f k r w b s) = length-stored _ _ _ _ _ mem
  operation-length (Operation.multiply f d a b) = refl
  operation-length (Operation.combine o f d a) = refl
  operation-length (Operation.scale f d a x) = refl
  operation-length (Operation.float_multiply d a b) = refl
  operation-length (Operation.move_out f a v first count) = refl
  operation-length (Operation.move_in f d v first count file) = refl

  operation-sealed : (isSealed : ℕ → Bool) (o : Operation) → Passed (checks M isSealed o st mem) → (q : ℕ) → isSealed q ≡ true → get_or (memory_after M o st mem) q 0 ≡ get_or mem q 0
  operation-sealed z (Operation.illegal wrong) p q h = refl
  operation-sealed z (Operation.set_type v) p q h = refl
  operation-sealed z (Operation.set_size d a) p q h = refl
  operation-sealed z (Operation.cut_size d) p q h = refl
  operation-sealed z (Operation.load f k r w b s) p q h = refl
  operation-sealed z (Operation.store f k r w b s) p q h =
      stored-out (row_at b s) _ _ w _ mem q (λ i l x.
      false-true (rw h at (misses-at z (row_at b s i) _ (rows-miss-at z b s _ _ p.1.1.1.1.1.1.1.0 i l) q x)))
  operation-sealed z (Operation.multiply f d a b) p q h = refl
  operation-sealed z (Operation.combine o f d a) p q h = refl
  operation-sealed z (Operation.scale f d a x) p q h = refl
  operation-sealed z (Operation.float_multiply d a b) p q h = refl
  operation-sealed z (Operation.move_out f a v first count) p q h = refl
  operation-sealed z (Operation.move_in f d v first count file) p q h = refl

-- ---- one step

outcome-unharmed : (grant : Choice) (i : Instruction) (xs : List ℕ) (W : Vectors) (B : Bench)
    → Unharmed grant B (outcome_in W (parameters grant B.machine) i xs B).bench
outcome-unharmed grant i xs W B = go (is_done (verdict (checks_in W M i xs B))) refl
  where
    M : Parameters
    M = parameters grant B.machine

    go : (t : Bool) → is_done (verdict (checks_in W M i xs B)) ≡ t
        → Unharmed grant B (cond t (Step.carried_in W M i xs B) (Step.refused_in W M i xs B (verdict (checks_in W M i xs B)))).bench
    go true e =
        let p = passed (checks_in W M i xs B) (refusing M (sealed B.seals) (meant_in W M i xs B) (given_in W M i xs B) B.memory) e in
        record {
          same-parameters = refl;
          ranges-stay = stay B.seals;
          same_length = operation-length M (given_in W M i xs B) B.memory (meant_in W M i xs B);
          same_bytes = operation-sealed M (given_in W M i xs B) B.memory (sealed B.seals) (meant_in W M i xs B) p.1.1;
        }
    go false e = record { same-parameters = refl; ranges-stay = stay B.seals; same_length = refl; same_bytes = λ q h. refl }

pub step-with-unharmed : (grant : Choice) (word : ℕ) (xs : List ℕ) (W : Vectors) (B : Bench) → Unharmed grant B (step_with grant word xs W B).bench
unfolding step_with
step-with-unharmed grant word xs W B = go (vectors_fit W)
  where
    o : VectorOutcome
    o = beside (vectors_in W (parameters grant B.machine) (decode word) xs B) (outcome_in W (parameters grant B.machine) (decode word) xs B)

    go : (t : Bool) → Unharmed grant B (cond t o (beside W.file (Step.refused_in W (parameters grant B.machine) (decode word) xs B (Err BadArguments)))).bench
    go true = outcome-unharmed grant (decode word) xs W B
    go false = record { same-parameters = refl; ranges-stay = stay B.seals; same_length = refl; same_bytes = λ q h. refl }

pub step-unharmed : (grant : Choice) (word : ℕ) (xs : List ℕ) (B : Bench) → Unharmed grant B (step_by grant word xs B).bench
unfolding step_by outcome
step-unharmed grant word xs B = outcome-unharmed grant (decode word) xs idle B

-- ---- any number of steps

pub seal-holds : SealHolds
seal-holds grant [] B = record { same-parameters = refl; ranges-stay = stay B.seals; same_length = refl; same_bytes = λ q h. refl }
seal-holds grant (w ∷ ws) B =
    let u = step-with-unharmed grant w.word w.scalars w.vectors B in
    let v = seal-holds grant ws (step_with grant w.word w.scalars w.vectors B).bench in
    record {
      same-parameters = v.same-parameters ∙ u.same-parameters;
      ranges-stay = stay_then u.ranges-stay v.ranges-stay;
      same_length = v.same_length ∙ u.same_length;
      same_bytes = λ q h. v.same_bytes q (stays-sealed u.ranges-stay q h) ∙ u.same_bytes q h;
    }

-- from a started machine

pub seal-holds-from-start : SealHoldsFromStart
seal-holds-from-start rlen mlen elen rule seals registers marks memory d ws q x =
    (seal-holds chosen ws (started_bench rlen mlen elen rule seals registers marks memory)).same_bytes q
    (subst (λ (o : StartOutcome). sealed o.seals q ≡ true) (sym (accepted rlen mlen elen rule seals registers marks d).leaves) x)

-- ---- adding a range

pub seal-unharmed : (grant : Choice) (start size : ℕ) (B : Bench) → Unharmed grant B (add_seal start size B).bench
unfolding add_seal
seal-unharmed grant start size B = go (is_done (verdict (seal_checks start size B)))
  where
    go : (t : Bool) → Unharmed grant B (cond t (with_seal start size B) B)
    go true = record { same-parameters = refl; ranges-stay = record { added = range start size ∷ []; behind = refl }; same_length = refl; same_bytes = λ q h. refl }
    go false = record { same-parameters = refl; ranges-stay = stay B.seals; same_length = refl; same_bytes = λ q h. refl }
