-- 02, Seven: a store that is accepted leaves each element where it belongs.
use Rattle.numbers.proofs.Kit.{◌≡◌, refl, sym, ap, ◌∙◌, subst, Bool, true, false, cond, List, ℕ, eq-eqb, Err}
use Rattle.numbers.specs.Blocks.{Choice}
use Rattle.machine.specs.declared.Instruction.{Instruction}
use Rattle.machine.specs.declared.Instruction.TheVariants.{Store}
use Rattle.machine.specs.Answers.{number, is_done, verdict}
use Rattle.machine.specs.Geometry.{sealed, Parameters, parameters, scalar, Bench}
use Rattle.machine.specs.Meanings.{checks, vectors_after}
use Rattle.machine.specs.Faults.{sound_bench}
use Rattle.machine.specs.Step
use Rattle.machine.specs.Vectors.{Vectors, vectors_fit, idle}
use Rattle.machine.specs.Listing.{decode}
use Rattle.machine.specs.declared.Refusal.TheVariants.{BadArguments}
use Rattle.machine.specs.Step.{VectorOutcome, beside, outcome, step_with, step_checks, given, meant, checks_in, given_in, meant_in}
use Rattle.machine.specs.Theorems.{Stores, StoresAreExact}
use Rattle.machine.proofs.TestLaws.{false-true}
use Rattle.machine.proofs.CheckLaws.{Passed, passed}
use Rattle.machine.proofs.StoreLaws.{length-stored, stored-out, store-lies, store_apart, store_byte}
use Rattle.machine.proofs.Sealing.{refusing}

-- ---- a word that is accepted

accepted_in : (W : Vectors) (M : Parameters) (i : Instruction) (xs : List ℕ) (B : Bench) (u : Bool) → is_done (verdict (checks_in W M i xs B)) ≡ u
    → (cond u (Step.carried_in W M i xs B) (Step.refused_in W M i xs B (verdict (checks_in W M i xs B)))).answer.number ≡ 0
    → (u ≡ true) × (sound_bench B ≡ true) × Passed (checks M (sealed B.seals) (meant_in W M i xs B) (given_in W M i xs B) B.memory)
accepted_in W M i xs B true e h =
    let p = passed (checks_in W M i xs B) (refusing M (sealed B.seals) (meant_in W M i xs B) (given_in W M i xs B) B.memory) e in (refl, p.0, p.1.1)
accepted_in W M i xs B false e h = absurd (false-true (sym e ∙ eq-eqb (number (verdict (checks_in W M i xs B))) 0 h))

-- of a step that is lent no vector file
pub accepted : (M : Parameters) (i : Instruction) (xs : List ℕ) (B : Bench) → (outcome M i xs B).answer.number ≡ 0
    → (sound_bench B ≡ true) × Passed (checks M (sealed B.seals) (meant M i xs B) (given M i xs B) B.memory) × (outcome M i xs B ≡ Step.carried_out M i xs B)
unfolding outcome
accepted M i xs B h =
    let a = accepted_in idle M i xs B (is_done (verdict (step_checks M i xs B))) refl h in
    (a.1, a.2, ap (λ (t : Bool). cond t (Step.carried_out M i xs B) (Step.refused M i xs B (verdict (step_checks M i xs B)))) a.0)

-- of any
pub record Accepted (grant : Choice) (i : Instruction) (xs : List ℕ) (W : Vectors) (B : Bench) (o : VectorOutcome) : Type 0 where
  pub fit : vectors_fit W ≡ true
  pub sound : sound_bench B ≡ true
  pub passes : let M : Parameters = parameters grant B.machine in Passed (checks M (sealed B.seals) (meant_in W M i xs B) (given_in W M i xs B) B.memory)
  pub leaves : let M : Parameters = parameters grant B.machine in
      o ≡ beside (vectors_after M (meant_in W M i xs B) (given_in W M i xs B) W.file) (Step.carried_in W M i xs B)

pub accepted-with : (grant : Choice) (word : ℕ) (i : Instruction) (xs : List ℕ) (W : Vectors) (B : Bench) → decode word ≡ i
    → (step_with grant word xs W B).answer.number ≡ 0 → Accepted grant i xs W B (step_with grant word xs W B)
unfolding step_with
accepted-with grant word i xs W B d h =
    subst (λ (j : Instruction). Accepted grant j xs W B (step_with grant word xs W B)) d (go (vectors_fit W) refl (is_done (verdict (checks_in W M (decode word) xs B))) refl h)
  where
    M : Parameters
    M = parameters grant B.machine

    j : Instruction
    j = decode word

    out : Bool → Bool → VectorOutcome
    out t u = cond t
        (beside (cond u (vectors_after M (meant_in W M j xs B) (given_in W M j xs B) W.file) W.file)
        (cond u (Step.carried_in W M j xs B) (Step.refused_in W M j xs B (verdict (checks_in W M j xs B)))))
        (beside W.file (Step.refused_in W M j xs B (Err BadArguments)))

    go : (t : Bool) → vectors_fit W ≡ t → (u : Bool) → is_done (verdict (checks_in W M j xs B)) ≡ u → (out t u).answer.number ≡ 0 → Accepted grant j xs W B (out t u)
    go true f true e h = let a = accepted_in W M j xs B true e h in record { fit = f; sound = a.1; passes = a.2; leaves = refl }
    go true f false e h = absurd (false-true (sym e ∙ eq-eqb (number (verdict (checks_in W M j xs B))) 0 h))
    go false f u e h = absurd (false-true (eq-eqb 8 0 h))

-- ---- a store

pub stores-are-exact : StoresAreExact
stores-are-exact grant word xs W B f k w r rs1 rs2 d h =
    let M : Parameters = parameters grant B.machine in
    let i : Instruction = Store f k w r rs1 rs2 in
    let a = accepted-with grant word i xs W B d h in
    subst (λ (o : VectorOutcome). Stores grant xs B f k w r rs1 rs2 o.bench.memory) (sym a.leaves) (record {
      lie-in-memory = store-lies M (sealed B.seals) (given_in W M i xs B) B.memory f k r w (scalar xs rs1) (scalar xs rs2) a.passes;
      no-byte-in-two-rows = store_apart M (sealed B.seals) (given_in W M i xs B) B.memory f k r w (scalar xs rs1) (scalar xs rs2) a.passes;
      elements = store_byte M (sealed B.seals) (given_in W M i xs B) B.memory f k r w (scalar xs rs1) (scalar xs rs2) a.passes;
      others = stored-out _ _ _ w _ B.memory;
      same_length = length-stored _ _ _ _ _ B.memory;
    })
