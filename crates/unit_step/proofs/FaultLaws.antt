-- Answer 8 of a step, and its word.
use Rattle.numbers.proofs.Kit.{◌≡◌, refl, sym, ap, ◌∙◌, Bool, true, false, cond, List, ℕ, length, eq-eqb, ne_eqb, Err}
use Rattle.machine.specs.declared.Instruction.{Instruction}
use Rattle.machine.specs.declared.Refusal.TheVariants.{BadArguments}
use Rattle.machine.specs.Tests.{is_in}
use Rattle.machine.specs.Answers.{reply}
use Rattle.machine.specs.Geometry.{Bench}
use Rattle.machine.specs.Vectors.{Vectors, vectors_of, vectors_fit, group_sizes}
use Rattle.machine.specs.Listing.{decode}
use Rattle.machine.specs.Faults.{sound_bench, thirty_two}
use Rattle.machine.specs.Step.{VectorOutcome, beside, step_with, vector_step}
use Rattle.unit_settings.specs.Parts.{ours}
use Rattle.unit_step.specs.Parts.{carried_beside}

-- ---- a vector file

module _ (file : List ℕ) (group : ℕ) where
  pub file-bad : ¬ (length file ≡ 512) → vectors_fit (vectors_of file group) ≡ false
  unfolding vectors_fit
  file-bad h = rw (ne_eqb (length file) 512 h)

  pub group-bad : length file ≡ 512 → is_in group group_sizes ≡ false → vectors_fit (vectors_of file group) ≡ false
  unfolding vectors_fit
  group-bad h g = rw (eq-eqb (length file) 512 h, g)

  pub file-good : length file ≡ 512 → is_in group group_sizes ≡ true → vectors_fit (vectors_of file group) ≡ true
  unfolding vectors_fit
  file-good h g = rw (eq-eqb (length file) 512 h, g)

-- ---- a step

module _ (word : ℕ) (xs : List ℕ) (W : Vectors) (B : Bench) where
  abbrev refused : VectorOutcome
  refused = beside W.file (record { answer = reply (Err BadArguments); bench = B; scalars = xs })

  abbrev by : Bool → VectorOutcome
  by t = cond t (carried_beside W (ours B.machine) (decode word) xs B) refused

  step_is : by (vectors_fit W) ≡ vector_step word xs W B
  unfolding step_with
  step_is = refl

  pub step-fault : sound_bench B ≡ false → refused ≡ vector_step word xs W B
  step-fault h = go (vectors_fit W) ∙ step_is
    where
      go : (t : Bool) → refused ≡ by t
      go true = rw h
      go false = refl

  pub step-scalars : sound_bench B ≡ true → thirty_two xs ≡ false → refused ≡ vector_step word xs W B
  step-scalars h k = go (vectors_fit W) ∙ step_is
    where
      go : (t : Bool) → refused ≡ by t
      go true = rw (h, k)
      go false = refl

  pub step-vectors : vectors_fit W ≡ false → refused ≡ vector_step word xs W B
  step-vectors f = ap by (sym f) ∙ step_is

  pub step-decoded : vectors_fit W ≡ true → (i : Instruction) → i ≡ decode word → carried_beside W (ours B.machine) i xs B ≡ vector_step word xs W B
  step-decoded f i e = ap (λ (i : Instruction). carried_beside W (ours B.machine) i xs B) e ∙ ap by (sym f) ∙ step_is
