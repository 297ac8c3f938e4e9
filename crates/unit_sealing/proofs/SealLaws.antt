-- A sealing by its three tests.
use Rattle.numbers.proofs.Kit.{◌≡◌, refl, sym, ap, ◌∙◌, Bool, true, false, cond, List, [], ◌∷◌, ◌++◌, ℕ, ltb, length, Err}
use Rattle.machine.specs.declared.Machine.{Machine}
use Rattle.machine.specs.declared.Refusal.TheVariants.{BadArguments, TooManySeals}
use Rattle.machine.specs.Answers.{reply, done, is_done, Answer, Done}
use Rattle.machine.specs.Geometry.{Range, range, Bench, bench_of}
use Rattle.machine.specs.Starting.{seal_ends, most_seals}
use Rattle.machine.specs.Faults.{sound_bench}
use Rattle.machine.specs.Sealing.{add_seal, with_seal}
use Rattle.unit_ranges.specs.Ranges.{seals_in, put_seals}
use Rattle.unit_sealing.specs.SealBlock.{BlockSealed, block_sealed, seal_block}

module _ (start size : ℕ) (m : Machine) (block registers marks : List ℕ) where
  abbrev B : Bench
  B = bench_of m (seals_in block) registers marks []

  abbrev few : Bool
  few = ltb (length (seals_in block)) most_seals

  -- the answer by the tests
  abbrev answered : Bool → Bool → Bool → Answer
  answered s e f = cond s (cond e (cond f Done (Err TooManySeals)) (Err BadArguments)) (Err BadArguments)

  abbrev left : Answer → BlockSealed
  left a = record {
    answer = reply a;
    block = cond (done (reply a)) (put_seals (cond (is_done a) (with_seal start size B) B).seals block) block;
  }

  by_tests : seal_block start size m block registers marks ≡ left (answered (sound_bench B) (seal_ends start size) few)
  unfolding seal_block add_seal
  by_tests = refl

  pub seal-fault : sound_bench B ≡ false → block_sealed (Err BadArguments) block ≡ seal_block start size m block registers marks
  seal-fault h = sym (by_tests ∙ ap (λ (s : Bool). left (answered s (seal_ends start size) few)) h)

  pub seal-beyond : sound_bench B ≡ true → seal_ends start size ≡ false → block_sealed (Err BadArguments) block ≡ seal_block start size m block registers marks
  seal-beyond h e = sym (by_tests ∙ ap (λ (s : Bool). left (answered s (seal_ends start size) few)) h ∙ ap (λ (e : Bool). left (answered true e few)) e)

  pub seal-ninth : sound_bench B ≡ true → seal_ends start size ≡ true → few ≡ false → block_sealed (Err TooManySeals) block ≡ seal_block start size m block registers marks
  seal-ninth h e f =
      sym (by_tests ∙ ap (λ (s : Bool). left (answered s (seal_ends start size) few)) h ∙ ap (λ (e : Bool). left (answered true e few)) e
      ∙ ap (λ (f : Bool). left (answered true true f)) f)

  pub seal-done : sound_bench B ≡ true → seal_ends start size ≡ true → few ≡ true → (block' : List ℕ) → block' ≡ put_seals (seals_in block ++ (range start size ∷ [])) block
      → block_sealed Done block' ≡ seal_block start size m block registers marks
  seal-done h e f block' eb =
      ap (block_sealed Done) eb
      ∙ sym (by_tests ∙ ap (λ (s : Bool). left (answered s (seal_ends start size) few)) h ∙ ap (λ (e : Bool). left (answered true e few)) e
      ∙ ap (λ (f : Bool). left (answered true true f)) f)
